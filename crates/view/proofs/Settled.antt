-- Two results that a function's own contract allows for one input coincide, the answer and each lent buffer alike. Of
-- the three that take or return a view it is said in the logic, of their clauses; of `times`, which does neither, of its `Reads`.
use mathlib.Core.Path.{refl, ◌∙⁻¹◌}
use base.Logic.{id⊢}
use Rattle.laws.specs.Uniqueness.{AllowsOne, WalkAllowsOne}
use Rattle.laws.proofs.Contracts.{◌&◌, skip, from_facts, both_facts}
use Rattle.answers.proofs.Apart.{same_packing}
use Rattle.view.specs.contracts.packed.view
use Rattle.view.specs.contracts.packed.multiply
use Rattle.view.proofs.packed.times
use Rattle.view.specs.contracts.packed.unpack

pub view_settled : (M : Type 1) → WalkAllowsOne M view.ended (λ 𝓤. view.clauses {𝓤 = 𝓤})
view_settled M 𝓤 𝓛 mem run κs a g x y v w = from_facts 𝓤 (id⊢ 𝓤 _) (id⊢ 𝓤 _) (λ p q. (p ∙⁻¹ q, refl))

pub multiply_settled : (M : Type 1) → WalkAllowsOne M multiply.ended (λ 𝓤. multiply.clauses {𝓤 = 𝓤})
multiply_settled M 𝓤 𝓛 mem run κs a g x y v w = from_facts 𝓤 (both_facts 𝓤) (both_facts 𝓤)
    (λ p q. (same_packing (p.0 ∙⁻¹ q.0), skip 2 (p.1 ∙⁻¹ q.1 & refl)))

pub times_settled : AllowsOne times.Kinds.ps times.Kinds.r times.Reads.Post
times_settled κs a x y v w p q =
    (same_packing (p.0 ∙⁻¹ q.0), skip 5 (p.1 ∙⁻¹ q.1 & refl))

pub unpack_settled : (M : Type 1) → WalkAllowsOne M unpack.ended (λ 𝓤. unpack.clauses {𝓤 = 𝓤})
unpack_settled M 𝓤 𝓛 mem run κs a g x y v w = from_facts 𝓤 (both_facts 𝓤) (both_facts 𝓤)
    (λ p q. (same_packing (p.0 ∙⁻¹ q.0), skip 1 (p.1 ∙⁻¹ q.1 & refl)))
