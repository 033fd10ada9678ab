-- Two results that a function's own contract allows for one input coincide, the answer and each lent buffer alike.
use mathlib.Core.Path.{refl, ◌∙⁻¹◌}
use Rattle.laws.specs.Uniqueness.{AllowsOne, TellsOne}
use Rattle.laws.proofs.Contracts.{◌&◌, skip}
use Rattle.answers.proofs.Apart.{same_sampling}
use Rattle.samples.proofs.sampler.words_to_read
use Rattle.samples.proofs.sampler.sample_from_uniform_ternary_dist as sample
use Rattle.samples.proofs.sampler.sample_and_return_unread as sister

pub words_to_read_settled : AllowsOne words_to_read.Kinds.ps words_to_read.Kinds.r words_to_read.Reads.Post
words_to_read_settled κs a x y v w p q = (same_sampling (p.0 ∙⁻¹ q.0) (p.1 ∙⁻¹ q.1), refl)

pub sample_from_uniform_ternary_dist_settled : AllowsOne sample.Kinds.ps sample.Kinds.r sample.Reads.Post
sample_from_uniform_ternary_dist_settled κs a x y v w p q =
    (same_sampling (p.0 ∙⁻¹ q.0) (p.1.0 ∙⁻¹ q.1.0), skip 2 (p.1.1 ∙⁻¹ q.1.1 & refl))

-- The sister answers a part of the words, by reference: what it holds is told, and so how long it is.
pub sample_and_return_unread_settled : TellsOne sister.Kinds.ps sister.Kinds.r sister.Reads.Post (λ κs tail. tail.now)
sample_and_return_unread_settled κs a x y v w p q = (p.0 ∙⁻¹ q.0, skip 2 (p.1 ∙⁻¹ q.1 & refl))
