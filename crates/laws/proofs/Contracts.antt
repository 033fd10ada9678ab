-- How two results of one contract are shown to be one.
use mathlib.Core.Path.{◌≡◌, refl, sym, ap, ◌∙◌, ◌∙⁻¹◌}
use Prim.Native.Nat.{ℕ, zero, suc}
use Rattle.std.specs.Prelude.{Option, Some, None, MatchOption}
use Rattle.std.specs.Option.{option_map}
use seplogic.Ra.Ura.{Ura}
use base.Logic.{SProp, ent, sep, via, fst∗, snd∗}
use contract.Monad.{conj, conj_l, conj_r, fact, fact_i, fact_use}

-- A result that can be told from what is said of it: two of which the same is said are one.
pub told_apart : {A B : Type 0} (said : A → B) (told : B → A) → ((x : A) → told (said x) ≡ x) → {r s : A}
    → said r ≡ said s → r ≡ s
told_apart said told back {r} {s} e = sym (back r) ∙ ap told e ∙ back s

-- A maker answers an Option of a value that is told by a part of it: of two that one clause allows the same is told.
pub same_told : {A B P : Type 0} {Q : A → Type 0} (told : A → B) → (P → (x : A) → ¬ (Q x))
    → ((x y : A) → Q x → Q y → told x ≡ told y)
    → (x y : Option A) → MatchOption x P Q → MatchOption y P Q → option_map told x ≡ option_map told y
same_told told apart same None None p q = refl
same_told told apart same None (Some y) p q = absurd (apart p y q)
same_told told apart same (Some x) None p q = absurd (apart q x p)
same_told told apart same (Some x) (Some y) p q = ap Some (same x y p q)

-- The last values of a function's parameters: one equation for each `&mut` buffer, `refl` for their end, and `skip n` for n
-- parameters that are not lent to be written, and so have none.
infixr 20 ◌&◌
pub ◌&◌ : {A B : Type 0} {v w : A × B} → v.0 ≡ w.0 → v.1 ≡ w.1 → v ≡ w
(e & f) i = (e i, f i)

abbrev pub Past : ℕ → Type 0 → Type 0
Past zero A = A
Past (suc n) A = Unit {0} × Past n A

abbrev pub past : (n : ℕ) {A : Type 0} → A → Past n A
past zero v = v
past (suc n) v = (tt, past n v)

pub skip : (n : ℕ) {A : Type 0} {v w : A} → v ≡ w → past n v ≡ past n w
skip n e i = past n (e i)

-- A clause for the answer and one for a `&mut` buffer, the only one, past n other parameters.
pub one_buffer : (n : ℕ) {A B : Type 0} {x y c : A} {v w : B × Unit {0}} {d : B} → (x ≡ c) × (v.0 ≡ d) → (y ≡ c) × (w.0 ≡ d)
    → (x ≡ y) × (past n v ≡ past n w)
one_buffer n p q = (p.0 ∙⁻¹ q.0, skip n (p.1 ∙⁻¹ q.1 & refl))

-- A contract that is an assertion of the logic is read by its facts. Two facts that are told one beside the other are one; and
-- what follows from what two assertions tell is a fact where both hold.
module _ {M : Type 1} (𝓤 : Ura M) where
  pub both_facts : {φ ψ : Type 0} → ent 𝓤 (sep 𝓤 (fact 𝓤 φ) (fact 𝓤 ψ)) (fact 𝓤 (φ × ψ))
  both_facts {φ} {ψ} =
      let P : SProp 𝓤 = sep 𝓤 (fact 𝓤 φ) (fact 𝓤 ψ) in
      fact_use 𝓤 φ (fst∗ 𝓤 (fact 𝓤 φ) (fact 𝓤 ψ)) (λ p.
      fact_use 𝓤 ψ (snd∗ 𝓤 (fact 𝓤 φ) (fact 𝓤 ψ)) (λ q. fact_i 𝓤 (φ × ψ) P (p, q)))

  pub from_facts : {P Q : SProp 𝓤} {φ ψ χ : Type 0} → ent 𝓤 P (fact 𝓤 φ) → ent 𝓤 Q (fact 𝓤 ψ) → (φ → ψ → χ)
      → ent 𝓤 (conj 𝓤 P Q) (fact 𝓤 χ)
  from_facts {P} {Q} {φ} {ψ} {χ} h k f =
      fact_use 𝓤 φ (via 𝓤 P (conj_l 𝓤 P Q) h) (λ p.
      fact_use 𝓤 ψ (via 𝓤 Q (conj_r 𝓤 P Q) k) (λ q. fact_i 𝓤 χ (conj 𝓤 P Q) (f p q)))
