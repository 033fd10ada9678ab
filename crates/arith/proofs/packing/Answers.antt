-- The three entries' first step: what a refusal and what success say.
use Rattle.std.proofs.Common.{◌≡◌, ℕ, Bool, false, [], ◌∷◌, sym, ap, ◌∙◌}
use Rattle.laws.specs.Refusals.{◌⇒◌, first, width_bad}
use Rattle.laws.proofs.Refusals.{passed}

-- the number of an answer, by the test of the shape that the definition has
pub numbered : (b : ℕ) {shape bad : Bool} {number : ℕ} → shape ≡ bad → number ≡ first (width_bad b ⇒ 1 ∷ shape ⇒ 2 ∷ [])
    → number ≡ first (width_bad b ⇒ 1 ∷ bad ⇒ 2 ∷ [])
numbered b s n = n ∙ ap (λ (t : Bool). first (width_bad b ⇒ 1 ∷ t ⇒ 2 ∷ [])) s

-- 0: the shape is not bad
pub accepted : (b : ℕ) (bad : Bool) → 0 ≡ first (width_bad b ⇒ 1 ∷ bad ⇒ 2 ∷ []) → bad ≡ false
accepted b bad e = (passed bad 1 [] (passed (width_bad b) 0 (bad ⇒ 2 ∷ []) (sym e)).1).0
