-- What positions that are not bad say: each is below r, and no two are equal.
use mathlib.Core.Path.{◌≡◌, sym, ap, ◌∙◌}
use mathlib.Core.Bool.{Bool, false}
use mathlib.Core.List.{List}
use Prim.Native.Nat.{ℕ, ◌<◌, ◌≤◌}
use native.Mathlib.Decide.{dec_lt}
use native.Mathlib.Omega.{arith}
use lib.Dec.{leb, eqb}
use lib.ListN.{length, get_or, take}
use Rattle.std.specs.List.{list_any}
use Rattle.std.proofs.lemmas.List.{length-take-le, get_or-take}
use borrow.Author.Tests.{leb-false, eqb-false}
use Rattle.laws.specs.Search.{some}
use Rattle.laws.proofs.Refusals.{neither}
use Rattle.laws.proofs.Search.{none_holds, some_ext, list_any-some}
use Rattle.leaves.specs.Positions.{positions_bad}

-- the tests that `positions_bad` makes at position s
abbrev pub far : ℕ → List ℕ → ℕ → Bool
far r ps s = leb r (get_or ps s 0)

abbrev pub same : List ℕ → ℕ → ℕ → Bool
same ps s t = eqb (get_or ps t 0) (get_or ps s 0)

abbrev pub twice : List ℕ → ℕ → Bool
twice ps s = some s (same ps s)

-- a position is among those before it
pub stands_before : (ps : List ℕ) (s : ℕ) → s ≤ length ps → list_any (λ y. eqb y (get_or ps s 0)) (take s ps) ≡ twice ps s
stands_before ps s h =
    list_any-some (λ y. eqb y (get_or ps s 0)) 0 (take s ps)
    ∙ ap (λ n. some n (λ i. eqb (get_or (take s ps) i 0) (get_or ps s 0))) (length-take-le s ps h)
    ∙ some_ext _ (same ps s) s (λ i l. ap (λ y. eqb y (get_or ps s 0)) (get_or-take s ps i 0 l))

-- each position is below r
pub below : (r : ℕ) (ps : List ℕ) → positions_bad r ps ≡ false → (s : ℕ) → s < length ps → get_or ps s 0 < r
unfolding positions_bad
below r ps h s l =
    leb-false r (get_or ps s 0)
    (none_holds (far r ps) (length ps) s (neither (some (length ps) (far r ps)) (some (length ps) (twice ps)) h).0 l)

-- and no two are equal
module _ (r : ℕ) (ps : List ℕ) (h : positions_bad r ps ≡ false) where
  earlier : (s t : ℕ) → t < s → s < length ps → ¬ (get_or ps t 0 ≡ get_or ps s 0)
  unfolding positions_bad
  earlier s t k l =
      eqb-false (get_or ps t 0) (get_or ps s 0)
      (none_holds (same ps s) s t
      (none_holds (twice ps) (length ps) s (neither (some (length ps) (far r ps)) (some (length ps) (twice ps)) h).1 l) k)

  pub distinct : (s t : ℕ) → s < length ps → t < length ps → ¬ (s ≡ t) → ¬ (get_or ps s 0 ≡ get_or ps t 0)
  distinct s t l m ne e =
      elim (dec_lt s t) [
        | yes k ↦ earlier t s k m e
        | no g ↦ earlier s t (let z : t < s = omega arith in z) l (sym e)
      ]
