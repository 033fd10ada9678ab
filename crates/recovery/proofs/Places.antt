-- A sum over the rows that are among good positions is the sum over those positions, however many.
use mathlib.Core.Path.{◌≡◌, refl, sym, ◌∙◌}
use mathlib.Core.Bool.{Bool, false, cond, or-true, or-false}
use mathlib.Core.List.{List}
use Prim.Native.Nat.{ℕ, zero, suc, ◌*◌, ◌<◌, ◌≤◌}
use native.Mathlib.Nat.{zero-mul}
use native.Mathlib.Decide.{ℕ_discrete}
use native.Mathlib.Omega.{arith}
use lib.Dec.{eqb}
use lib.ListN.{length, get_or}
use borrow.Author.Tests.{eq-eqb, ne_eqb}
use Rattle.laws.specs.Search.{some}
use Rattle.laws.specs.Sums.{sum}
use Rattle.laws.proofs.Search.{some-false}
use Rattle.laws.proofs.Sums.{sum_ext, sum-mul, sum_apart}
use Rattle.leaves.specs.Positions.{among, positions_bad}
use Rattle.leaves.proofs.positions.Distinct.{below, distinct}

module _ (r : ℕ) (ps : List ℕ) (good : positions_bad r ps ≡ false) (f : ℕ → ℕ) where
  -- row i is among the first k positions
  abbrev early : ℕ → ℕ → Bool
  early k i = some k (λ s. eqb (get_or ps s 0) i)

  abbrev picked : ℕ → ℕ → ℕ
  picked k i = cond (early k i) (f i) 0

  -- position k is not among those before it
  new : (k : ℕ) → k < length ps → early k (get_or ps k 0) ≡ false
  new k h =
      some-false (λ s. eqb (get_or ps s 0) (get_or ps k 0)) k
      (λ s l. ne_eqb (get_or ps s 0) (get_or ps k 0) (distinct r ps good s k (omega arith) h (λ e. omega arith)))

  -- so with it the sum changes at its row alone
  sum_early : (k : ℕ) → k ≤ length ps → sum r (picked k) ≡ sum k (λ s. f (get_or ps s 0))
  unfolding sum some
  sum_early zero h = sum_ext r (λ i. 0) (λ i. 0 * f i) (λ i _. sym (zero-mul (f i))) ∙ sum-mul r 0 f ∙ zero-mul (sum r f)
  sum_early (suc k) h =
      omega (
        arith,
        sum_early k (omega arith),
        sum_apart r p (picked k) inside,
        sum_apart r p (picked (suc k)) inside,
        others,
        before,
        now,
      )
    where
      p : ℕ
      p = get_or ps k 0

      inside : p < r
      inside = below r ps good k h

      others : sum r (λ i. cond (eqb i p) 0 (picked (suc k) i)) ≡ sum r (λ i. cond (eqb i p) 0 (picked k i))
      others =
          sum_ext r (λ i. cond (eqb i p) 0 (picked (suc k) i)) (λ i. cond (eqb i p) 0 (picked k i))
          (λ i _. elim (ℕ_discrete i p) [
            | yes e ↦ rw (eq-eqb i p e)
            | no n ↦ rw (ne_eqb p i (λ e. n (sym e)), or-false (early k i))
          ])

      before : picked k p ≡ 0
      before = rw (new k h)

      now : picked (suc k) p ≡ f p
      now = rw (eq-eqb p p refl, or-true (early k p))

  pub sum-among : sum r (λ i. cond (among ps i) (f i) 0) ≡ sum (length ps) (λ s. f (get_or ps s 0))
  unfolding among
  sum-among = sum_early (length ps) (omega arith)
