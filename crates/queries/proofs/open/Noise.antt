-- The noise: sA + e, one row of A after another.
use mathlib.Core.Path.{◌≡◌, refl, sym, ap, ◌∙◌}
use mathlib.Core.List.{List}
use Prim.Native.Nat.{ℕ, ◌+◌, ◌*◌, ◌%◌, ◌^◌, ◌<◌}
use native.Mathlib.Nat.{zero-add, mod-eq_of_lt}
use native.Mathlib.Numerals.{add-one}
use native.Mathlib.Omega.{arith}
use lib.ListN.{length, get_or}
use Rattle.laws.specs.Lists.{build, row}
use Rattle.laws.specs.Sums.{sum}
use Rattle.laws.proofs.Lists.{length-build, get_or-build, build_ext, build-get_or}
use Rattle.laws.proofs.Sums.{cong_eq, cong_wrap, cong_add, wrap_add}
use Rattle.plain.specs.Matrix.{cell}
use Rattle.plain.proofs.matrix.Cells.{row-cell, product_word}
use Rattle.queries.specs.Open.{noisy}

-- s_0 A_0j + .. + s_(i-1) A_(i-1)j, for a matrix of r columns
abbrev pub summed : ℕ → List ℕ → List ℕ → ℕ → ℕ → ℕ
summed r s m i j = sum i (λ t. get_or s t 0 * cell r m t j)

-- e with the first i rows added
abbrev pub partly_added : ℕ → List ℕ → List ℕ → List ℕ → ℕ → List ℕ
partly_added r s m e i = build r (λ j. (summed r s m i j + get_or e j 0) % 2 ^ 32)

module _ (s m e : List ℕ) where
  -- words stay as they are, modulo 2^32
  pub none_added : ((j : ℕ) → get_or e j 0 < 2 ^ 32) → e ≡ partly_added (length e) s m e 0
  unfolding sum
  none_added small =
      sym (build-get_or e 0)
      ∙ build_ext (length e) _ _
      (λ j _. sym (ap (λ (x : ℕ). x % 2 ^ 32) (zero-add (get_or e j 0)) ∙ mod-eq_of_lt (small j)))

  -- row i more
  pub row_added : (r i : ℕ) (xs ys : List ℕ) → xs ≡ partly_added r s m e i → ys ≡ row r m i
      → build (length xs) (λ j. (get_or xs j 0 + get_or s i 0 * get_or ys j 0) % 2 ^ 32) ≡ partly_added r s m e (i + 1)
  unfolding sum
  row_added r i xs ys hx hy =
      ap (λ (n : ℕ). build n (λ j. (get_or xs j 0 + get_or s i 0 * get_or ys j 0) % 2 ^ 32)) (ap length hx ∙ length-build r _)
      ∙ build_ext r _ _ (λ j h. rw (add-one i) (word j h))
    where
      word : (j : ℕ) → j < r
          → (get_or xs j 0 + get_or s i 0 * get_or ys j 0) % 2 ^ 32
          ≡ (summed r s m i j + get_or s i 0 * cell r m i j + get_or e j 0) % 2 ^ 32
      word j h =
          let x : get_or xs j 0 ≡ (summed r s m i j + get_or e j 0) % 2 ^ 32 =
          ap (λ (l : List ℕ). get_or l j 0) hx ∙ get_or-build r _ j 0 h in
          let y : get_or ys j 0 ≡ cell r m i j = ap (λ (l : List ℕ). get_or l j 0) hy ∙ row-cell r m i j h in
          wrap_add (summed r s m i j + get_or e j 0) (get_or xs j 0) _ x (cong_eq (ap (λ (z : ℕ). get_or s i 0 * z) y)) refl
          ∙ ap (λ (z : ℕ). z % 2 ^ 32) (omega arith)

  -- all n rows: sA + e
  pub all_added : (n r : ℕ) → partly_added r s m e n ≡ noisy n r s m e
  unfolding noisy
  all_added n r =
      build_ext r _ _ (λ j h. sym (cong_add (cong_wrap (summed r s m n j) (product_word n r s m j h)) (cong_eq refl)).same)
