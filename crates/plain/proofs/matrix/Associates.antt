-- (xy)z = x(yz), modulo 2^32, for matrices of a times b, b times c and c times d words.
use Rattle.std.proofs.Common.{◌≡◌, ℕ, ◌*◌, ◌%◌, ◌^◌, ◌<◌, List, sym, ◌∙◌, mul_assoc}
use Rattle.laws.specs.Sums.{sum, Cong}
use Rattle.laws.proofs.Lists.{build_ext, join_ext}
use Rattle.laws.proofs.Sums.{sum_ext, sum-mul, sum-mul_right, sum_swap, cong_eq, cong_sym, cong_trans, cong_wrap, cong_mul, cong_mul_right, cong_sum}
use Rattle.plain.specs.Matrix.{cell, grid, times}
use Rattle.plain.proofs.matrix.Cells.{cell-times}

module _ (a b c d : ℕ) (x y z : List ℕ) where
  -- one term of the double sum that both sides are
  abbrev term : ℕ → ℕ → ℕ → ℕ → ℕ
  term i j t s = cell b x i t * (cell c y t s * cell d z s j)

  left_side : (i j : ℕ) → i < a
      → Cong (2 ^ 32) (sum c (λ s. cell c (times a b c x y) i s * cell d z s j)) (sum c (λ s. sum b (λ t. term i j t s)))
  left_side i j hi =
      cong_sum c (λ s. cell c (times a b c x y) i s * cell d z s j) (λ s. sum b (λ t. term i j t s))
      (λ s hs.
      cong_trans
      (cong_mul_right (cell d z s j) (cong_wrap (sum b (λ t. cell b x i t * cell c y t s)) (cell-times a b c x y i s hi hs)))
      (cong_eq
      (sym (sum-mul_right b (cell d z s j) (λ t. cell b x i t * cell c y t s))
      ∙ sum_ext b (λ t. cell b x i t * cell c y t s * cell d z s j) (λ t. term i j t s)
      (λ t _. mul_assoc (cell b x i t) (cell c y t s) (cell d z s j)))))

  right_side : (i j : ℕ) → j < d
      → Cong (2 ^ 32) (sum b (λ t. cell b x i t * cell d (times b c d y z) t j)) (sum b (λ t. sum c (term i j t)))
  right_side i j hj =
      cong_sum b (λ t. cell b x i t * cell d (times b c d y z) t j) (λ t. sum c (term i j t))
      (λ t ht.
      cong_trans
      (cong_mul (cell b x i t) (cong_wrap (sum c (λ s. cell c y t s * cell d z s j)) (cell-times b c d y z t j ht hj)))
      (cong_eq (sym (sum-mul c (cell b x i t) (λ s. cell c y t s * cell d z s j)))))

  -- cell by cell
  same_cell : (i j : ℕ) → i < a → j < d
      → sum c (λ s. cell c (times a b c x y) i s * cell d z s j) % 2 ^ 32
      ≡ sum b (λ t. cell b x i t * cell d (times b c d y z) t j) % 2 ^ 32
  same_cell i j hi hj =
      (cong_trans (left_side i j hi)
      (cong_trans (cong_eq (sum_swap c b (λ s t. term i j t s))) (cong_sym (right_side i j hj)))).same

  pub times-cell : (i j : ℕ) → i < a → j < d
      → cell d (times a c d (times a b c x y) z) i j ≡ cell d (times a b d x (times b c d y z)) i j
  times-cell i j hi hj =
      cell-times a c d (times a b c x y) z i j hi hj
      ∙ same_cell i j hi hj
      ∙ sym (cell-times a b d x (times b c d y z) i j hi hj)

  -- and so the whole
  pub times_associates : times a c d (times a b c x y) z ≡ times a b d x (times b c d y z)
  unfolding times grid
  times_associates =
      join_ext a _ _ (λ i hi. build_ext d _ _ (λ j hj. same_cell i j hi hj))
