-- The cells of a matrix that was made cell by cell.
use Rattle.std.proofs.Common.{◌≡◌, ℕ, ◌+◌, ◌*◌, ◌%◌, ◌^◌, ◌<◌, List, length, get_or, sym, ap, ◌∙◌, one-mul, arith}
use Rattle.laws.specs.Lists.{build, row}
use Rattle.laws.specs.Sums.{sum}
use Rattle.laws.proofs.Lists.{get_d_part, length-build, get_or-build, build_ext, row-join, length-join}
use Rattle.laws.proofs.Sums.{sum_ext}
use Rattle.plain.specs.Matrix.{cell, grid, times, transposed}

-- a word of a row is the matrix's, from where the row starts
pub row-cell : (k : ℕ) (m : List ℕ) (i j : ℕ) → j < k → get_or (row k m i) j 0 ≡ cell k m i j
row-cell k m i j h = get_d_part (i * k) k m j 0 h

module _ (rows columns : ℕ) (f : ℕ → ℕ → ℕ) where
  pub length-grid : length (grid rows columns f) ≡ rows * columns
  unfolding grid
  length-grid = length-join columns (λ i. build columns (f i)) rows (λ i _. length-build columns (f i))

  pub cell-grid : (i j : ℕ) → i < rows → j < columns → cell columns (grid rows columns f) i j ≡ f i j
  unfolding grid
  cell-grid i j hi hj =
      sym (row-cell columns (grid rows columns f) i j hj)
      ∙ ap (λ (xs : List ℕ). get_or xs j 0) (row-join columns (λ t. build columns (f t)) rows (λ t _. length-build columns (f t)) i hi)
      ∙ get_or-build columns (f i) j 0 hj

pub cell-times : (r m c : ℕ) (x y : List ℕ) (i j : ℕ) → i < r → j < c
    → cell c (times r m c x y) i j ≡ sum m (λ t. cell m x i t * cell c y t j) % 2 ^ 32
unfolding times
cell-times r m c x y i j hi hj = cell-grid r c (λ i j. sum m (λ t. cell m x i t * cell c y t j) % 2 ^ 32) i j hi hj

-- Words times a matrix: the words are a matrix of one row.
pub length-product : (m c : ℕ) (v y : List ℕ) → length (times 1 m c v y) ≡ c
unfolding times
length-product m c v y = length-grid 1 c _ ∙ one-mul c

pub product_word : (m c : ℕ) (v y : List ℕ) (j : ℕ) → j < c
    → get_or (times 1 m c v y) j 0 ≡ sum m (λ t. get_or v t 0 * cell c y t j) % 2 ^ 32
product_word m c v y j h =
    let first : 0 * c + j ≡ j = omega arith in
    ap (λ (k : ℕ). get_or (times 1 m c v y) k 0) (sym first)
    ∙ cell-times 1 m c v y 0 j (omega arith) h
    ∙ ap (λ (x : ℕ). x % 2 ^ 32)
    (sum_ext m _ _ (λ t _.
    let at : 0 * m + t ≡ t = omega arith in
    ap (λ (k : ℕ). get_or v k 0 * cell c y t j) at))

pub cell-transposed : (r c : ℕ) (x : List ℕ) (i j : ℕ) → i < r → j < c → cell r (transposed r c x) j i ≡ cell c x i j
unfolding transposed
cell-transposed r c x i j hi hj = cell-grid c r (λ j i. cell c x i j) j i hj hi

-- a row of the product, from the row of the left matrix
pub row_of_times : (m c : ℕ) (x y : List ℕ) (i : ℕ) (xs : List ℕ) → xs ≡ row m x i
    → build c (λ j. sum m (λ t. get_or xs t 0 * cell c y t j) % 2 ^ 32)
    ≡ build c (λ j. sum m (λ t. cell m x i t * cell c y t j) % 2 ^ 32)
row_of_times m c x y i xs hx =
    build_ext c _ _
    (λ j _.
    ap (λ (s : ℕ). s % 2 ^ 32)
    (sum_ext m (λ t. get_or xs t 0 * cell c y t j) (λ t. cell m x i t * cell c y t j)
    (λ t h. ap (λ (z : ℕ). z * cell c y t j) (ap (λ (l : List ℕ). get_or l t 0) hx ∙ row-cell m x i t h))))
