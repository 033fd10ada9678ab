-- Document 01, "Packed product": the plain product and the transpose, the ordinary ones, modulo 2^32.
use Rattle.std.specs.Prelude.{ℕ, ◌+◌, ◌*◌, ◌%◌, ◌^◌, Bool, not, ◌||◌, List, [], ◌∷◌, length, ◌==◌, nat_lt, slice_index}
use Rattle.laws.specs.Refusals.{◌⇒◌, first, after, outside}
use Rattle.laws.specs.Lists.{build, join, laid}
use Rattle.laws.specs.Sums.{sum}

-- the word in row i and column j of a matrix of k columns
abbrev pub cell : ℕ → List ℕ → ℕ → ℕ → ℕ
cell k x i j = slice_index x (i * k + j)

-- a matrix of rows times columns words, made cell by cell
unfoldable pub grid : ℕ → ℕ → (ℕ → ℕ → ℕ) → List ℕ
grid rows columns f = join rows (λ i. build columns (f i))

-- the product of a matrix of r times m words and one of m times c
unfoldable pub times : ℕ → ℕ → ℕ → List ℕ → List ℕ → List ℕ
times r m c x y = grid r c (λ i j. sum m (λ t. cell m x i t * cell c y t j) % 2 ^ 32)

-- a matrix of r times c words, its rows made columns
unfoldable pub transposed : ℕ → ℕ → List ℕ → List ℕ
transposed r c x = grid c r (λ j i. cell c x i j)

-- 2, for a plain matrix: a dimension outside 1 to 4,096, or a lent length that is not rows times columns
unfoldable pub matrix_bad : ℕ → ℕ → ℕ → Bool
matrix_bad rows columns lent = outside 1 4096 rows || outside 1 4096 columns || not (lent == rows * columns)

-- what the plain product answers, given factors and an output of these lengths, and what the output holds then
unfoldable pub times_number : ℕ → ℕ → ℕ → ℕ → ℕ → ℕ → ℕ
times_number r m c lentLeft lentRight room =
    first ((matrix_bad r m lentLeft || matrix_bad m c lentRight || nat_lt room (r * c)) ⇒ 2 ∷ [])

abbrev pub times_after : ℕ → ℕ → ℕ → List ℕ → List ℕ → List ℕ → List ℕ
times_after r m c left right out =
    after (times_number r m c (length left) (length right) (length out)) (laid (times r m c left right) out) out

-- the same of the transpose
unfoldable pub transpose_number : ℕ → ℕ → ℕ → ℕ → ℕ
transpose_number r c lent room = first ((matrix_bad r c lent || nat_lt room (r * c)) ⇒ 2 ∷ [])

abbrev pub transpose_after : ℕ → ℕ → List ℕ → List ℕ → List ℕ
transpose_after r c words out =
    after (transpose_number r c (length words) (length out)) (laid (transposed r c words) out) out
