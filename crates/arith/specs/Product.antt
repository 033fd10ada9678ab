-- Document 01, "Packed product".
use Rattle.std.specs.Prelude.{ℕ, ◌*◌, ◌%◌, ◌^◌, Bool, not, ◌||◌, List, [], ◌∷◌, length, ◌==◌, slice_index}
use Rattle.laws.specs.Refusals.{◌⇒◌, first, after, width_bad}
use Rattle.laws.specs.Lists.{build, row, laid}
use Rattle.laws.specs.Sums.{sum}
use Rattle.arith.specs.Packing.{words_of, slot, element_of, packing_shape_bad}

-- the sum over i of v_i times element i of a packed row, modulo 2^32
unfoldable pub entry_of : ℕ → List ℕ → List ℕ → ℕ
entry_of b v ws = sum (length v) (λ i. slice_index v i * element_of b ws i) % 2 ^ 32

-- a vector times the transpose of a packed matrix: entry j is that of packed row j
unfoldable pub product : ℕ → ℕ → List ℕ → List ℕ → List ℕ
product b rows v ws = build rows (λ j. entry_of b v (row (words_of b (length v)) ws j))

-- the same of a matrix that is not packed: what the product with a packed one is proved to be
unfoldable pub times_rows : ℕ → List ℕ → List ℕ → List ℕ
times_rows rows v m = build rows (λ j. sum (length v) (λ i. slice_index v i * slice_index (row (length v) m j) i) % 2 ^ 32)

-- 2: a vector whose length is not k, or `rows` rows of `width` packed words that don't fit, one sum from each
unfoldable pub operands_bad : ℕ → ℕ → ℕ → ℕ → ℕ → ℕ → Bool
operands_bad rows k width vector lent room = not (vector == k) || packing_shape_bad rows k width 1 lent room

-- what is lent to a packed product: a vector, a packed matrix of `rows` rows of k elements of b bits, and the output
pub record Factors : Type 0 where
  pub b : ℕ
  pub rows : ℕ
  pub k : ℕ
  pub vector : List ℕ
  pub words : List ℕ
  pub out : List ℕ

abbrev pub factors : ℕ → ℕ → ℕ → List ℕ → List ℕ → List ℕ → Factors
factors b rows k vector words out = record { b = b; rows = rows; k = k; vector = vector; words = words; out = out }

-- what the packed product answers
unfoldable pub product_number : Factors → ℕ
product_number f =
    first (
    width_bad f.b ⇒ 1
    ∷ operands_bad f.rows f.k (words_of f.b f.k) (length f.vector) (length f.words) (length f.out) ⇒ 2
    ∷ []
    )

-- and what the output holds then
abbrev pub product_after : Factors → List ℕ
product_after f = after (product_number f) (laid (product f.b f.rows f.vector f.words) f.out) f.out

-- What the worker on one word makes: the part of an entry that its slots give, modulo 2^32. No public contract cites this.
abbrev pub slot_sum : ℕ → ℕ → ℕ → List ℕ → ℕ
slot_sum b w word xs = sum (length xs) (λ s. slice_index xs s * slot b w word s) % 2 ^ 32
