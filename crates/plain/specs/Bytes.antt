-- Document 01, "Matrix bytes": rows, columns, elements, each u32 little-endian.
use Rattle.std.specs.Prelude.{ℕ, ◌+◌, ◌*◌, ◌/◌, ◌%◌, ◌^◌, Bool, not, ◌||◌, List, [], ◌∷◌, length, ◌==◌, nat_lt, slice_index}
use Rattle.laws.specs.Refusals.{◌⇒◌, first, after, outside}
use Rattle.laws.specs.Lists.{build, join, laid}
use Rattle.laws.specs.Sums.{sum}
use Rattle.plain.specs.Matrix.{matrix_bad}

-- the first n bytes of a number, lowest first, and the four of a word
abbrev pub low_bytes : ℕ → ℕ → List ℕ
low_bytes n x = build n (λ i. x / 256 ^ i % 256)

abbrev pub word_bytes : ℕ → List ℕ
word_bytes x = low_bytes 4 x

-- numbers, each as its four bytes
unfoldable pub all_bytes : List ℕ → List ℕ
all_bytes xs = join (length xs) (λ q. word_bytes (slice_index xs q))

-- a matrix as bytes
unfoldable pub matrix_bytes : ℕ → ℕ → List ℕ → List ℕ
matrix_bytes rows columns words = all_bytes (rows ∷ columns ∷ words)

-- word q of bytes, from byte 4q on, lowest first
unfoldable pub word_at : List ℕ → ℕ → ℕ
word_at bytes q = sum 4 (λ i. slice_index bytes (q * 4 + i) * 256 ^ i)

-- what the writer answers, given words and an output of these lengths, and what the output holds then
unfoldable pub to_bytes_number : ℕ → ℕ → ℕ → ℕ → ℕ
to_bytes_number rows columns lent room = first ((matrix_bad rows columns lent || nat_lt room (8 + 4 * (rows * columns))) ⇒ 2 ∷ [])

abbrev pub to_bytes_after : ℕ → ℕ → List ℕ → List ℕ → List ℕ
to_bytes_after rows columns words out =
    after (to_bytes_number rows columns (length words) (length out)) (laid (matrix_bytes rows columns words) out) out

-- the dimensions that the bytes name, and the words that follow
abbrev pub rows_of : List ℕ → ℕ
rows_of bytes = word_at bytes 0

abbrev pub columns_of : List ℕ → ℕ
columns_of bytes = word_at bytes 1

unfoldable pub elements_of : List ℕ → List ℕ
elements_of bytes = build (rows_of bytes * columns_of bytes) (λ q. word_at bytes (2 + q))

-- 11: the length is not exactly what the dimensions give
unfoldable pub length_bad : List ℕ → Bool
length_bad bytes = not (length bytes == 8 + 4 * (rows_of bytes * columns_of bytes))

-- 2: a dimension outside its limit, or an output too short
unfoldable pub parsed_bad : List ℕ → ℕ → Bool
parsed_bad bytes room =
    outside 1 4096 (rows_of bytes) || outside 1 4096 (columns_of bytes) || nat_lt room (rows_of bytes * columns_of bytes)

-- what the reader answers, given an output of this length, and what the output holds then
unfoldable pub from_bytes_number : List ℕ → ℕ → ℕ
from_bytes_number bytes room = first (length_bad bytes ⇒ 11 ∷ parsed_bad bytes room ⇒ 2 ∷ [])

abbrev pub from_bytes_rows : List ℕ → ℕ → ℕ
from_bytes_rows bytes room = after (from_bytes_number bytes room) (rows_of bytes) 0

abbrev pub from_bytes_columns : List ℕ → ℕ → ℕ
from_bytes_columns bytes room = after (from_bytes_number bytes room) (columns_of bytes) 0

abbrev pub from_bytes_after : List ℕ → List ℕ → List ℕ
from_bytes_after bytes out = after (from_bytes_number bytes (length out)) (laid (elements_of bytes) out) out
