-- Document 01, "Packing".
use Rattle.std.specs.Prelude.{ℕ, ◌+◌, ◌-◌, ◌*◌, ◌/◌, ◌%◌, ◌^◌, Bool, cond, not, ◌||◌, List, [], ◌∷◌, length, ◌==◌, nat_le, nat_lt, slice_index}
use Rattle.laws.specs.Refusals.{◌⇒◌, first, after, outside, width_bad}
use Rattle.laws.specs.Lists.{build, join, part, row, laid}
use Rattle.laws.specs.Sums.{sum}

-- b 4 to 8: four slots of 8 bits; 9 and 10: three of 10; 11 to 14: two of 16
unfoldable pub factor_of : ℕ → ℕ
factor_of b = cond (nat_le b 8) 4 (cond (nat_le b 10) 3 2)

unfoldable pub slot_bits : ℕ → ℕ
slot_bits b = cond (nat_le b 8) 8 (cond (nat_le b 10) 10 16)

-- k / factor, rounded up
unfoldable pub words_of : ℕ → ℕ → ℕ
words_of b k = (k + (factor_of b - 1)) / factor_of b

-- the low b bits of each element in its slot of w bits, the first element lowest; the other bits are zero
unfoldable pub word_of : ℕ → ℕ → List ℕ → ℕ
word_of b w xs = sum (length xs) (λ s. (slice_index xs s % 2 ^ b) * 2 ^ (s * w))

-- a row, word by word: word q has the elements from q * factor on, as many as there are up to factor
unfoldable pub pack_row : ℕ → List ℕ → List ℕ
pack_row b xs = build (words_of b (length xs)) (λ q. word_of b (slot_bits b) (part (q * factor_of b) (factor_of b) xs))

-- a matrix of k columns, row by row
unfoldable pub packed : ℕ → ℕ → ℕ → List ℕ → List ℕ
packed b rows k m = join rows (λ j. pack_row b (row k m j))

-- the low b bits of slot s; the slot's other bits are ignored
abbrev pub slot : ℕ → ℕ → ℕ → ℕ → ℕ
slot b w word s = word / 2 ^ (s * w) % 2 ^ b

-- element i of a packed row: slot i % factor of word i / factor
unfoldable pub element_of : ℕ → List ℕ → ℕ → ℕ
element_of b ws i = slot b (slot_bits b) (slice_index ws (i / factor_of b)) (i % factor_of b)

unfoldable pub unpack_row : ℕ → ℕ → List ℕ → List ℕ
unpack_row b k ws = build k (element_of b ws)

unfoldable pub unpacked : ℕ → ℕ → ℕ → List ℕ → List ℕ
unpacked b rows k ws = join rows (λ j. unpack_row b k (row (words_of b k) ws j))

-- each element cut to its low b bits
unfoldable pub cut : ℕ → List ℕ → List ℕ
cut b m = build (length m) (λ i. slice_index m i % 2 ^ b)

-- 2, for `rows` rows of k elements that are lent as rows of `from` words and written as rows of `to` words: a dimension
-- outside its limit, a lent length that is not rows times `from`, or an output shorter than rows times `to`
unfoldable pub packing_shape_bad : ℕ → ℕ → ℕ → ℕ → ℕ → ℕ → Bool
packing_shape_bad rows k from to lent room =
    outside 1 512 rows || outside 1 4096 k || not (lent == rows * from) || nat_lt room (rows * to)

-- what packing answers, given lent words and an output of these lengths, and what the output holds then
unfoldable pub compress_number : ℕ → ℕ → ℕ → ℕ → ℕ → ℕ
compress_number b rows k lent room = first (width_bad b ⇒ 1 ∷ packing_shape_bad rows k k (words_of b k) lent room ⇒ 2 ∷ [])

abbrev pub compress_after : ℕ → ℕ → ℕ → List ℕ → List ℕ → List ℕ
compress_after b rows k words out =
    after (compress_number b rows k (length words) (length out)) (laid (packed b rows k words) out) out

-- the same of unpacking
unfoldable pub decompress_number : ℕ → ℕ → ℕ → ℕ → ℕ → ℕ
decompress_number b rows k lent room = first (width_bad b ⇒ 1 ∷ packing_shape_bad rows k (words_of b k) k lent room ⇒ 2 ∷ [])

abbrev pub decompress_after : ℕ → ℕ → ℕ → List ℕ → List ℕ → List ℕ
decompress_after b rows k words out =
    after (decompress_number b rows k (length words) (length out)) (laid (unpacked b rows k words) out) out

-- What a worker on one word makes; no public contract cites it: the first n slots of a word
abbrev pub slots : ℕ → ℕ → ℕ → ℕ → List ℕ
slots b w word n = build n (slot b w word)
