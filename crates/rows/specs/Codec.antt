-- Document 01, "Row codec".
use Rattle.std.specs.Prelude.{ℕ, zero, suc, ◌*◌, ◌-◌, ◌/◌, Bool, not, cond, ◌||◌, List, [], ◌∷◌, ◌++◌, length, get_or, take, replicate, ltb, eqb}
use Rattle.laws.specs.Refusals.{◌⇒◌, first, after, outside, width_bad}
use Rattle.laws.specs.Lists.{part, laid}
use Rattle.laws.specs.Bits.{bit_of, carried}
use Rattle.leaves.specs.Limits.{elements_bad}

-- the whole bytes of a row, and the longest value that it has room for
abbrev pub bytes_in : ℕ → ℕ → ℕ
bytes_in b columns = columns * b / 8

abbrev pub value_room_of : ℕ → ℕ → ℕ
value_room_of b columns = bytes_in b columns - 33

-- 2: C outside 1 to 512, or C·b below 264
unfoldable pub columns_bad : ℕ → ℕ → Bool
columns_bad b columns = outside 1 512 columns || ltb (columns * b) 264

-- the room, as it is told for any b and C: none where C or C·b is refused
unfoldable pub room_of : ℕ → ℕ → ℕ
room_of b columns = cond (columns_bad b columns) 0 (value_room_of b columns)

-- The writer.

-- 32 digest bytes, the value, 0x81, zeros up to the row's whole bytes
unfoldable pub record_of : ℕ → ℕ → List ℕ → List ℕ → List ℕ
record_of b columns digest value = laid (digest ++ (value ++ (129 ∷ []))) (replicate (bytes_in b columns) 0)

-- the row that carries the record's bits; the bits past its bytes are zero
unfoldable pub row_of : ℕ → ℕ → List ℕ → List ℕ → List ℕ
row_of b columns digest value = carried b columns (bit_of 8 (record_of b columns digest value))

-- what the writer answers, given a value and an output of these sizes, and what the output holds then
unfoldable pub encode_number : ℕ → ℕ → ℕ → ℕ → ℕ
encode_number b columns valueSize outSize =
    first (
    width_bad b ⇒ 1
    ∷ (columns_bad b columns || ltb outSize columns) ⇒ 2
    ∷ ltb (value_room_of b columns) valueSize ⇒ 16
    ∷ []
    )

abbrev pub encode_after : ℕ → ℕ → List ℕ → List ℕ → List ℕ → List ℕ
encode_after b columns digest value out =
    after (encode_number b columns (length value) (length out)) (laid (row_of b columns digest value) out) out

-- The reader.

-- the whole bytes that carry the row's bits; bits past the last whole byte are ignored
unfoldable pub bytes_of : ℕ → ℕ → List ℕ → List ℕ
bytes_of b columns row = carried 8 (bytes_in b columns) (bit_of b row)

-- the index of the last nonzero among the first n of xs; 0 where all are zero
unfoldable pub last_nonzero : ℕ → List ℕ → ℕ
last_nonzero zero xs = 0
last_nonzero (suc n) xs = cond (eqb (get_or xs n 0) 0) (last_nonzero n xs) n

-- where the marker is, if there is one: at the last nonzero byte
abbrev pub marker_at : ℕ → ℕ → List ℕ → ℕ
marker_at b columns row = last_nonzero (bytes_in b columns) (bytes_of b columns row)

-- 13: the last nonzero byte is not 0x81 at index 32 or later
unfoldable pub marker_bad : ℕ → ℕ → List ℕ → Bool
marker_bad b columns row =
    ltb (marker_at b columns row) 32 || not (eqb (get_or (bytes_of b columns row) (marker_at b columns row) 0) 129)

-- the value's length where the marker is not bad; the digest, and the value: bytes 32 up to the marker
abbrev pub value_length : ℕ → ℕ → List ℕ → ℕ
value_length b columns row = marker_at b columns row - 32

abbrev pub digest_of : ℕ → ℕ → List ℕ → List ℕ
digest_of b columns row = take 32 (bytes_of b columns row)

abbrev pub value_of : ℕ → ℕ → List ℕ → List ℕ
value_of b columns row = part 32 (value_length b columns row) (bytes_of b columns row)

-- 2: C or C·b outside its limits, a row of another length, an output too short
unfoldable pub reader_bad : ℕ → ℕ → ℕ → ℕ → ℕ → Bool
reader_bad b columns rowSize digestSize valueSize =
    columns_bad b columns || not (eqb rowSize columns) || ltb digestSize 32 || ltb valueSize (value_room_of b columns)

-- what the reader answers, given outputs of these sizes for digest and value
unfoldable pub decode_number : ℕ → ℕ → List ℕ → ℕ → ℕ → ℕ
decode_number b columns row digestSize valueSize =
    first (
    width_bad b ⇒ 1
    ∷ reader_bad b columns (length row) digestSize valueSize ⇒ 2
    ∷ elements_bad b row ⇒ 17
    ∷ marker_bad b columns row ⇒ 13
    ∷ []
    )

abbrev pub decode_length : ℕ → ℕ → List ℕ → ℕ → ℕ → ℕ
decode_length b columns row digestSize valueSize =
    after (decode_number b columns row digestSize valueSize) (value_length b columns row) 0

-- and what the two outputs hold then
abbrev pub decode_digest_after : ℕ → ℕ → List ℕ → List ℕ → List ℕ → List ℕ
decode_digest_after b columns row digest value =
    after (decode_number b columns row (length digest) (length value)) (laid (digest_of b columns row) digest) digest

abbrev pub decode_value_after : ℕ → ℕ → List ℕ → List ℕ → List ℕ → List ℕ
decode_value_after b columns row digest value =
    after (decode_number b columns row (length digest) (length value)) (laid (value_of b columns row) value) value
