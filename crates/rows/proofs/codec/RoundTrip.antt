-- What the writer writes, the reader reads back.
use mathlib.Core.Path.{◌≡◌, refl, sym, ap, ap₂, ◌∙◌}
use mathlib.Core.Bool.{false}
use mathlib.Core.List.{List, [], ◌∷◌, ◌++◌}
use Prim.Native.Nat.{ℕ, ◌+◌, ◌*◌, ◌-◌, ◌^◌, ◌<◌, ◌≤◌}
use native.Mathlib.Omega.{arith}
use native.Mathlib.Decide.{dec_lt}
use lib.Dec.{ltb}
use lib.ListN.{length, get_or, take, drop, replicate, length-append, length-drop, length-replicate}
use lib.Pow.{le_ones}
use lib.Seq.{take-append-le, drop-append-le, take_at, drop_at}
use borrow.Author.Tests.{le-ltb, eq-eqb}
use Rattle.laws.specs.Lists.{part, laid}
use Rattle.laws.specs.Bits.{bit_of, carried}
use Rattle.laws.proofs.Refusals.{inside}
use Rattle.laws.proofs.Search.{some-false}
use Rattle.laws.proofs.Bits.{bit_lt, gathered-lt, length-carried, get_or-carried, bit_carried, carried_ext, carried_bits}
use Rattle.leaves.specs.Limits.{any_above, elements_bad}
use Rattle.rows.specs.Codec.{bytes_in, value_room_of, record_of, row_of, encode_number}
use Rattle.rows.specs.Codec.{bytes_of, last_nonzero, marker_bad, reader_bad, value_length, digest_of, value_of, decode_number}
use Rattle.rows.proofs.codec.Sizes.{sized}
use Rattle.rows.proofs.codec.Answers.{Taken, taken}
use Rattle.rows.proofs.codec.Marked.{marked, byte_digest, byte_value, byte_marker, byte_past, length_marked, record_byte}
use Rattle.rows.proofs.codec.Bytes.{length_row, last_at}

-- The bits are carried over: bit k of the bytes that are read is bit k of the row ..
pub row_to_bytes : (b columns : ℕ) (row : List ℕ) (k : ℕ) → k < bytes_in b columns * 8 → bit_of 8 (bytes_of b columns row) k ≡ bit_of b row k
unfolding bytes_of
row_to_bytes b columns row k h = bit_carried 8 (bytes_in b columns) (bit_of b row) (bit_lt b row) (omega arith) k h

-- .. and bit k of the row that is written is bit k of the record.
pub record_to_row : (b columns : ℕ) (digest value : List ℕ) → 0 < b → (k : ℕ) → k < columns * b
    → bit_of b (row_of b columns digest value) k ≡ bit_of 8 (record_of b columns digest value) k
unfolding row_of
record_to_row b columns digest value pos k h =
    bit_carried b columns (bit_of 8 (record_of b columns digest value)) (bit_lt 8 (record_of b columns digest value)) pos k h

-- an element of a row that was written has b bits
written_elements : (b columns : ℕ) (digest value : List ℕ) → elements_bad b (row_of b columns digest value) ≡ false
unfolding any_above row_of
written_elements b columns digest value =
    let f : ℕ → ℕ = bit_of 8 (record_of b columns digest value) in
    let len = length-carried b columns f in
    some-false (λ i. ltb (2 ^ b - 1) (get_or (carried b columns f) i 0)) (length (carried b columns f))
    (λ i l.
    let k : i < columns = omega arith in
    let e = get_or-carried b columns f i k in
    le-ltb (2 ^ b - 1) (get_or (carried b columns f) i 0)
    (rw e (le_ones b (gathered-lt f (bit_lt 8 (record_of b columns digest value)) (i * b) b))))

-- A reader with room for digest and value, of this row, gives them back.
pub record ReadBack (b columns digest_room value_room : ℕ) (digest value row : List ℕ) : Type 0 where
  pub success : decode_number b columns row digest_room value_room ≡ 0
  pub length_back : value_length b columns row ≡ length value
  pub digest_back : digest_of b columns row ≡ digest
  pub value_back : value_of b columns row ≡ value

module _ (b columns room : ℕ) (digest value : List ℕ)
    (success : encode_number b columns (length value) room ≡ 0) (whole : length digest ≡ 32)
    (digest_bytes : (i : ℕ) → get_or digest i 0 < 256) (value_bytes : (i : ℕ) → get_or value i 0 < 256) where
  given : Taken b columns (length value) room
  given = taken b columns (length value) room success

  -- the record fits its row
  fits : 33 + length value ≤ bytes_in b columns
  fits = omega (arith, given.short, (sized b columns given.columns_in).bytes_least)

  length_record : length (record_of b columns digest value) ≡ bytes_in b columns
  unfolding record_of laid
  length_record =
      let zeros : List ℕ = replicate (bytes_in b columns) 0 in
      let m = marked digest value in
      omega (arith, fits, length_marked digest value whole, length-append m (drop (length m) zeros), length-drop (length m) zeros, length-replicate {A = ℕ} (bytes_in b columns) 0)

  record_small : (m : ℕ) → get_or (record_of b columns digest value) m 0 < 256
  record_small m = rw (record_byte b columns digest value m)
      (elim (dec_lt m 32) [
        | yes l ↦ rw (byte_digest digest value whole m l) (digest_bytes m)
        | no g ↦ elim (dec_lt m (32 + length value)) [
          | yes l ↦ rw (byte_value digest value whole (m - 32) m (omega arith) (omega arith)) (value_bytes (m - 32))
          | no h ↦ elim (dec_lt m (33 + length value)) [
            | yes l ↦ rw (byte_marker digest value whole m (omega arith)) (omega arith)
            | no i ↦ rw (byte_past digest value whole m (omega arith)) (omega arith)
          ]
        ]
      ])

  -- the bytes that are read are the record
  bytes_back : bytes_of b columns (row_of b columns digest value) ≡ record_of b columns digest value
  unfolding bytes_of
  bytes_back =
      let rec = record_of b columns digest value in
      let pos : 0 < b = omega (arith, (inside 4 14 b given.width_in).0) in
      carried_ext 8 (bytes_in b columns) (bit_of b (row_of b columns digest value)) (bit_of 8 rec)
      (λ k h. record_to_row b columns digest value pos k (omega arith))
      ∙ ap (λ (n : ℕ). carried 8 n (bit_of 8 rec)) (sym length_record)
      ∙ carried_bits 8 rec record_small

  -- the marker is the record's last byte that is not zero
  marker : get_or (record_of b columns digest value) (32 + length value) 0 ≡ 129
  marker = record_byte b columns digest value (32 + length value) ∙ byte_marker digest value whole (32 + length value) refl

  marker_found : last_nonzero (bytes_in b columns) (record_of b columns digest value) ≡ 32 + length value
  marker_found =
      last_at (record_of b columns digest value) (bytes_in b columns) (32 + length value) (omega (arith, fits))
      (λ z. let e : ◌≡◌ {A = ℕ} 129 0 = sym marker ∙ z in omega arith)
      (λ m l _. record_byte b columns digest value m ∙ byte_past digest value whole m (omega (arith, l)))

  marker_back : marker_bad b columns (row_of b columns digest value) ≡ false
  unfolding marker_bad
  marker_back =
      let l : 32 ≤ 32 + length value = omega arith in
      simp (bytes_back, marker_found, le-ltb (32 + length value) 32 l, eq-eqb _ 129 marker)

  length_is : value_length b columns (row_of b columns digest value) ≡ length value
  length_is = rw (bytes_back, marker_found) (omega arith)

  digest_is : digest_of b columns (row_of b columns digest value) ≡ digest
  unfolding record_of laid
  digest_is =
      let m = marked digest value in
      ap (take 32) bytes_back
      ∙ take-append-le 32 m (drop (length m) (replicate (bytes_in b columns) 0)) (omega (arith, length_marked digest value whole))
      ∙ take_at digest (value ++ (129 ∷ [])) 32 whole

  value_is : value_of b columns (row_of b columns digest value) ≡ value
  unfolding record_of laid
  value_is =
      let m = marked digest value in
      let zeros : List ℕ = drop (length m) (replicate (bytes_in b columns) 0) in
      let n = length value in
      ap₂ (λ k xs. part 32 k xs) length_is bytes_back
      ∙ ap (take n) (drop-append-le 32 m zeros (omega (arith, length_marked digest value whole)) ∙ ap (λ xs. xs ++ zeros) (drop_at digest (value ++ (129 ∷ [])) 32 whole))
      ∙ take-append-le n (value ++ (129 ∷ [])) zeros (omega (arith, length-append value (129 ∷ [])))
      ∙ take_at value (129 ∷ []) n refl

  pub read_back : (digest_room value_room : ℕ) → 32 ≤ digest_room → value_room_of b columns ≤ value_room
      → ReadBack b columns digest_room value_room digest value (row_of b columns digest value)
  unfolding decode_number reader_bad
  read_back digest_room value_room hd hv =
      let len : length (row_of b columns digest value) ≡ columns = length_row b columns digest value in
      record {
        success =
            simp (
              given.width_in,
              given.columns_in,
              eq-eqb (length (row_of b columns digest value)) columns len,
              le-ltb digest_room 32 hd,
              le-ltb value_room (value_room_of b columns) hv,
              written_elements b columns digest value,
              marker_back,
            );
        length_back = length_is;
        digest_back = digest_is;
        value_back = value_is;
      }
