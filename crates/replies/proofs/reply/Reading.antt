-- The row reader inside a reply: its buffers have room for every digest and value, so it refuses the row or nothing.
use Rattle.std.proofs.Common.{◌≡◌, ℕ, ◌<◌, ◌≤◌, Bool, true, false, List, [], ◌∷◌, length, take, replicate, sym, ap, ◌∙◌, arith, length-take, le-ltb, eq-eqb}
use Rattle.laws.specs.Refusals.{Test, ◌⇒◌, first}
use Rattle.laws.proofs.Refusals.{inside, within, refused_before, all_clear, clear_before, written}
use Rattle.laws.proofs.Lists.{length_part}
use Rattle.laws.proofs.Filling.{laid_whole, take-laid}
use Rattle.leaves.specs.Limits.{elements_bad}
use Rattle.rows.specs.Codec.{bytes_in, room_of, value_room_of, columns_bad, bytes_of, marker_bad, value_length, digest_of, value_of}
use Rattle.rows.specs.Codec.{reader_bad, decode_number, decode_digest_after, decode_value_after}
use Rattle.rows.proofs.codec.Sizes.{sized, room_is, few_bits}
use Rattle.rows.proofs.codec.Bytes.{length_bytes, last_le}
use Rattle.rows.proofs.codec.Answers.{accepted}
use Rattle.pending.specs.Table.{malformed}
use Rattle.pending.specs.declared.table.Table.{Table}
use Rattle.pending.proofs.table.Formed.{formed}
use Rattle.replies.specs.Reply.{digest_bad, row_number_of}

-- a table within its limits, and a row of its length
pub record Readable (t : Table) (row : List ℕ) : Type 0 where
  pub least : 4 ≤ t.b
  pub most : t.b ≤ 14
  pub columns_in : columns_bad t.b t.columns ≡ false
  pub whole : length row ≡ t.columns

pub readable : (t : Table) (row : List ℕ) → malformed t ≡ false → length row ≡ t.columns → Readable t row
readable t row e whole =
    let f = formed t e in
    let w = inside 4 14 _ f.width_in in
    record { least = w.0; most = w.1; columns_in = f.columns_in; whole = whole }

-- its columns are not refused, so that the room for a value is the definition's
pub room_in : (t : Table) → malformed t ≡ false → room_of t.b t.columns ≡ value_room_of t.b t.columns
room_in t e = room_is _ _ (formed t e).columns_in

-- what the reader answers, given buffers of 32 and 863 bytes
abbrev pub reader_number : Table → List ℕ → ℕ
reader_number t row = decode_number t.b t.columns row 32 863

-- the reader's tests of a row, and the number of one that holds
abbrev tests : Table → List ℕ → List Test
tests t row = elements_bad t.b row ⇒ 17 ∷ marker_bad t.b t.columns row ⇒ 13 ∷ []

above_two : (s t : Bool) → 0 < first (s ⇒ 17 ∷ t ⇒ 13 ∷ []) → 2 < first (s ⇒ 17 ∷ t ⇒ 13 ∷ [])
above_two true t h = omega arith
above_two false true h = omega arith
above_two false false h = absurd (omega arith)

module _ (t : Table) (row : List ℕ) (r : Readable t row) where
  pub room_most : value_room_of t.b t.columns ≤ 863
  room_most = omega (arith, few_bits r.most (sized t.b t.columns r.columns_in).most)

  pub value_fits : value_length t.b t.columns row ≤ value_room_of t.b t.columns
  value_fits = omega (arith, last_le (bytes_of t.b t.columns row) (bytes_in t.b t.columns))

  -- 1 and 2 can't come up
  row_alone : reader_number t row ≡ first (tests t row)
  unfolding decode_number reader_bad
  row_alone =
      simp (within 4 14 t.b r.least r.most, r.columns_in, eq-eqb _ _ r.whole, le-ltb 863 (value_room_of t.b t.columns) room_most)

  pub row_refusal : 0 < reader_number t row → 2 < reader_number t row
  row_refusal h =
      rw row_alone (above_two (elements_bad t.b row) (marker_bad t.b t.columns row) (rw row_alone at h))

  -- what the reader refuses a row for, a reply refuses it for
  pub row_refused : (s : ℕ) → 0 < reader_number t row → reader_number t row ≡ row_number_of t s row
  unfolding row_number_of
  row_refused s h =
      row_alone ∙ sym (refused_before (tests t row) (digest_bad t s row ⇒ 14 ∷ []) (rw row_alone at h))

  module _ (none : reader_number t row ≡ 0) where
    -- past the reader the digest is what is left to test
    pub digest_left : (s : ℕ) → row_number_of t s row ≡ first (digest_bad t s row ⇒ 14 ∷ [])
    unfolding row_number_of
    digest_left s =
        clear_before (tests t row) (digest_bad t s row ⇒ 14 ∷ []) (all_clear (tests t row) tt (sym row_alone ∙ none))

    -- the digest fills its buffer
    pub digest_read : (digest : List ℕ)
        → digest ≡ decode_digest_after t.b t.columns row (replicate 32 0) (replicate 863 0) → digest ≡ digest_of t.b t.columns row
    digest_read digest e =
        let bytes = bytes_of t.b t.columns row in
        let l : 32 ≤ length (take 32 bytes) =
        omega (
          arith,
          length-take 32 bytes,
          length_bytes t.b t.columns row,
          (sized t.b t.columns r.columns_in).bytes_least,
        ) in
        e ∙ sym (written _ _ _ none) ∙ laid_whole (take 32 bytes) (replicate 32 0) l

    -- the value stands at the start of its buffer
    pub value_read : (n : ℕ) (found : List ℕ) → n ≡ value_length t.b t.columns row
        → found ≡ decode_value_after t.b t.columns row (replicate 32 0) (replicate 863 0)
        → take n found ≡ value_of t.b t.columns row
    value_read n found h e =
        let bytes = bytes_of t.b t.columns row in
        let k = accepted t.b t.columns row 32 863 none in
        let l : length (value_of t.b t.columns row) ≡ n =
        length_part 32 (value_length t.b t.columns row) bytes
        (omega (arith, value_fits, k.marker_place, k.shape.size.bytes_least, length_bytes t.b t.columns row))
        ∙ sym h in
        ap (take n) (e ∙ sym (written _ _ _ none))
        ∙ take-laid (value_of t.b t.columns row) (replicate 863 0) n l
