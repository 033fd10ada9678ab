-- The value: a row that the writer made passes a reply's tests and gives its value, and the builder's rows and masks give a
-- key's row.
use mathlib.Core.Path.{◌≡◌, sym, ap, ap₂, ◌∙◌}
use mathlib.Core.Bool.{Bool, false, not}
use mathlib.Core.List.{List, [], ◌∷◌}
use Prim.Native.Nat.{ℕ, ◌+◌, ◌*◌, ◌%◌, ◌^◌, ◌<◌, ◌≤◌}
use native.Mathlib.Nat.{mod-lt}
use native.Mathlib.Omega.{arith}
use lib.Dec.{eqb}
use lib.ListN.{length, get_or, take}
use lib.Pow.{pow_pos}
use borrow.Author.Tests.{eq-eqb}
use Rattle.laws.specs.Refusals.{◌⇒◌, first}
use Rattle.laws.specs.Lists.{build, row, laid}
use Rattle.laws.proofs.Lists.{build_ext, build-get_or, length-row}
use Rattle.laws.proofs.Filling.{take-laid}
use Rattle.laws.proofs.Refusals.{written}
use Rattle.laws.proofs.Search.{some-false}
use Rattle.rows.specs.Codec.{value_room_of, row_of, encode_number, value_length, value_of}
use Rattle.plain.specs.Matrix.{cell}
use Rattle.rows.proofs.codec.Answers.{taken, accepted}
use Rattle.rows.proofs.codec.RoundTrip.{ReadBack, read_back}
use Rattle.plain.proofs.matrix.Cells.{row-cell}
use Rattle.builder.specs.Database.{rows_sum, database, Proposed, keys_of, build_number, build_after}
use Rattle.builder.proofs.database.Answers as builder
use Rattle.builder.proofs.database.Law.{length-database, key_row}
use Rattle.builder.proofs.database.Success.{built_row}
use Rattle.pending.specs.declared.table.Table.{Table}
use Rattle.leaves.specs.Digests.{differs}
use Rattle.pending.specs.Table.{digest_at}
use Rattle.replies.specs.Reply.{row_number_of}
use Rattle.replies.proofs.reply.Reading.{Readable, room_most, digest_left}
use Rattle.recovery.specs.Store.{Store, wanted}

-- equal digests do not differ
same_digest : (x y : List ℕ) → x ≡ y → differs x y ≡ false
unfolding differs
same_digest x y e =
    some-false (λ k. not (eqb (get_or x k 0) (get_or y k 0))) 32
    (λ k _. ap not (eq-eqb (get_or x k 0) (get_or y k 0) (ap (λ (xs : List ℕ). get_or xs k 0) e)))

-- a row from which a reply for slot s gives v
pub record Gives (t : Table) (s : ℕ) (found v : List ℕ) : Type 0 where
  pub success : row_number_of t s found ≡ 0
  pub length_is : value_length t.b t.columns found ≡ length v
  pub value_is : value_of t.b t.columns found ≡ v

-- a row that the writer made
module _ (b columns room : ℕ) (digest v : List ℕ)
    (made : encode_number b columns (length v) room ≡ 0) (whole : length digest ≡ 32)
    (digest_bytes : (i : ℕ) → get_or digest i 0 < 256) (value_bytes : (i : ℕ) → get_or v i 0 < 256) where
  -- a reader takes it
  back : (value_room : ℕ) → value_room_of b columns ≤ value_room
      → ReadBack b columns 32 value_room digest v (row_of b columns digest v)
  back value_room = read_back b columns room digest v made whole digest_bytes value_bytes 32 value_room (omega arith)

  -- a table of this b and columns
  module _ (t : Table) (b-is : t.b ≡ b) (columns-is : t.columns ≡ columns) where
    readable : Readable t (row_of b columns digest v)
    readable =
        let g = accepted b columns _ 32 (value_room_of b columns) (back (value_room_of b columns) (omega arith)).success in
        record {
          least = rw b-is g.width_least;
          most = rw b-is g.width_most;
          columns_in = rw (b-is, columns-is) (taken b columns (length v) room made).columns_in;
          whole = g.shape.whole ∙ sym columns-is;
        }

    -- whose slot s has its digest
    pub value_read : (s : ℕ) → digest_at t s ≡ digest → Gives t s (row_of b columns digest v) v
    value_read s stored =
        let read = back 863 (rw (← b-is, ← columns-is) (room_most t _ readable)) in
        record {
          success =
              digest_left t _ readable (rw (b-is, columns-is) read.success) s
              ∙ ap (λ (z : Bool). first (z ⇒ 14 ∷ [])) (same_digest _ _ (rw (b-is, columns-is) read.digest_back ∙ sym stored));
          length_is = rw (b-is, columns-is) read.length_back;
          value_is = rw (b-is, columns-is) read.value_back;
        }

-- what the builder made, and its elements without what lies behind the database
module _ (p : Proposed) (built : build_number p ≡ 0) where
  abbrev made : List ℕ
  made = take (p.r * p.columns) (build_after p)

  good : builder.Accepted p
  good = builder.accepted p built

  made_is : made ≡ database p.b p.r p.columns (keys_of p) p.count
  made_is =
      let d = database p.b p.r p.columns (keys_of p) p.count in
      ap (take (p.r * p.columns)) (sym (written _ (laid d p.held) p.held built))
      ∙ take-laid d p.held (p.r * p.columns)
      (length-database p.b p.r p.columns (keys_of p) p.count good.placement)

  module _ (i : ℕ) (h : i < p.count) where
    -- word j, which is a remainder modulo 2^b
    word : (j : ℕ) → j < p.columns
        → (rows_sum p.columns made (row 4 p.positions i) j + get_or (row p.columns p.masks i) j 0) % 2 ^ p.b
        ≡ get_or (row p.columns p.rows i) j 0
    word j l =
        let c = p.columns in
        let small : cell c p.rows i j < 2 ^ p.b = rw (← built_row p built i h j l) (mod-lt _ (pow_pos p.b)) in
        ap₂ (λ (d : List ℕ) (m : ℕ). (rows_sum c d (row 4 p.positions i) j + m) % 2 ^ p.b) made_is (row-cell c p.masks i j l)
        ∙ key_row p.b p.r c (keys_of p) p.count good.placement i h j l small
        ∙ sym (row-cell c p.rows i j l)

    -- the key's row, whatever it carries
    row_back : build p.columns
        (λ j. (rows_sum p.columns made (row 4 p.positions i) j + get_or (row p.columns p.masks i) j 0) % 2 ^ p.b)
        ≡ row p.columns p.rows i
    row_back =
        let found = row p.columns p.rows i in
        let long = length-row p.columns p.count i p.rows (omega (arith, good.shape.rows_whole)) h in
        build_ext p.columns _ (λ j. get_or found j 0) word
        ∙ ap (λ (n : ℕ). build n (λ j. get_or found j 0)) (sym long)
        ∙ build-get_or found 0

-- a store of the same b, R and C over it
pub placed : (st : Store) (p : Proposed) → p.b ≡ st.b → p.r ≡ st.r → p.columns ≡ st.columns → build_number p ≡ 0
    → st.elements ≡ take (st.r * st.columns) (build_after p) → (i : ℕ) → i < p.count
    → wanted st (row 4 p.positions i) (row st.columns p.masks i) ≡ row st.columns p.rows i
placed st p b-is r-is columns-is built stored i h =
    rw (stored, ← b-is, ← r-is, ← columns-is) (row_back p built i h)
