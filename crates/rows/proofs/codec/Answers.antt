-- What the two entries' first step says: a refusal has a number, and success says that each test was passed.
use mathlib.Core.Path.{◌≡◌}
use mathlib.Core.Bool.{false, not, ◌||◌}
use mathlib.Core.List.{List, [], ◌∷◌}
use Prim.Native.Nat.{ℕ, ◌≤◌}
use lib.Dec.{ltb, eqb}
use lib.ListN.{length, get_or}
use borrow.Author.Tests.{ltb-false, eqb-true, not-false}
use Rattle.laws.specs.Refusals.{◌⇒◌, width_bad}
use Rattle.laws.proofs.Refusals.{neither, passed, inside}
use Rattle.leaves.specs.Limits.{elements_bad}
use Rattle.rows.specs.Codec.{value_room_of, columns_bad, encode_number}
use Rattle.rows.specs.Codec.{bytes_of, marker_at, marker_bad, reader_bad, decode_number}
use Rattle.rows.proofs.codec.Sizes.{Sized, sized}

-- what the writer takes
pub record Taken (b columns valueSize outSize : ℕ) : Type 0 where
  pub width_in : width_bad b ≡ false
  pub columns_in : columns_bad b columns ≡ false
  pub roomy : columns ≤ outSize
  pub short : valueSize ≤ value_room_of b columns

pub taken : (b columns valueSize outSize : ℕ) → encode_number b columns valueSize outSize ≡ 0 → Taken b columns valueSize outSize
unfolding encode_number
taken b columns valueSize outSize e =
    let shape = columns_bad b columns || ltb outSize columns in
    let long = ltb (value_room_of b columns) valueSize in
    let p = passed (width_bad b) 0 (shape ⇒ 2 ∷ long ⇒ 16 ∷ []) e in
    let q = passed shape 1 (long ⇒ 16 ∷ []) p.1 in
    let s = neither (columns_bad b columns) (ltb outSize columns) q.0 in
    record {
      width_in = p.0;
      columns_in = s.0;
      roomy = ltb-false outSize columns s.1;
      short = ltb-false (value_room_of b columns) valueSize (passed long 15 [] q.1).0;
    }

-- the lengths that the reader takes
pub record Lent (b columns rowSize digestSize valueSize : ℕ) : Type 0 where
  pub size : Sized b columns
  pub whole : rowSize ≡ columns
  pub digest_room : 32 ≤ digestSize
  pub value_room : value_room_of b columns ≤ valueSize

pub lent : (b columns rowSize digestSize valueSize : ℕ) → reader_bad b columns rowSize digestSize valueSize ≡ false
    → Lent b columns rowSize digestSize valueSize
unfolding reader_bad
lent b columns rowSize digestSize valueSize e =
    let other = not (eqb rowSize columns) in
    let p = neither (columns_bad b columns || other || ltb digestSize 32) (ltb valueSize (value_room_of b columns)) e in
    let q = neither (columns_bad b columns || other) (ltb digestSize 32) p.0 in
    let r = neither (columns_bad b columns) other q.0 in
    record {
      size = sized b columns r.0;
      whole = eqb-true rowSize columns (not-false (eqb rowSize columns) r.1);
      digest_room = ltb-false digestSize 32 q.1;
      value_room = ltb-false valueSize (value_room_of b columns) p.1;
    }

-- and the row that it takes
pub record Read (b columns : ℕ) (row : List ℕ) (digestSize valueSize : ℕ) : Type 0 where
  pub width_least : 4 ≤ b
  pub width_most : b ≤ 14
  pub shape : Lent b columns (length row) digestSize valueSize
  pub marker_place : 32 ≤ marker_at b columns row

pub accepted : (b columns : ℕ) (row : List ℕ) (digestSize valueSize : ℕ) → decode_number b columns row digestSize valueSize ≡ 0
    → Read b columns row digestSize valueSize
unfolding decode_number marker_bad
accepted b columns row digestSize valueSize e =
    let marker = marker_bad b columns row in
    let elements = elements_bad b row in
    let shape = reader_bad b columns (length row) digestSize valueSize in
    let p = passed (width_bad b) 0 (shape ⇒ 2 ∷ elements ⇒ 17 ∷ marker ⇒ 13 ∷ []) e in
    let q = passed shape 1 (elements ⇒ 17 ∷ marker ⇒ 13 ∷ []) p.1 in
    let r = passed elements 16 (marker ⇒ 13 ∷ []) q.1 in
    let w = inside 4 14 b p.0 in
    let at = marker_at b columns row in
    let m = neither (ltb at 32) (not (eqb (get_or (bytes_of b columns row) at 0) 129)) (passed marker 12 [] r.1).0 in
    record {
      width_least = w.0;
      width_most = w.1;
      shape = lent b columns (length row) digestSize valueSize q.0;
      marker_place = ltb-false at 32 m.0;
    }
