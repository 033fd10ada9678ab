-- What a width and a number of columns that were not refused say.
use mathlib.Core.Path.{◌≡◌}
use mathlib.Core.Bool.{false}
use Prim.Native.Nat.{ℕ, ◌*◌, ◌≤◌}
use native.Mathlib.Nat.{mul-le-mul}
use native.Mathlib.Omega.{arith}
use lib.Dec.{ltb}
use borrow.Author.Tests.{ltb-false}
use Rattle.laws.specs.Refusals.{outside}
use Rattle.laws.proofs.Refusals.{neither, inside}
use Rattle.rows.specs.Codec.{bytes_in, value_room_of, columns_bad, room_of}

pub record Sized (b columns : ℕ) : Type 0 where
  pub most : columns ≤ 512
  pub bytes_least : 33 ≤ bytes_in b columns

pub sized : (b columns : ℕ) → columns_bad b columns ≡ false → Sized b columns
unfolding columns_bad
sized b columns e =
    let p = neither (outside 1 512 columns) (ltb (columns * b) 264) e in
    let l : 264 ≤ columns * b = ltb-false (columns * b) 264 p.1 in
    record { most = (inside 1 512 columns p.0).1; bytes_least = omega arith }

-- then the room is that of the definition
pub room_is : (b columns : ℕ) → columns_bad b columns ≡ false → room_of b columns ≡ value_room_of b columns
unfolding room_of
room_is b columns e = simp e

-- the bits of a row are few
pub few_bits : {b columns : ℕ} → b ≤ 14 → columns ≤ 512 → columns * b ≤ 7168
few_bits hb hc = mul-le-mul hc hb
