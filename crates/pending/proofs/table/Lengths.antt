-- The lengths of a table's arrays: a function is told them on entry, and no call changes them.
use mathlib.Core.Path.{◌≡◌, ◌∙◌}
use mathlib.Core.List.{List}
use Prim.Native.Nat.{ℕ, ◌+◌, ◌*◌, ◌<◌}
use native.Mathlib.Omega.{arith}
use lib.ListN.{length, replicate, length-set, length-replicate}
use mir.Val.{Val}
use denote.Laws.{Is}
use denote.Struct.Declared.{row}
use Rattle.laws.proofs.Splice.{length-splice}
use Rattle.pending.specs.Table.{Sized, taken, closed, fresh_table}
use Rattle.pending.specs.declared.table.Table.{Table}
use Rattle.pending.specs.contracts.table.Table.{the_type}
use Rattle.pending.proofs.table.Tests.{put}

-- from what `good` says of a table that is passed
pub sized : (t : Table) (vs : List Val) → Is (row the_type) t vs → Sized t
sized t vs p =
    let arrays = p.1.1.1.1.1 in
    record {
      numbers = arrays.0.1.0.1;
      digests = arrays.1.0.1.0.1;
    }

-- a ticket number is a word, as a function is told on entry
pub next_fits : (t : Table) (vs : List Val) → Is (row the_type) t vs → t.next < 4294967296
next_fits t vs p = p.1.1.1.1.0.1

pub fresh_sized : (b columns next : ℕ) → Sized (fresh_table b columns next)
fresh_sized b columns next = record { numbers = length-replicate {A = ℕ} 64 0; digests = length-replicate {A = ℕ} 2048 0 }

put_sized : (t : Table) (s next number : ℕ) (digest : List ℕ) → s < 64 → length digest ≡ 32 → Sized t
    → Sized (put t s next number digest)
put_sized t s next number digest l d z = record {
  numbers = length-set t.numbers s number ∙ z.numbers;
  digests = length-splice (s * 32) digest t.digests (omega arith) ∙ z.digests;
}

pub taken_sized : (t : Table) (s : ℕ) (digest : List ℕ) → s < 64 → length digest ≡ 32 → Sized t → Sized (taken t s digest)
taken_sized t s digest l d z = put_sized t s (t.next + 1) t.next digest l d z

pub closed_sized : (t : Table) (s : ℕ) → s < 64 → Sized t → Sized (closed t s)
closed_sized t s l z = put_sized t s t.next 0 (replicate 32 0) l (length-replicate {A = ℕ} 32 0) z
