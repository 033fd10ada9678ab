-- A run's table is never malformed, and its slab keeps its length: so no call of a run answers 18.
use mathlib.Core.Path.{◌≡◌, refl, ◌∙◌}
use mathlib.Core.Bool.{Bool, false}
use mathlib.Core.List.{List}
use Prim.Native.Nat.{ℕ, ◌+◌, ◌*◌, ◌<◌, ◌≤◌}
use native.Mathlib.Omega.{arith}
use lib.ListN.{length, replicate, length-replicate}
use borrow.Author.Tests.{le-ltb, eq-eqb}
use Rattle.laws.specs.Lists.{splice}
use Rattle.laws.proofs.Lists.{room}
use Rattle.laws.proofs.Refusals.{written}
use Rattle.laws.proofs.Splice.{length-splice}
use Rattle.plain.proofs.matrix.Cells.{length-product}
use Rattle.rows.specs.Codec.{value_room_of}
use Rattle.pending.specs.Table.{Sized, malformed, slot_of, fresh_table, fresh_number}
use Rattle.queries.specs.Open.{Asked, secret_of, stored_secret}
use Rattle.replies.specs.Reply.{lent_bad}
use Rattle.pending.proofs.table.Lengths.{fresh_sized, taken_sized, closed_sized}
use Rattle.pending.proofs.table.Slots.{slot_pending}
use Rattle.pending.proofs.table.Formed.{fresh_formed, taken_formed, closed_formed}
use Rattle.runs.specs.Run.{Lent, State, Event, asking, step, run, start, Fits, Typed}
use Rattle.runs.proofs.Steps.{Does, still, takes, closes, then, does, does_all}

-- what holds of every state of this b and C that a run reaches
pub record Healthy (b c : ℕ) (s : State) : Type 0 where
  pub sized : Sized s.table
  pub formed : malformed s.table ≡ false
  pub width : s.table.b ≡ b
  pub columns : s.table.columns ≡ c
  pub slab : length s.slab ≡ 64 * c
  pub next : s.table.next ≤ 4294967295

module _ (b columns : ℕ) where
  pub start_healthy : (slab : List ℕ) → fresh_number b columns ≡ 0 → length slab ≡ 64 * columns
      → Healthy b columns (start b columns slab)
  start_healthy slab made whole =
      rw (← written (fresh_number b columns) (fresh_table b columns 1) (fresh_table 0 0 0) made) record {
        sized = fresh_sized b columns 1;
        formed = fresh_formed b columns made;
        width = refl;
        columns = refl;
        slab = whole;
        next = omega arith;
      }

  -- with masks and a value buffer of the right size a reply is not refused with 2
  pub lent_good : {s : State} → Healthy b columns s → (masks value : List ℕ) → length masks ≡ columns
      → value_room_of b columns ≤ length value → lent_bad s.table (length s.slab) (length masks) (length value) ≡ false
  unfolding lent_bad
  lent_good {s} h masks value wide roomy =
      rw (
        h.width,
        h.columns,
        eq-eqb (length s.slab) (64 * columns) h.slab,
        eq-eqb (length masks) columns wide,
        le-ltb (length value) (value_room_of b columns) roomy,
      )

-- a secret times the hint is as long as a slot of the slab, which has room for it
pub length_stored : (a : Asked) → length (stored_secret a) ≡ a.table.columns
length_stored a = length-product a.n a.table.columns (secret_of a) a.hint

module _ {b columns : ℕ} (s : State) (h : Healthy b columns s) (q : ℕ) (below : q < 64) where
  pub slot_fits : q * s.table.columns + s.table.columns ≤ length s.slab
  slot_fits = omega (arith, h.slab, h.columns, room q 64 s.table.columns below)

  -- and keeps its length then
  filled : (ys : List ℕ) → length ys ≡ s.table.columns → length (splice (q * s.table.columns) ys s.slab) ≡ 64 * columns
  filled ys e = length-splice (q * s.table.columns) ys s.slab (omega (arith, slot_fits)) ∙ h.slab

module _ {l : Lent} {b columns : ℕ} where
  pub does_healthy : {s u : State} {o a f d : ℕ → ℕ} {p : ℕ → Bool} → Does l s u o a f d p → Healthy b columns s
      → Healthy b columns u
  does_healthy still h = h
  does_healthy (takes {s} a whole ready) h = record {
    sized = taken_sized s.table (slot_of s.table 0) a.digest ready.free whole h.sized;
    formed = taken_formed s.table a.digest h.sized whole h.formed ready.unheld ready.unfilled;
    width = h.width;
    columns = h.columns;
    slab = filled s h (slot_of s.table 0) ready.free (stored_secret (asking l s a)) (length_stored (asking l s a));
    next = (let n = h.next in let ne = ready.next in omega arith);
  }
  does_healthy (closes {s} ticket _ _ _ was _) h =
      let below = (slot_pending s.table ticket was).0 in
      record {
        sized = closed_sized s.table (slot_of s.table ticket) below h.sized;
        formed = closed_formed s.table (slot_of s.table ticket) below h.sized h.formed;
        width = h.width;
        columns = h.columns;
        slab = filled s h (slot_of s.table ticket) below (replicate s.table.columns 0)
            (length-replicate {A = ℕ} s.table.columns 0);
        next = h.next;
      }
  does_healthy (then x y) h = does_healthy y (does_healthy x h)

module _ (l : Lent) {b columns : ℕ} (s : State) where
  pub step_healthy : (e : Event) → Fits e → Healthy b columns s → Healthy b columns (step l s e)
  step_healthy e fits h = does_healthy (does l s e fits) h

  pub run_healthy : (es : List Event) → Typed es → Healthy b columns s → Healthy b columns (run l s es)
  run_healthy es typed h = does_healthy (does_all l s es typed) h
