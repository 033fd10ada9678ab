-- A used slot is compared; a table that can be taken from is taken from; a ticket that can be closed is closed. No table that was
-- well formed becomes malformed by it.
use mathlib.Core.Path.{◌≡◌, refl}
use mathlib.Core.Bool.{Bool, true, false, cond, ◌||◌, and-eq-true_iff}
use mathlib.Core.List.{List}
use Prim.Native.Nat.{ℕ, ◌*◌, ◌<◌, ◌≤◌}
use native.Mathlib.Omega.{arith}
use lib.Dec.{eqb}
use lib.ListN.{length}
use borrow.Author.Tests.{eq-eqb, eqb-true, not-true}
use Rattle.laws.specs.Refusals.{outside}
use Rattle.laws.proofs.Refusals.{neither, inside, within}
use Rattle.leaves.specs.Digests.{differs}
use Rattle.pending.specs.Table.{Sized, digest_at, used, malformed, slot_of, pending, digest_pending, full, differs_at, taken, takable, take_after, closed, wiped, closable, close_after, wipe_after}
use Rattle.pending.specs.declared.table.Table.{Table}
use Rattle.pending.proofs.table.Slots.{slot_pending}
use Rattle.pending.proofs.table.Formed.{taken_formed, closed_formed}

pub compared : (t : Table) (s : ℕ) (digest : List ℕ) → used t s ≡ true → differs_at t s digest ≡ differs digest (digest_at t s)
unfolding differs_at
compared t s digest e = simp e

pub record Takable (t : Table) (digest : List ℕ) : Type 0 where
  pub unheld : digest_pending t digest ≡ false
  pub unfilled : full t ≡ false
  pub least : 1 ≤ t.next
  pub most : t.next < 4294967295

pub taken_is : (t : Table) (digest : List ℕ) → Takable t digest → take_after t digest ≡ taken t (slot_of t 0) digest
unfolding takable
taken_is t digest p = simp (p.unheld, p.unfilled, within 1 4294967294 t.next p.least (omega (arith, p.most)))

pub takable_told : (t : Table) (digest : List ℕ) → takable t digest ≡ true → Takable t digest
unfolding takable
takable_told t digest e =
    let p = neither (digest_pending t digest || full t) (outside 1 4294967294 t.next) (not-true _ e) in
    let q = neither (digest_pending t digest) (full t) p.0 in
    let n = inside 1 4294967294 t.next p.1 in
    record { unheld = q.0; unfilled = q.1; least = n.0; most = omega (arith, n.1) }

pub take_formed : (t : Table) (digest : List ℕ) → Sized t → length digest ≡ 32 → malformed t ≡ false → malformed (take_after t digest) ≡ false
take_formed t digest z d e = by (takable t digest) refl
  where
    by : (b : Bool) → takable t digest ≡ b → malformed (cond b (taken t (slot_of t 0) digest) t) ≡ false
    by true h = let p = takable_told t digest h in taken_formed t digest z d e p.unheld p.unfilled
    by false h = e

pub record Closable (t : Table) (slab ticket : ℕ) : Type 0 where
  pub waiting : pending t ticket ≡ true
  pub whole : slab ≡ 64 * t.columns

closes : (t : Table) (slab ticket : ℕ) → Closable t slab ticket → closable t slab ticket ≡ true
unfolding closable
closes t slab ticket p = simp (p.waiting, eq-eqb slab (64 * t.columns) p.whole)

pub closed_is : (t : Table) (slab ticket : ℕ) → Closable t slab ticket → close_after t slab ticket ≡ closed t (slot_of t ticket)
closed_is t slab ticket p = rw (closes t slab ticket p)

pub wiped_is : (t : Table) (slab : List ℕ) (ticket : ℕ) → Closable t (length slab) ticket
    → wipe_after t slab ticket ≡ wiped t.columns (slot_of t ticket) slab
wiped_is t slab ticket p = rw (closes t (length slab) ticket p)

pub closable_told : (t : Table) (slab ticket : ℕ) → closable t slab ticket ≡ true → Closable t slab ticket
unfolding closable
closable_told t slab ticket e =
    let p = (and-eq-true_iff (pending t ticket) (eqb slab (64 * t.columns))).0 e in
    record { waiting = p.0; whole = eqb-true _ _ p.1 }

pub close_formed : (t : Table) (slab ticket : ℕ) → Sized t → malformed t ≡ false → malformed (close_after t slab ticket) ≡ false
close_formed t slab ticket z e = by (closable t slab ticket) refl
  where
    by : (b : Bool) → closable t slab ticket ≡ b → malformed (cond b (closed t (slot_of t ticket)) t) ≡ false
    by true h = closed_formed t (slot_of t ticket) (slot_pending t ticket (closable_told t slab ticket h).waiting).0 z e
    by false h = e
