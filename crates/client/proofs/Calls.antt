-- What each call does to a table and its slab, whatever it answers: a table that is well formed stays so, which tickets are
-- pending, that next rises by one at an open that succeeds and never else, and that the other slots keep all they have.
use mathlib.Core.Path.{◌≡◌, refl, sym}
use mathlib.Core.Bool.{Bool, true, false, not, cond, ◌&&◌, ◌||◌, or-false, and-true}
use mathlib.Core.List.{List}
use Prim.Native.Nat.{ℕ, zero, suc, ◌+◌, ◌*◌, ◌<◌}
use native.Mathlib.Nat.{add-zero}
use native.Mathlib.Omega.{arith}
use lib.ListN.{length, replicate, length-replicate}
use lib.Dec.{eqb}
use borrow.Author.Tests.{ne_eqb, eqb-true}
use Rattle.laws.specs.Refusals.{after}
use Rattle.laws.specs.Lists.{row, splice}
use Rattle.laws.proofs.Lists.{room}
use Rattle.laws.proofs.Splice.{row_kept}
use Rattle.plain.proofs.matrix.Cells.{length-product}
use Rattle.pending.specs.declared.table.Table.{Table}
use Rattle.pending.specs.Table.{Sized, malformed, pending, slot_of, closed, wiped, fresh_number, fresh_after}
use Rattle.queries.specs.Open.{Asked, secret_of, stored_secret, open_number, open_of, open_left}
use Rattle.replies.specs.Reply.{Received, slot_for, reply_number, closing, reply_of, reply_slab}
use Rattle.replies.specs.Discard.{discard_number, discard_table, discard_slab}
use Rattle.pending.proofs.table.Slots.{Kept, slot_pending, taken_others, closed_others}
use Rattle.pending.proofs.table.Formed.{taken_formed, closed_formed}
use Rattle.pending.proofs.table.Pending.{fresh_pending, taken-pending, closed-pending}
use Rattle.queries.proofs.open.Answers.{Ready, succeeded}
use Rattle.replies.proofs.reply.Answers.{none_early, waiting, lent}
use Rattle.replies.proofs.discard.Answers.{accepted}

-- What holds of both cases of a test holds of the one that it picks. An answer's number is such a test.
chosen : {A : Type 0} (P : A → Type 0) (b : Bool) (new old : A) → (b ≡ true → P new) → P old → P (cond b new old)
chosen P true new old f p = f refl
chosen P false new old f p = p

after_test : {A : Type 0} (n : ℕ) (new old : A) → after n new old ≡ cond (eqb n 0) new old
after_test zero new old = refl
after_test (suc n) new old = rw (ne_eqb (suc n) 0 (λ e. omega arith))

kept_all : (t : Table) (q : ℕ) → Kept t t q
kept_all t q = record { number = refl; digest = refl }

-- A fresh table.
module _ (b columns : ℕ) where
  pub fresh_table_pending : (x : ℕ) → pending (fresh_after b columns) x ≡ false
  fresh_table_pending x =
      rw (after_test (fresh_number b columns) _ _)
      (chosen (λ t. pending t x ≡ false) (eqb (fresh_number b columns) 0) _ _ (λ e. fresh_pending b columns 1 x) (fresh_pending 0 0 0 x))

-- An open. The types of the code give the two sizes.
module _ (a : Asked) (size : Sized a.table) (whole : length a.digest ≡ 32) where
  -- what it has shown where it succeeds
  shown : eqb (open_number a) 0 ≡ true → Ready a
  shown e = (succeeded a (eqb-true (open_number a) 0 e)).ready

  stored_long : length (stored_secret a) ≡ a.table.columns
  stored_long = length-product a.n a.table.columns (secret_of a) a.hint

  pub open_formed : malformed a.table ≡ false → malformed (open_of a).table ≡ false
  open_formed well =
      rw (after_test (open_number a) _ _)
      (chosen (λ t. malformed t ≡ false) (eqb (open_number a) 0) _ _
      (λ e. taken_formed a.table a.digest size whole well (shown e).unheld (shown e).unfilled)
      well)

  -- the tickets pending before, and where it succeeds its own
  pub open_pending : malformed a.table ≡ false → (x : ℕ)
      → pending (open_of a).table x ≡ (pending a.table x || (eqb (open_number a) 0 && eqb x a.table.next))
  open_pending well x =
      rw (after_test (open_number a) _ _)
      (gained _ _ _ (eqb (open_number a) 0) (λ e. taken-pending a.table a.digest x size well (shown e).unfilled))
    where
      gained : (new old : Table) (y b : Bool) → (b ≡ true → pending new x ≡ (pending old x || y))
          → pending (cond b new old) x ≡ (pending old x || (b && y))
      gained new old y true f = f refl
      gained new old y false f = sym (or-false _)

  pub open_next : (open_of a).table.next ≡ a.table.next + cond (eqb (open_number a) 0) 1 0
  open_next = rw (after_test (open_number a) _ _) (risen _ a.table (eqb (open_number a) 0) refl)
    where
      risen : (new old : Table) (b : Bool) → new.next ≡ old.next + 1 → (cond b new old).next ≡ old.next + cond b 1 0
      risen new old true e = e
      risen new old false e = sym (add-zero _)

  pub open_others : (q : ℕ) → ¬ (q ≡ slot_of a.table 0)
      → Kept (open_of a).table a.table q
      × (row a.table.columns (open_left a).slab q ≡ row a.table.columns a.slab q)
  open_others q ne = (
    rw (after_test (open_number a) _ _)
        (chosen (λ t. Kept t a.table q) (eqb (open_number a) 0) _ _
        (λ e. taken_others a.table (slot_of a.table 0) a.digest (shown e).free size whole q ne)
        (kept_all a.table q)),
    rw (after_test (open_number a) _ _)
        (chosen (λ s. row a.table.columns s q ≡ row a.table.columns a.slab q) (eqb (open_number a) 0) _ _ key_kept refl),
  )
    where
      key_kept : eqb (open_number a) 0 ≡ true
          → row a.table.columns (splice (slot_of a.table 0 * a.table.columns) (stored_secret a) a.slab) q
          ≡ row a.table.columns a.slab q
      key_kept e =
          row_kept a.table.columns (slot_of a.table 0) (stored_secret a) a.slab
          (omega (arith, room (slot_of a.table 0) 64 a.table.columns (shown e).free, (shown e).shape.slab_whole)) stored_long q ne

-- A slot is closed where a test holds: what a reply and a discard have in common.
module _ (t : Table) (slab : List ℕ) (ticket : ℕ) (size : Sized t) (b : Bool)
    (was : b ≡ true → (pending t ticket ≡ true) × (length slab ≡ 64 * t.columns)) where
  slot_was : b ≡ true → slot_of t ticket < 64
  slot_was e = (slot_pending t ticket (was e).0).0

  shut_formed : malformed t ≡ false → malformed (cond b (closed t (slot_of t ticket)) t) ≡ false
  shut_formed well =
      chosen (λ u. malformed u ≡ false) b _ _ (λ e. closed_formed t (slot_of t ticket) (slot_was e) size well) well

  -- the tickets pending before, but for the one that is closed
  shut_pending : malformed t ≡ false → (x : ℕ)
      → pending (cond b (closed t (slot_of t ticket)) t) x ≡ (pending t x && not (b && eqb x ticket))
  shut_pending well x = lost _ _ _ b (λ e. closed-pending t ticket x size well (was e).0)
    where
      lost : (new old : Table) (y c : Bool) → (c ≡ true → pending new x ≡ (pending old x && not y))
          → pending (cond c new old) x ≡ (pending old x && not (c && y))
      lost new old y true f = f refl
      lost new old y false f = sym (and-true _)

  shut_next : (cond b (closed t (slot_of t ticket)) t).next ≡ t.next
  shut_next = chosen (λ (u : Table). u.next ≡ t.next) b _ _ (λ e. refl) refl

  shut_others : (q : ℕ) → ¬ (q ≡ slot_of t ticket)
      → Kept (cond b (closed t (slot_of t ticket)) t) t q
      × (row t.columns (cond b (wiped t.columns (slot_of t ticket) slab) slab) q ≡ row t.columns slab q)
  shut_others q ne = (
    chosen (λ u. Kept u t q) b _ _ (λ e. closed_others t (slot_of t ticket) (slot_was e) size q ne) (kept_all t q),
    chosen (λ s. row t.columns s q ≡ row t.columns slab q) b _ _ wiped_kept refl,
  )
    where
      wiped_kept : b ≡ true → row t.columns (wiped t.columns (slot_of t ticket) slab) q ≡ row t.columns slab q
      wiped_kept e =
          row_kept t.columns (slot_of t ticket) (replicate t.columns 0) slab
          (omega (arith, room (slot_of t ticket) 64 t.columns (slot_was e), (was e).1))
          (length-replicate {A = ℕ} t.columns 0) q ne

-- A reply.
module _ (a : Received) (size : Sized a.table) where
  -- where it closes the ticket, that was pending and the slab is whole
  was_pending : closing (reply_number a) ≡ true
      → (pending a.table a.ticket ≡ true) × (length a.slab ≡ 64 * a.table.columns)
  was_pending e = let n = none_early a e in (waiting a n, (lent a n).0)

  pub reply_formed : malformed a.table ≡ false → malformed (reply_of a).table ≡ false
  reply_formed = shut_formed a.table a.slab a.ticket size (closing (reply_number a)) was_pending

  pub reply_pending : malformed a.table ≡ false → (x : ℕ)
      → pending (reply_of a).table x ≡ (pending a.table x && not (closing (reply_number a) && eqb x a.ticket))
  reply_pending = shut_pending a.table a.slab a.ticket size (closing (reply_number a)) was_pending

  pub reply_next : (reply_of a).table.next ≡ a.table.next
  reply_next = shut_next a.table a.slab a.ticket size (closing (reply_number a)) was_pending

  pub reply_others : (q : ℕ) → ¬ (q ≡ slot_for a)
      → Kept (reply_of a).table a.table q
      × (row a.table.columns (reply_slab a) q ≡ row a.table.columns a.slab q)
  reply_others = shut_others a.table a.slab a.ticket size (closing (reply_number a)) was_pending

-- A discard.
module _ (t : Table) (slab : List ℕ) (ticket : ℕ) (size : Sized t) where
  abbrev done : Bool
  done = eqb (discard_number t (length slab) ticket) 0

  was_waiting : done ≡ true → (pending t ticket ≡ true) × (length slab ≡ 64 * t.columns)
  was_waiting e = let p = accepted t (length slab) ticket (eqb-true _ 0 e) in (p.waiting, p.whole)

  pub discard_formed : malformed t ≡ false → malformed (discard_table t slab ticket) ≡ false
  discard_formed well =
      rw (after_test (discard_number t (length slab) ticket) _ _) (shut_formed t slab ticket size done was_waiting well)

  pub discard_pending : malformed t ≡ false → (x : ℕ)
      → pending (discard_table t slab ticket) x ≡ (pending t x && not (done && eqb x ticket))
  discard_pending well x =
      rw (after_test (discard_number t (length slab) ticket) _ _) (shut_pending t slab ticket size done was_waiting well x)

  pub discard_next : (discard_table t slab ticket).next ≡ t.next
  discard_next = rw (after_test (discard_number t (length slab) ticket) _ _) (shut_next t slab ticket size done was_waiting)

  pub discard_others : (q : ℕ) → ¬ (q ≡ slot_of t ticket)
      → Kept (discard_table t slab ticket) t q × (row t.columns (discard_slab t slab ticket) q ≡ row t.columns slab q)
  discard_others q ne =
      rw (after_test (discard_number t (length slab) ticket) _ _, after_test (discard_number t (length slab) ticket) _ _)
      (shut_others t slab ticket size done was_waiting q ne)
