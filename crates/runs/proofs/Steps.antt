-- What an event comes to: nothing changes, a slot is taken for the next ticket, the slot of a pending ticket is closed, or one
-- of these after another. A run is such a row of steps too, so each law over them is a law of runs.
use mathlib.Core.Path.{◌≡◌, refl}
use mathlib.Core.Bool.{Bool, true, false, cond, ◌&&◌, ◌||◌}
use mathlib.Core.List.{List, [], ◌∷◌}
use Prim.Native.Nat.{ℕ, zero, suc, ◌+◌, ◌*◌, ◌<◌}
use native.Mathlib.Omega.{arith}
use lib.Dec.{ltb, eqb, eqb-suc-zero}
use lib.ListN.{length}
use Rattle.laws.specs.Refusals.{◌⇒◌, first, after}
use Rattle.laws.specs.Lists.{splice}
use Rattle.pending.specs.Table.{pending, slot_of, taken, closed, wiped}
use Rattle.queries.specs.Open.{open_number, stored_secret}
use Rattle.replies.specs.Reply.{Received, reply_number, closing}
use Rattle.replies.specs.Discard.{discard_number}
use Rattle.frames.specs.Lines.{line_bad, line_columns, read_line_number}
use Rattle.queries.proofs.open.Answers.{Ready, succeeded}
use Rattle.replies.proofs.reply.Answers.{none_early, waiting}
use Rattle.replies.proofs.discard.Answers.{Accepted, accepted}
use Rattle.runs.specs.Run.{Lent, State, Ask, Tell, Event, opens, replies, comes, discards, asking, telling, read_from, replied}
use Rattle.runs.specs.Run.{step, run, Fits, Typed}
use Rattle.runs.specs.Groups.{one, opened_by, counted, answering, failing, answered_by, failed_by, discarded_by, often}
use Rattle.runs.specs.Groups.{shut_on, touched}

-- the state where the lowest free slot is taken, and where a ticket's is closed
abbrev pub took : Lent → State → Ask → State
took l s a = record {
  table = taken s.table (slot_of s.table 0) a.digest;
  slab = splice (slot_of s.table 0 * s.table.columns) (stored_secret (asking l s a)) s.slab;
}

abbrev pub shut : State → ℕ → State
shut s ticket = record {
  table = closed s.table (slot_of s.table ticket);
  slab = wiped s.table.columns (slot_of s.table ticket) s.slab;
}

abbrev pub none : ℕ → ℕ
none t = 0

abbrev pub nowhere : ℕ → Bool
nowhere q = false

-- the state then, how often each ticket is opened, answered, failed and discarded, and the slots touched
pub data Does (l : Lent) : State → State → (o a f d : ℕ → ℕ) → (ℕ → Bool) → Type 0 where
  still : {s : State} → Does l s s none none none none nowhere
  takes : {s : State} (a : Ask) → length a.digest ≡ 32 → Ready (asking l s a)
      → Does l s (took l s a) (λ t. one (eqb s.table.next t)) none none none (λ q. eqb q (slot_of s.table 0))
  -- of the three groups of closed tickets, one gets the ticket
  closes : {s : State} (ticket : ℕ) (a f d : ℕ → ℕ) → pending s.table ticket ≡ true
      → ((t : ℕ) → a t + f t + d t ≡ one (eqb ticket t))
      → Does l s (shut s ticket) none a f d (λ q. eqb q (slot_of s.table ticket))
  then : {s u v : State} {o o' a a' f f' d d' : ℕ → ℕ} {p p' : ℕ → Bool} → Does l s u o a f d p → Does l u v o' a' f' d' p'
      → Does l s v (λ t. o t + o' t) (λ t. a t + a' t) (λ t. f t + f' t) (λ t. d t + d' t) (λ q. p q || p' q)

-- a number that closes a ticket answers it or fails it, and no other number does either
splits : (n : ℕ) → one (answering n) + one (failing n) ≡ one (closing n)
splits zero = refl
splits (suc n) = rw (eqb-suc-zero n) (omega arith)

-- no number of the line reader's answers a ticket or closes it
reader_closes_none : (line : List ℕ) (room : ℕ) → 0 < read_line_number 2 line room
    → (answering (read_line_number 2 line room) ≡ false) × (failing (read_line_number 2 line room) ≡ false)
unfolding read_line_number
reader_closes_none line room = by_tests (line_bad 2 line) (ltb room (line_columns line))
  where
    by_tests : (bad short : Bool) → 0 < first (bad ⇒ 11 ∷ short ⇒ 2 ∷ [])
        → (answering (first (bad ⇒ 11 ∷ short ⇒ 2 ∷ [])) ≡ false) × (failing (first (bad ⇒ 11 ∷ short ⇒ 2 ∷ [])) ≡ false)
    by_tests true short h = (refl, refl)
    by_tests false true h = (refl, refl)
    by_tests false false h = absurd (omega arith)

module _ (l : Lent) (s : State) where
  -- a reply: where it closes its ticket, that was pending
  told : (a : Tell)
      → Does l s (replied s a) none (λ t. counted answering (reply_number (telling s a)) a.ticket t)
      (λ t. counted failing (reply_number (telling s a)) a.ticket t) none (shut_on s a)
  told a =
      by_tests (answering (reply_number x)) (failing (reply_number x)) (closing (reply_number x)) (splits (reply_number x))
      (λ e. waiting x (none_early x e))
    where
      x : Received
      x = telling s a

      slot : ℕ
      slot = slot_of s.table a.ticket

      by_tests : (answers fails shuts : Bool) → one answers + one fails ≡ one shuts
          → (shuts ≡ true → pending s.table a.ticket ≡ true)
          → Does l s
          record {
            table = cond shuts (shut s a.ticket).table s.table;
            slab = cond shuts (shut s a.ticket).slab s.slab;
          }
          none (λ t. one (answers && eqb a.ticket t)) (λ t. one (fails && eqb a.ticket t)) none (λ q. shuts && eqb q slot)
      by_tests true false true e was =
          closes a.ticket (λ t. one (eqb a.ticket t)) none none (was refl) (λ t. omega arith)
      by_tests false true true e was =
          closes a.ticket none (λ t. one (eqb a.ticket t)) none (was refl) (λ t. omega arith)
      by_tests false false false e was = still
      by_tests true true true e was = absurd (omega arith)
      by_tests true true false e was = absurd (omega arith)
      by_tests true false false e was = absurd (omega arith)
      by_tests false true false e was = absurd (omega arith)
      by_tests false false true e was = absurd (omega arith)

  pub does : (e : Event) → Fits e
      → Does l s (step l s e) (opened_by l s e) (answered_by l s e) (failed_by l s e) (discarded_by l s e) (touched l s e)
  does (opens a) whole = by_number (open_number (asking l s a)) (λ e. (succeeded (asking l s a) e).ready)
    where
      by_number : (n : ℕ) → (n ≡ 0 → Ready (asking l s a))
          → Does l s record { table = after n (took l s a).table s.table; slab = after n (took l s a).slab s.slab }
          (λ t. after n (one (eqb (after n s.table.next 0) t)) 0) none none none
          (λ q. after n (eqb q (slot_of s.table 0)) false)
      by_number zero ready = takes a whole (ready refl)
      by_number (suc n) ready = still
  does (replies a) fits = told a
  does (comes line out masks value) fits = by_number (read_line_number 2 line (length out)) (reader_closes_none line (length out))
    where
      a : Tell
      a = read_from line out masks value

      by_number : (n : ℕ) → (0 < n → (answering n ≡ false) × (failing n ≡ false))
          → Does l s (after n (replied s a) s) none (λ t. counted answering (after n (reply_number (telling s a)) n) a.ticket t)
          (λ t. counted failing (after n (reply_number (telling s a)) n) a.ticket t) none (λ q. after n (shut_on s a q) false)
      by_number zero other = told a
      by_number (suc n) other = let k = other (omega arith) in rw (k.0, k.1) still
  does (discards ticket) fits =
      let size = length s.slab in by_number (discard_number s.table size ticket) (accepted s.table size ticket)
    where
      by_number : (n : ℕ) → (n ≡ 0 → Accepted s.table (length s.slab) ticket)
          → Does l s
          record { table = after n (shut s ticket).table s.table; slab = after n (shut s ticket).slab s.slab }
          none none none (λ t. after n (one (eqb ticket t)) 0) (λ q. after n (eqb q (slot_of s.table ticket)) false)
      by_number zero done =
          closes ticket none none (λ t. one (eqb ticket t)) (done refl).waiting (λ t. omega arith)
      by_number (suc n) done = still

-- the slots that a run touches
unfoldable pub ever : Lent → State → List Event → ℕ → Bool
ever l s [] q = false
ever l s (e ∷ es) q = touched l s e q || ever l (step l s e) es q

pub does_all : (l : Lent) (s : State) (es : List Event) → Typed es
    → Does l s (run l s es) (often opened_by l s es) (often answered_by l s es) (often failed_by l s es) (often discarded_by l s es)
    (ever l s es)
unfolding often run ever
does_all l s [] typed = still
does_all l s (e ∷ es) typed = then (does l s e typed.0) (does_all l (step l s e) es typed.1)
