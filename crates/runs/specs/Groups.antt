-- What becomes of a ticket, as the terminal is told, and which slots an event may write. Each is a function of the ticket or the
-- slot, so that an event may close several.
use Rattle.std.specs.Prelude.{◌≡◌, ℕ, ◌+◌, Bool, false, cond, ◌&&◌, ◌||◌, List, [], ◌∷◌, length, ltb, eqb}
use Rattle.laws.specs.Refusals.{after}
use Rattle.pending.specs.Table.{pending, slot_of}
use Rattle.queries.specs.Open.{open_number}
use Rattle.replies.specs.Reply.{slot_for, reply_number, closing}
use Rattle.replies.specs.Discard.{discard_number}
use Rattle.frames.specs.Lines.{read_line_number}
use Rattle.runs.specs.Said.{said}
use Rattle.runs.specs.Run.{Lent, State, Tell, Event, opens, replies, comes, discards, asking, telling, read_from, step, run}

-- 1 where a test holds
abbrev pub one : Bool → ℕ
one b = cond b 1 0

-- how often an event opens ticket t
abbrev pub opened_by : Lent → State → Event → ℕ → ℕ
opened_by l s (opens a) t = after (said l s (opens a)).number (one (eqb (said l s (opens a)).ticket t)) 0
opened_by l s (replies a) t = 0
opened_by l s (comes line out masks value) t = 0
opened_by l s (discards ticket) t = 0

-- how often it is a reply for ticket t that is told one of these numbers
abbrev pub counted : (ℕ → Bool) → (number ticket t : ℕ) → ℕ
counted these number ticket t = one (these number && eqb ticket t)

abbrev pub replied_by : (ℕ → Bool) → Lent → State → Event → ℕ → ℕ
replied_by these l s (opens a) t = 0
replied_by these l s (replies a) t = counted these (said l s (replies a)).number a.ticket t
replied_by these l s (comes line out masks value) t =
    counted these (said l s (comes line out masks value)).number (said l s (comes line out masks value)).ticket t
replied_by these l s (discards ticket) t = 0

-- the numbers that answer a ticket, and those that close it by a refusal
abbrev pub answering : ℕ → Bool
answering n = eqb n 0

abbrev pub failing : ℕ → Bool
failing n = eqb n 13 || eqb n 14

-- how often an event answers ticket t, closes it by a refusal, discards it
abbrev pub answered_by : Lent → State → Event → ℕ → ℕ
answered_by = replied_by answering

abbrev pub failed_by : Lent → State → Event → ℕ → ℕ
failed_by = replied_by failing

abbrev pub discarded_by : Lent → State → Event → ℕ → ℕ
discarded_by l s (opens a) t = 0
discarded_by l s (replies a) t = 0
discarded_by l s (comes line out masks value) t = 0
discarded_by l s (discards ticket) t = after (said l s (discards ticket)).number (one (eqb ticket t)) 0

-- how often a run does so with ticket t
unfoldable pub often : (Lent → State → Event → ℕ → ℕ) → Lent → State → List Event → ℕ → ℕ
often by l s [] t = 0
often by l s (e ∷ es) t = by l s e t + often by l (step l s e) es t

-- "Opened tickets are those answered, closed by a refusal, discarded or pending, each in one group": ticket t was opened at
-- most once, exactly where it is below next, and then it is in one of the four
pub record Grouped (l : Lent) (s : State) (es : List Event) (t : ℕ) : Type 0 where
  pub once : often opened_by l s es t ≡ one (ltb t (run l s es).table.next)
  pub groups : often opened_by l s es t
      ≡ often answered_by l s es t + often failed_by l s es t + often discarded_by l s es t + one (pending (run l s es).table t)

-- may the event write slot q? It writes the slot that it opens or closes, or none.
abbrev pub shut_on : State → Tell → ℕ → Bool
shut_on s a q = closing (reply_number (telling s a)) && eqb q (slot_for (telling s a))

abbrev pub touched : Lent → State → Event → ℕ → Bool
touched l s (opens a) q = after (open_number (asking l s a)) (eqb q (slot_of s.table 0)) false
touched l s (replies a) q = shut_on s a q
touched l s (comes line out masks value) q =
    after (read_line_number 2 line (length out)) (shut_on s (read_from line out masks value) q) false
touched l s (discards ticket) q =
    after (discard_number s.table (length s.slab) ticket) (eqb q (slot_of s.table ticket)) false
