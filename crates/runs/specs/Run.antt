-- "Any sequence of opens, replies and discards", from a fresh table over any slab. What a call does is what its entry's contract
-- says of it, whatever it is lent.
use Rattle.std.specs.Prelude.{◌≡◌, ℕ, List, [], ◌∷◌, length, take}
use Rattle.laws.specs.Refusals.{after}
use Rattle.pending.specs.declared.table.Table.{Table}
use Rattle.pending.specs.Table.{fresh_after}
use Rattle.queries.specs.Open.{Asked, asked, open_of, open_left}
use Rattle.replies.specs.Reply.{Received, received, reply_of, reply_slab}
use Rattle.replies.specs.Discard.{discard_table, discard_slab}
use Rattle.frames.specs.Lines.{read_line_number, read_line_ticket, read_line_columns, read_line_after}

-- what every call of a run is lent alike: n and R, the public matrix A, and a hint, which may be any
pub record Lent : Type 0 where
  pub n : ℕ
  pub r : ℕ
  pub matrix : List ℕ
  pub hint : List ℕ

-- what lasts from call to call
pub record State : Type 0 where
  pub table : Table
  pub slab : List ℕ

-- what an open is lent besides
pub record Ask : Type 0 where
  pub interval : ℕ
  pub positions : List ℕ
  pub digest : List ℕ
  pub words : List ℕ
  pub secret : List ℕ
  pub error : List ℕ
  pub query : List ℕ

-- what a reply is lent besides
pub record Tell : Type 0 where
  pub ticket : ℕ
  pub response : List ℕ
  pub masks : List ℕ
  pub value : List ℕ

-- A line that comes is read into `out`, and what was read is replied to. Any line may come, honest or not, and a reply may be
-- made up without one.
pub data Event : Type 0 where
  opens : Ask → Event
  replies : Tell → Event
  comes : (line out masks value : List ℕ) → Event
  discards : ℕ → Event

-- the calls that an event makes
abbrev pub asking : Lent → State → Ask → Asked
asking l s a =
    asked s.table s.slab l.n l.r l.matrix l.hint a.interval a.positions a.digest a.words a.secret
    a.error a.query

abbrev pub telling : State → Tell → Received
telling s a = received s.table s.slab a.ticket a.response a.masks a.value

-- what a response line tells, where the reader takes it
abbrev pub read_from : (line out masks value : List ℕ) → Tell
read_from line out masks value = record {
  ticket = read_line_ticket 2 line (length out);
  response = take (read_line_columns 2 line (length out)) (read_line_after 2 line out);
  masks = masks;
  value = value;
}

-- an event is this reply: a call without a line, or a line that the reader takes as it
abbrev pub Brings : Event → Tell → Type 0
Brings (opens a) x = ⊥
Brings (replies a) x = a ≡ x
Brings (comes line out masks value) x = (read_line_number 2 line (length out) ≡ 0) × (read_from line out masks value ≡ x)
Brings (discards ticket) x = ⊥

-- the state after a reply, and after an event: a line that the reader refuses changes nothing
abbrev pub replied : State → Tell → State
replied s a = record { table = (reply_of (telling s a)).table; slab = reply_slab (telling s a) }

abbrev pub step : Lent → State → Event → State
step l s (opens a) = record { table = (open_of (asking l s a)).table; slab = (open_left (asking l s a)).slab }
step l s (replies a) = replied s a
step l s (comes line out masks value) = after (read_line_number 2 line (length out)) (replied s (read_from line out masks value)) s
step l s (discards ticket) =
    record { table = discard_table s.table s.slab ticket; slab = discard_slab s.table s.slab ticket }

-- and after a sequence of them
unfoldable pub run : Lent → State → List Event → State
run l s [] = s
run l s (e ∷ es) = run l (step l s e) es

-- what `fresh` promises for this b and C, over a slab
abbrev pub start : ℕ → ℕ → List ℕ → State
start b columns slab = record { table = fresh_after b columns; slab = slab }

-- what the types of the code say of an event: a digest has 32 bytes
abbrev pub Fits : Event → Type 0
Fits (opens a) = length a.digest ≡ 32
Fits (replies a) = Unit
Fits (comes line out masks value) = Unit
Fits (discards ticket) = Unit

abbrev pub Typed : List Event → Type 0
Typed [] = Unit
Typed (e ∷ es) = Fits e × Typed es
