-- Demand 3 of document 00, sentence by sentence. proofs/Demand.antt proves it of every sound store.
use Rattle.std.specs.Prelude.{◌≡◌, ℕ, ◌*◌, ◌<◌, ◌≤◌, true, false, List, length, get_or, take}
use Rattle.laws.specs.Lists.{row, laid}
use Rattle.laws.specs.Refusals.{after}
use Rattle.rows.specs.Codec.{value_room_of, row_of, encode_number, value_length, value_of}
use Rattle.builder.specs.Database.{Proposed, build_number, build_after}
use Rattle.pending.specs.Table.{malformed, pending, slot_of, digest_at}
use Rattle.queries.specs.Open.{error_of, stored_secret}
use Rattle.replies.specs.Reply.{row_for, row_number_of}
use Rattle.frames.specs.Lines.{frame, line_length, write_line_number, write_line_length, write_line_after}
use Rattle.runs.specs.Run.{State, Ask, Tell, Event, opens, comes, asking, telling, Brings, step, run, start, Fits, Typed}
use Rattle.runs.specs.Said.{said, Refused}
use Rattle.runs.specs.Groups.{Grouped, touched}
use Rattle.recovery.specs.Noise.{Ternary}
use Rattle.recovery.specs.Store.{Store, calls_of, served, served_line, Calm, wanted}

-- "a fresh pending table of the same b and C", and "any sequence of opens, replies and discards" after it
pub record Reached (st : Store) (s : State) : Type 0 where
  pub slab : List ℕ
  pub events : List Event
  pub whole : length slab ≡ 64 * st.columns
  pub typed : Typed events
  pub is : s ≡ run (calls_of st) (start st.b st.columns slab) events

-- an open that succeeds at s, and any events after it, up to u
pub record Since (st : Store) (s : State) (a : Ask) (u : State) : Type 0 where
  pub reached : Reached st s
  pub digest : length a.digest ≡ 32
  pub opened : (said (calls_of st) s (opens a)).number ≡ 0
  pub later : List Event
  pub typed : Typed later
  pub is : u ≡ run (calls_of st) (step (calls_of st) s (opens a)) later

-- what the terminal has of the open: its ticket, and the R words of its query
abbrev pub ticket_of : Store → State → Ask → ℕ
ticket_of st s a = (said (calls_of st) s (opens a)).ticket

abbrev pub query_of : Store → State → Ask → List ℕ
query_of st s a = take st.r (said (calls_of st) s (opens a)).query

-- and the ticket is still pending
pub record Waiting (st : Store) (s : State) (a : Ask) (u : State) : Type 0 where
  pub since : Since st s a u
  pub still : pending u.table (ticket_of st s a) ≡ true

-- the query line of that ticket and these words, and the line that an honest server answers to it
abbrev pub query_line : Store → State → Ask → List ℕ
query_line st s a = frame 1 (ticket_of st s a) (query_of st s a)

abbrev pub line_of : Store → State → Ask → List ℕ
line_of st s a = served_line st (query_line st s a)

-- what that line has to say: the open's ticket, and the server's words for its query
abbrev pub honest : Store → State → Ask → (masks value : List ℕ) → Tell
honest st s a masks value =
    record { ticket = ticket_of st s a; response = served st (query_of st s a); masks = masks; value = value }

-- "with buffers of the right size": C masks, and room for the longest value
abbrev pub Roomy : Store → (masks value : List ℕ) → Type 0
Roomy st masks value = (length masks ≡ st.columns) × (value_room_of st.b st.columns ≤ length value)

-- "a key placed by the builder with our row writer's row, both at this b and C, queried with its own positions, digest and
-- masks": key i of those that the builder was given, whose stored bytes are v
pub record Placed (st : Store) (a : Ask) (masks v : List ℕ) : Type 0 where
  pub given : Proposed
  pub same_b : given.b ≡ st.b
  pub same_r : given.r ≡ st.r
  pub same_columns : given.columns ≡ st.columns
  pub built : build_number given ≡ 0
  pub elements : st.elements ≡ take (st.r * st.columns) (build_after given)
  pub i : ℕ
  pub below : i < given.count
  pub written : encode_number st.b st.columns (length v) st.columns ≡ 0
  pub its_row : row st.columns given.rows i ≡ row_of st.b st.columns a.digest v
  pub its_positions : a.positions ≡ row 4 given.positions i
  pub its_masks : masks ≡ row st.columns given.masks i
  pub digest_bytes : (k : ℕ) → get_or a.digest k 0 < 256
  pub value_bytes : (k : ℕ) → get_or v k 0 < 256

pub record Demand (st : Store) : Type 0 where
  -- no call of a run finds its table malformed: 18 is never given
  pub formed : (s : State) → Reached st s → malformed s.table ≡ false
  -- "a reply to a ticket not pending is refused and changes nothing", whatever the table and the slab, and whether it came as a
  -- line or without one; in a run, with buffers of the right size, by 10
  pub gone : (s : State) (e : Event) (x : Tell) → Brings e x → pending s.table x.ticket ≡ false
      → Refused (calls_of st) s e x.value
      × (Reached st s → Roomy st x.masks x.value → (said (calls_of st) s e).number ≡ 10)
  -- and 10 is given for no other reason
  pub ten : (s : State) (e : Event) (x : Tell) → Brings e x → (said (calls_of st) s e).number ≡ 10
      → pending s.table x.ticket ≡ false
  -- a late line is never decoded with a newer query's secret: while a ticket is pending, its slot has its own open's digest and
  -- secret
  pub own : (s u : State) (a : Ask) → Waiting st s a u
      → (digest_at u.table (slot_of u.table (ticket_of st s a)) ≡ a.digest)
      × (row st.columns u.slab (slot_of u.table (ticket_of st s a)) ≡ stored_secret (asking (calls_of st) s a))
  -- the errors of an open are -1, 0 or 1
  pub ternary : (s : State) (a : Ask) (i : ℕ) → Ternary (get_or (error_of (asking (calls_of st) s a)) i 0)
  -- the query line that the server has is what the line writer leaves of the ticket and the words that the open was answered
  pub sent : (s u : State) (a : Ask) → Since st s a u → (buffer : List ℕ) → line_length st.r ≤ length buffer
      → (write_line_number (ticket_of st s a) (length (query_of st s a)) (length buffer) ≡ 0)
      × (take (write_line_length (ticket_of st s a) (length (query_of st s a)) (length buffer))
      (write_line_after 1 (ticket_of st s a) (query_of st s a) buffer)
      ≡ query_line st s a)
  -- The honest server's line comes, and there is room for its words: it is read as its ticket and its words, whenever that is.
  -- Where the ticket is no longer pending, it is refused and changes nothing, room or not.
  pub line : (s u : State) (a : Ask) → Since st s a u → (out masks value : List ℕ) → st.columns ≤ length out
      → Brings (comes (line_of st s a) out masks value) (honest st s a masks value)
  pub late : (s u : State) (a : Ask) → Since st s a u → pending u.table (ticket_of st s a) ≡ false
      → (out masks value : List ℕ)
      → Refused (calls_of st) u (comes (line_of st s a) out masks value) value
      × (st.columns ≤ length out → Roomy st masks value → (said (calls_of st) u (comes (line_of st s a) out masks value)).number ≡ 10)
  -- "the recovered row is the sum of the queried rows plus the masks, modulo 2^b", where the noise keeps its bound: however the
  -- honest words come, this is the row that the client makes of them, and what it tells is what the row reader and the digest
  -- say of that row
  pub recovers : (s u : State) (a : Ask) → Waiting st s a u → Calm st (error_of (asking (calls_of st) s a))
      → (masks value : List ℕ) → Roomy st masks value → (e : Event) → Brings e (honest st s a masks value)
      → let found = wanted st a.positions masks in
      let number = row_number_of u.table (slot_of u.table (ticket_of st s a)) found in
      (row_for (telling u (honest st s a masks value)) ≡ found)
      × ((said (calls_of st) u e).number ≡ number)
      × ((said (calls_of st) u e).length ≡ after number (value_length st.b st.columns found) 0)
      × ((said (calls_of st) u e).value ≡ after number (laid (value_of st.b st.columns found) value) value)
  -- "the answer is that key's stored bytes": the terminal is told 0 and the value's length, and has the value at the start of
  -- its buffer, whose rest stays
  pub answers : (s u : State) (a : Ask) → Waiting st s a u → Calm st (error_of (asking (calls_of st) s a))
      → (masks value v : List ℕ) → Roomy st masks value → Placed st a masks v → (e : Event) → Brings e (honest st s a masks value)
      → ((said (calls_of st) u e).number ≡ 0)
      × ((said (calls_of st) u e).length ≡ length v)
      × ((said (calls_of st) u e).value ≡ laid v value)
  -- and in one sentence: the host's line comes, and the terminal has the key's bytes
  pub delivers : (s u : State) (a : Ask) → Waiting st s a u → Calm st (error_of (asking (calls_of st) s a))
      → (out masks value v : List ℕ) → st.columns ≤ length out → Roomy st masks value → Placed st a masks v
      → ((said (calls_of st) u (comes (line_of st s a) out masks value)).number ≡ 0)
      × ((said (calls_of st) u (comes (line_of st s a) out masks value)).length ≡ length v)
      × ((said (calls_of st) u (comes (line_of st s a) out masks value)).value ≡ laid v value)
  -- "Opened tickets are those answered, closed by a refusal, discarded or pending, each in one group."
  pub groups : (slab : List ℕ) (es : List Event) → length slab ≡ 64 * st.columns → Typed es → (t : ℕ) → 0 < t
      → Grouped (calls_of st) (start st.b st.columns slab) es t
  -- "Nobody but these calls writes the lent secrets", and each only the slots that it opens or closes
  pub slots : (s : State) (e : Event) → Reached st s → Fits e → (q : ℕ) → touched (calls_of st) s e q ≡ false
      → row st.columns (step (calls_of st) s e).slab q ≡ row st.columns s.slab q
