-- A run to hold the demand against: one store with one key, and seven events. The statement is not vacuous.
use Rattle.std.specs.Prelude.{◌≡◌, Bool, false, not, ◌&&◌, ℕ, ◌^◌, List, [], ◌∷◌, ◌++◌, ℤ, pos, neg_ℤ, get_or, replicate}
use Rattle.std.specs.Int.Signed.{lt_z, le_z}
use Rattle.laws.specs.Search.{some}
use Rattle.plain.specs.Matrix.{cell}
use Rattle.rows.specs.Codec.{row_of}
use Rattle.builder.specs.Database.{Proposed, build_after}
use Rattle.queries.specs.Open.{error_of}
use Rattle.runs.specs.Run.{Lent, State, Ask, Event, opens, comes, discards, asking, step, run, start}
use Rattle.runs.specs.Said.{said}
use Rattle.recovery.specs.Noise.{noise}
use Rattle.recovery.specs.Store.{Store, Sound, calls_of}
use Rattle.recovery.specs.Demand.{line_of, Placed, Waiting}

-- the key: a digest of threes, the value [5 6], masks of nines, positions 0 1 2 3, its target the third
abbrev pub value : List ℕ
value = 5 ∷ 6 ∷ []

abbrev pub masks : List ℕ
masks = replicate 20 9

abbrev pub places : List ℕ
places = 0 ∷ 1 ∷ 2 ∷ 3 ∷ []

-- the builder is lent this key alone
abbrev pub proposal : Proposed
proposal = record {
  b = 14;
  r = 5;
  columns = 20;
  count = 1;
  rows = row_of 14 20 (replicate 32 3) value;
  masks = masks;
  positions = places;
  targets = 2 ∷ [];
  held = replicate 100 0;
}

-- b 14, n 1, R 5, C 20
abbrev pub store : Store
store = record {
  b = 14;
  n = 1;
  r = 5;
  columns = 20;
  matrix = 7 ∷ 4000000000 ∷ 3 ∷ 4 ∷ 5 ∷ [];
  elements = build_after proposal;
}

abbrev pub calls : Lent
calls = calls_of store

-- an open for the key with a digest of these bytes: a secret of 1, and errors 0 1 -1 0 0; all buffers hold sevens
abbrev pub ask : ℕ → Ask
ask byte = record {
  interval = 5;
  positions = places;
  digest = replicate 32 byte;
  words = 6 ∷ 16 ∷ 0 ∷ 6 ∷ 11 ∷ 0 ∷ 0 ∷ [];
  secret = 7 ∷ [];
  error = replicate 5 7;
  query = replicate 5 7;
}

abbrev pub before : State
before = start 14 20 (replicate 1280 7)

-- ticket 1 is opened and discarded
abbrev pub opening : List Event
opening = opens (ask 3) ∷ discards 1 ∷ []

-- when ticket 2 is opened
abbrev pub then : State
then = run calls before opening

-- the line of ticket 1, and that of ticket 2
abbrev pub line_one : List ℕ
line_one = line_of store before (ask 3)

abbrev pub line_two : List ℕ
line_two = line_of store then (ask 3)

abbrev pub arriving : List ℕ → Event
arriving line = comes line (replicate 20 7) masks (7 ∷ 7 ∷ 7 ∷ [])

-- when the line of ticket 2 comes
abbrev pub later : State
later = run calls (step calls then (opens (ask 3))) (arriving line_one ∷ [])

-- Ticket 1 is opened and discarded; ticket 2 is opened; the line of ticket 1 comes late; that of ticket 2 comes, and again; ticket
-- 3 is opened, and its line is lost.
abbrev pub events : List Event
events =
    opening
    ++ (opens (ask 3) ∷ arriving line_one ∷ arriving line_two ∷ arriving line_two ∷ opens (ask 4) ∷ [])

-- what each event is answered: its number, the ticket that it gives or names, the value's length; and then the value buffer
unfoldable pub all_told : State → List Event → List (List ℕ)
all_told s [] = []
all_told s (e ∷ es) =
    ((said calls s e).number ∷ (said calls s e).ticket ∷ (said calls s e).length ∷ (said calls s e).value)
    ∷ all_told (step calls s e) es

-- Opened and discarded, opened again; 10 for the late line; the key's bytes, and then 10; opened.
abbrev pub stated : List (List ℕ)
stated =
    (0 ∷ 1 ∷ 0 ∷ [])
    ∷ (0 ∷ 0 ∷ 0 ∷ [])
    ∷ (0 ∷ 2 ∷ 0 ∷ [])
    ∷ (10 ∷ 1 ∷ 0 ∷ 7 ∷ 7 ∷ 7 ∷ [])
    ∷ (0 ∷ 2 ∷ 2 ∷ 5 ∷ 6 ∷ 7 ∷ [])
    ∷ (10 ∷ 2 ∷ 0 ∷ 7 ∷ 7 ∷ 7 ∷ [])
    ∷ (0 ∷ 3 ∷ 0 ∷ [])
    ∷ []

-- the noise of ticket 2 in column j, and that it does not keep its bound
abbrev pub column : ℕ → ℤ
column j = noise 5 (λ i. get_or (error_of (asking calls then (ask 3))) i 0) (λ i. cell 20 store.elements i j)

abbrev pub loud : ℕ → Bool
loud j = not (lt_z (neg_ℤ (pos (2 ^ 17))) (column j) && le_z (column j) (pos (2 ^ 17)))

-- all that is computed: the answers, and what the demand supposes
pub record Shown : Type 0 where
  pub told : all_told before events ≡ stated
  pub sound : Sound store
  pub key_placed : Placed store (ask 3) masks value
  pub waits : Waiting store then (ask 3) later
  pub none_loud : some 20 loud ≡ false
