-- What an event of a run is answered: all that the terminal is told, and what each buffer that it lent to the event holds then,
-- but for the slab, which is in the state.
use Rattle.std.specs.Prelude.{◌≡◌, ℕ, ◌<◌, List, [], length}
use Rattle.laws.specs.Refusals.{after}
use Rattle.queries.specs.Open.{open_of, open_left}
use Rattle.replies.specs.Reply.{reply_of, reply_value}
use Rattle.replies.specs.Discard.{discard_number}
use Rattle.frames.specs.Lines.{read_line_number, read_line_ticket, read_line_columns, read_line_after}
use Rattle.runs.specs.Run.{Lent, State, Event, opens, replies, comes, discards, asking, telling, read_from, step}

pub record Said : Type 0 where
  pub number : ℕ
  -- the one that an open gives, or that a line names
  pub ticket : ℕ
  -- of random words that an open read, or of words that a line has
  pub count : ℕ
  -- of the value
  pub length : ℕ
  -- an open's two work buffers and its query
  pub secret : List ℕ
  pub error : List ℕ
  pub query : List ℕ
  -- where a line's words are read to, and the value buffer
  pub out : List ℕ
  pub value : List ℕ

-- nothing but a number
abbrev pub plainly : ℕ → Said
plainly number = record {
  number = number;
  ticket = 0;
  count = 0;
  length = 0;
  secret = [];
  error = [];
  query = [];
  out = [];
  value = [];
}

abbrev pub said : Lent → State → Event → Said
said l s (opens a) = record {
  number = (open_of (asking l s a)).number;
  ticket = (open_of (asking l s a)).ticket;
  count = (open_of (asking l s a)).read;
  length = 0;
  secret = (open_left (asking l s a)).secret;
  error = (open_left (asking l s a)).error;
  query = (open_left (asking l s a)).query;
  out = [];
  value = [];
}
said l s (replies a) = record {
  number = (reply_of (telling s a)).number;
  ticket = 0;
  count = 0;
  length = (reply_of (telling s a)).length;
  secret = [];
  error = [];
  query = [];
  out = [];
  value = reply_value (telling s a);
}
-- the reader's number where it refuses the line, and then nothing is replied to
said l s (comes line out masks value) = record {
  number = after (read_line_number 2 line (length out)) (reply_of (telling s (read_from line out masks value))).number
      (read_line_number 2 line (length out));
  ticket = read_line_ticket 2 line (length out);
  count = read_line_columns 2 line (length out);
  length = after (read_line_number 2 line (length out)) (reply_of (telling s (read_from line out masks value))).length 0;
  secret = [];
  error = [];
  query = [];
  out = read_line_after 2 line out;
  value = after (read_line_number 2 line (length out)) (reply_value (telling s (read_from line out masks value))) value;
}
said l s (discards ticket) = plainly (discard_number s.table (length s.slab) ticket)

-- an event is refused and changes nothing: the state is as it was, and so is the value buffer, which held this
pub record Refused (l : Lent) (s : State) (e : Event) (held : List ℕ) : Type 0 where
  pub number : 0 < (said l s e).number
  pub length : (said l s e).length ≡ 0
  pub value : (said l s e).value ≡ held
  pub state : step l s e ≡ s
