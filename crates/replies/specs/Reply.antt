-- Document 01, "Reply": the row that a response gives, the value in it, and what every lent buffer holds then.
use Rattle.std.specs.Prelude.{ℕ, ◌+◌, ◌-◌, ◌*◌, ◌%◌, ◌^◌, Bool, cond, not, ◌||◌, List, [], ◌∷◌, length, ◌==◌, nat_lt, slice_index}
use Rattle.laws.specs.Refusals.{Test, ◌⇒◌, first, after}
use Rattle.laws.specs.Lists.{build, row, laid}
use Rattle.rows.specs.Codec.{value_room_of, marker_bad, value_length, digest_of, value_of}
use Rattle.leaves.specs.Limits.{elements_bad}
use Rattle.leaves.specs.Digests.{differs}
use Rattle.pending.specs.Table.{digest_at, malformed, pending, slot_of, closed, wiped}
use Rattle.leaves.specs.Rounding.{rounded}
use Rattle.pending.specs.declared.table.Table.{Table}
use Rattle.client_answers.specs.Reply.{replying_number, replying_length}
use Rattle.replies.specs.declared.reply.Replied.{Replied}

-- what is lent to a reply
pub record Received : Type 0 where
  pub table : Table
  pub slab : List ℕ
  pub ticket : ℕ
  pub response : List ℕ
  pub masks : List ℕ
  pub value : List ℕ

abbrev pub received : Table → List ℕ → ℕ → List ℕ → List ℕ → List ℕ → Received
received table slab ticket response masks value =
    record { table = table; slab = slab; ticket = ticket; response = response; masks = masks; value = value }

-- 2: the slab or the masks of a wrong length, or a value buffer too short
unfoldable pub lent_bad : Table → ℕ → ℕ → ℕ → Bool
lent_bad t slab masks value =
    not (slab == 64 * t.columns) || not (masks == t.columns) || nat_lt value (value_room_of t.b t.columns)

-- x less y, modulo 2^32
unfoldable pub less_word : ℕ → ℕ → ℕ
less_word x y = (x + (2 ^ 32 - y)) % 2 ^ 32

-- the recovered row: response less secret, rounded, plus the mask, modulo 2^b
unfoldable pub recovered : ℕ → List ℕ → List ℕ → List ℕ → List ℕ
recovered b secret response masks =
    build (length response) (λ j. (rounded b (less_word (slice_index response j) (slice_index secret j)) + slice_index masks j) % 2 ^ b)

-- the slot of the ticket, its secret, and the row that the response gives with it
abbrev pub slot_for : Received → ℕ
slot_for a = slot_of a.table a.ticket

abbrev pub row_for : Received → List ℕ
row_for a = recovered a.table.b (row a.table.columns a.slab (slot_for a)) a.response a.masks

-- 14: the row's digest differs from the one stored at the open in any byte
abbrev pub digest_bad : Table → ℕ → List ℕ → Bool
digest_bad t s found = differs (digest_of t.b t.columns found) (digest_at t s)

-- what the row alone is refused for, where the ticket's slot is s: 17, 13, 14
abbrev pub row_tests : Table → ℕ → List ℕ → List Test
row_tests t s found =
    elements_bad t.b found ⇒ 17
    ∷ marker_bad t.b t.columns found ⇒ 13
    ∷ digest_bad t s found ⇒ 14
    ∷ []

unfoldable pub row_number_of : Table → ℕ → List ℕ → ℕ
row_number_of t s found = first (row_tests t s found)

-- the number that a reply answers: 18, 2, 10, 12, and then the row's
unfoldable pub reply_number : Received → ℕ
reply_number a =
    first (
    malformed a.table ⇒ 18
    ∷ lent_bad a.table (length a.slab) (length a.masks) (length a.value) ⇒ 2
    ∷ not (pending a.table a.ticket) ⇒ 10
    ∷ not (length a.response == a.table.columns) ⇒ 12
    ∷ row_tests a.table (slot_for a) (row_for a)
    )

-- the value's length that a reply answers; 0 on a refusal
abbrev pub reply_length : Received → ℕ
reply_length a = after (reply_number a) (value_length a.table.b a.table.columns (row_for a)) 0

-- the ticket is closed: by success, 13 and 14
abbrev pub closing : ℕ → Bool
closing number = number == 0 || number == 13 || number == 14

-- all that a reply answers: a number, the value's length, the table
pub record ReplySaid : Type 0 where
  pub number : ℕ
  pub length : ℕ
  pub table : Table

abbrev pub reply_said : Replied → ReplySaid
reply_said r =
    record { number = replying_number r.answer; length = replying_length r.answer; table = r.table }

abbrev pub reply_of : Received → ReplySaid
reply_of a = record {
  number = reply_number a;
  length = reply_length a;
  table = cond (closing (reply_number a)) (closed a.table (slot_for a)) a.table;
}

-- what the slab and the value buffer hold at exit
abbrev pub reply_slab : Received → List ℕ
reply_slab a = cond (closing (reply_number a)) (wiped a.table.columns (slot_for a) a.slab) a.slab

abbrev pub reply_value : Received → List ℕ
reply_value a =
    after (reply_number a) (laid (value_of a.table.b a.table.columns (row_for a)) a.value) a.value
