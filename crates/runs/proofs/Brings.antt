-- An event that brings a reply is answered what the reply is, and leaves what the reply leaves: it does not matter whether it
-- came as a line.
use mathlib.Core.Path.{◌≡◌, sym, ap, ap₂, ◌∙◌}
use mathlib.Core.Bool.{false}
use mathlib.Core.List.{List}
use Prim.Native.Nat.{ℕ, ◌^◌, ◌<◌, ◌≤◌}
use native.Mathlib.Omega.{arith}
use lib.ListN.{length, get_or, take}
use borrow.Author.Tests.{le-ltb}
use Rattle.laws.specs.Lists.{laid}
use Rattle.laws.proofs.Filling.{take-laid}
use Rattle.laws.proofs.Lists.{length-build}
use Rattle.laws.proofs.Refusals.{kept, written}
use Rattle.replies.specs.Reply.{reply_number, reply_of, reply_value}
use Rattle.frames.specs.Lines.{frame, line_ticket, line_columns, line_words, line_bad, read_line_number}
use Rattle.frames.proofs.lines.RoundTrip.{read_back}
use Rattle.runs.specs.Run.{Lent, State, Tell, Event, opens, replies, comes, discards, telling, read_from, Brings, replied, step}
use Rattle.runs.specs.Said.{said, Refused}

pub record Told (l : Lent) (s : State) (e : Event) (a : Tell) : Type 0 where
  pub number : (said l s e).number ≡ reply_number (telling s a)
  pub length : (said l s e).length ≡ (reply_of (telling s a)).length
  pub value : (said l s e).value ≡ reply_value (telling s a)
  pub state : step l s e ≡ replied s a

pub told : (l : Lent) (s : State) (e : Event) (a : Tell) → Brings e a → Told l s e a
told l s (opens b) a brings = absurd brings
told l s (replies b) a is = record {
  number = ap (λ (x : Tell). reply_number (telling s x)) is;
  length = ap (λ (x : Tell). (reply_of (telling s x)).length) is;
  value = ap (λ (x : Tell). reply_value (telling s x)) is;
  state = ap (replied s) is;
}
told l s (comes line out masks value) a (taken, is) =
    let b = read_from line out masks value in
    record {
      number = sym (written _ (reply_number (telling s b)) _ taken) ∙ ap (λ (x : Tell). reply_number (telling s x)) is;
      length = sym (written _ (reply_of (telling s b)).length 0 taken) ∙ ap (λ (x : Tell). (reply_of (telling s x)).length) is;
      value = sym (written _ (reply_value (telling s b)) value taken) ∙ ap (λ (x : Tell). reply_value (telling s x)) is;
      state = sym (written _ (replied s b) s taken) ∙ ap (replied s) is;
    }
told l s (discards ticket) a brings = absurd brings

-- the words of a line are as many as it says
pub length_words : (line : List ℕ) → length (line_words line) ≡ line_columns line
unfolding line_words
length_words line = length-build (line_columns line) _

-- a response frame, and room for its words
module _ (t : ℕ) (words out : List ℕ) (some : 0 < t) (small : t < 2 ^ 32) (each-small : (i : ℕ) → get_or words i 0 < 2 ^ 32)
    (least : 1 ≤ length words) (most : length words ≤ 4096) (roomy : length words ≤ length out) where
  abbrev line : List ℕ
  line = frame 2 t words

  back : (line_bad 2 line ≡ false) × (line_ticket line ≡ t) × (line_words line ≡ words)
  back = read_back 2 t words (omega arith) some small each-small least most

  count : line_columns line ≡ length words
  count = sym (length_words line) ∙ ap length back.2

  success : read_line_number 2 line (length out) ≡ 0
  unfolding read_line_number
  success = simp (back.0, le-ltb (length out) (line_columns line) (omega (arith, count)))

  module _ (masks value : List ℕ) where
    abbrev found : Tell
    found = read_from line out masks value

    ticket_read : found.ticket ≡ t
    ticket_read = sym (written _ (line_ticket line) 0 success) ∙ back.1

    words_read : found.response ≡ words
    words_read =
        ap₂ (λ (k : ℕ) (xs : List ℕ). take k xs) (sym (written _ (line_columns line) 0 success))
        (sym (written _ (laid (line_words line) out) out success))
        ∙ take-laid (line_words line) out (line_columns line) (length_words line)
        ∙ back.2

    pub frame_brings : Brings (comes line out masks value) record { ticket = t; response = words; masks = masks; value = value }
    frame_brings = (
      success,
      ap₂ (λ (t : ℕ) (r : List ℕ). record { ticket = t; response = r; masks = masks; value = value }) ticket_read words_read,
    )

-- a line that the reader refuses brings none, and changes nothing
pub unread : (l : Lent) (s : State) (line out masks value : List ℕ) → 0 < read_line_number 2 line (length out)
    → Refused l s (comes line out masks value) value
unread l s line out masks value h = record {
  number = rw (← kept _ (reply_number (telling s (read_from line out masks value))) _ h) h;
  length = sym (kept _ _ 0 h);
  value = sym (kept _ _ value h);
  state = sym (kept _ _ s h);
}
