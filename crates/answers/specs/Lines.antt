-- Document 01, "Lines": what each answer tells.
use Rattle.std.specs.Prelude.{ℕ, ◌<◌, Result}
use Rattle.std.proofs.Common.{arith}
use Rattle.answers.specs.Refusal.{number_of, told_of}
use Rattle.answers.specs.declared.lines.WritingRefusal.{WritingRefusal}
use Rattle.answers.specs.declared.lines.WritingRefusal.TheVariants as writing
use Rattle.answers.specs.declared.lines.LineWritten.{LineWritten}
use Rattle.answers.specs.declared.lines.ReadingRefusal.{ReadingRefusal}
use Rattle.answers.specs.declared.lines.ReadingRefusal.TheVariants as reading
use Rattle.answers.specs.declared.lines.LineRead.{LineRead}

-- 01's number of each reason
abbrev pub writing_refusal : WritingRefusal → ℕ
writing_refusal writing.NoTicket = 11
writing_refusal writing.Shape = 2

pub writing_refuses : (reason : WritingRefusal) → 0 < writing_refusal reason
writing_refuses writing.NoTicket = omega arith
writing_refuses writing.Shape = omega arith

-- 01's number of an answer
abbrev pub writing_number : Result ℕ WritingRefusal → ℕ
writing_number = number_of writing_refusal

-- the line's length, which is 0 on a refusal
abbrev pub writing_length : Result ℕ WritingRefusal → ℕ
writing_length = told_of (λ length. length)

abbrev pub told_writing : Result ℕ WritingRefusal → LineWritten
told_writing a = record { number = writing_number a; length = writing_length a }

-- 01's number of each reason
abbrev pub reading_refusal : ReadingRefusal → ℕ
reading_refusal reading.Malformed = 11
reading_refusal reading.Shape = 2

pub reading_refuses : (reason : ReadingRefusal) → 0 < reading_refusal reason
reading_refuses reading.Malformed = omega arith
reading_refuses reading.Shape = omega arith

-- 01's number of an answer
abbrev pub reading_number : Result (ℕ × ℕ) ReadingRefusal → ℕ
reading_number = number_of reading_refusal

-- the ticket, which is 0 on a refusal
abbrev pub reading_ticket : Result (ℕ × ℕ) ReadingRefusal → ℕ
reading_ticket = told_of (λ line. line.0)

-- the count of words, which is 0 on a refusal
abbrev pub reading_columns : Result (ℕ × ℕ) ReadingRefusal → ℕ
reading_columns = told_of (λ line. line.1)

abbrev pub told_reading : Result (ℕ × ℕ) ReadingRefusal → LineRead
told_reading a = record { number = reading_number a; ticket = reading_ticket a; columns = reading_columns a }
