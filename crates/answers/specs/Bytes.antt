-- Document 01, "Matrix bytes": what each answer tells.
use Rattle.std.specs.Prelude.{ℕ, ◌<◌, Result}
use Rattle.std.proofs.Common.{arith}
use Rattle.answers.specs.Refusal.{number_of, told_of}
use Rattle.answers.specs.declared.bytes.ParsingRefusal.{ParsingRefusal}
use Rattle.answers.specs.declared.bytes.ParsingRefusal.TheVariants as parsing
use Rattle.answers.specs.declared.bytes.Parsed.{Parsed}

-- 01's number of each reason
abbrev pub parsing_refusal : ParsingRefusal → ℕ
parsing_refusal parsing.Malformed = 11
parsing_refusal parsing.Shape = 2

pub parsing_refuses : (reason : ParsingRefusal) → 0 < parsing_refusal reason
parsing_refuses parsing.Malformed = omega arith
parsing_refuses parsing.Shape = omega arith

-- 01's number of an answer
abbrev pub parsing_number : Result (ℕ × ℕ) ParsingRefusal → ℕ
parsing_number = number_of parsing_refusal

-- the rows, which is 0 on a refusal
abbrev pub parsing_rows : Result (ℕ × ℕ) ParsingRefusal → ℕ
parsing_rows = told_of (λ size. size.0)

-- the columns, which is 0 on a refusal
abbrev pub parsing_columns : Result (ℕ × ℕ) ParsingRefusal → ℕ
parsing_columns = told_of (λ size. size.1)

abbrev pub told_parsing : Result (ℕ × ℕ) ParsingRefusal → Parsed
told_parsing a = record { number = parsing_number a; rows = parsing_rows a; columns = parsing_columns a }
