-- Document 01, "Open": what each answer tells.
use Rattle.std.specs.Prelude.{ℕ, ◌<◌, Result, Ok, Err}
use Rattle.std.proofs.Common.{arith}
use Rattle.answers.specs.Refusal.{number_of, told_of}
use Rattle.client_answers.specs.declared.open.OpeningRefusal.{OpeningRefusal}
use Rattle.client_answers.specs.declared.open.OpeningRefusal.TheVariants as opening
use Rattle.client_answers.specs.declared.open.OpenTold.{OpenTold}

-- 01's number of each reason
abbrev pub opening_refusal : OpeningRefusal → ℕ
opening_refusal opening.Table = 18
opening_refusal opening.Shape = 2
opening_refusal opening.Interval = 4
opening_refusal opening.Positions = 5
opening_refusal opening.Pending = 7
opening_refusal opening.Full = 8
opening_refusal opening.Numbers = 9
opening_refusal opening.Short = 3
opening_refusal (opening.Wraps read) = 6

pub opening_refuses : (reason : OpeningRefusal) → 0 < opening_refusal reason
opening_refuses opening.Table = omega arith
opening_refuses opening.Shape = omega arith
opening_refuses opening.Interval = omega arith
opening_refuses opening.Positions = omega arith
opening_refuses opening.Pending = omega arith
opening_refuses opening.Full = omega arith
opening_refuses opening.Numbers = omega arith
opening_refuses opening.Short = omega arith
opening_refuses (opening.Wraps read) = omega arith

-- 01's number of an answer
abbrev pub opening_number : Result (ℕ × ℕ) OpeningRefusal → ℕ
opening_number = number_of opening_refusal

-- the ticket, which is 0 on a refusal
abbrev pub opening_ticket : Result (ℕ × ℕ) OpeningRefusal → ℕ
opening_ticket = told_of (λ opened. opened.0)

-- the count of words read over both samples: on success and on 6
abbrev pub opening_read : Result (ℕ × ℕ) OpeningRefusal → ℕ
opening_read (Ok opened) = opened.1
opening_read (Err (opening.Wraps read)) = read
opening_read (Err opening.Table) = 0
opening_read (Err opening.Shape) = 0
opening_read (Err opening.Interval) = 0
opening_read (Err opening.Positions) = 0
opening_read (Err opening.Pending) = 0
opening_read (Err opening.Full) = 0
opening_read (Err opening.Numbers) = 0
opening_read (Err opening.Short) = 0

abbrev pub told_opening : Result (ℕ × ℕ) OpeningRefusal → OpenTold
told_opening a = record { number = opening_number a; ticket = opening_ticket a; read = opening_read a }
