-- Document 01, "Refusal numbers": an answer's number, which is 0 where nothing is refused.
use Rattle.std.specs.Prelude.{ℕ, Result, Ok, Err}

abbrev pub number_of : {T R : Type 0} → (R → ℕ) → Result T R → ℕ
number_of number (Ok value) = 0
number_of number (Err reason) = number reason

-- what is told beside the number: of the value on success, and else 0
abbrev pub told_of : {T R : Type 0} → (T → ℕ) → Result T R → ℕ
told_of f (Ok value) = f value
told_of f (Err reason) = 0
