-- Document 01, "Pending table": what each answer tells.
use Rattle.std.specs.Prelude.{ℕ, ◌<◌, Result}
use Rattle.std.proofs.Common.{arith}
use Rattle.answers.specs.Refusal.{number_of}
use Rattle.client_answers.specs.declared.table.MakingRefusal.{MakingRefusal}
use Rattle.client_answers.specs.declared.table.MakingRefusal.TheVariants as making

-- 01's number of each reason
abbrev pub making_refusal : MakingRefusal → ℕ
making_refusal making.Width = 1
making_refusal making.Shape = 2

pub making_refuses : (reason : MakingRefusal) → 0 < making_refusal reason
making_refuses making.Width = omega arith
making_refuses making.Shape = omega arith

-- 01's number of an answer, which brings a table or none
abbrev pub making_number : {T : Type 0} → Result T MakingRefusal → ℕ
making_number = number_of making_refusal
