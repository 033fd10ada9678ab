-- Document 01, the plain product, the transpose and the matrix-bytes writer: what each answer tells.
use Rattle.std.specs.Prelude.{ℕ, ◌<◌, Result}
use Rattle.std.proofs.Common.{arith}
use Rattle.answers.specs.Refusal.{number_of}
use Rattle.answers.specs.declared.matrix.FittingRefusal.{FittingRefusal}
use Rattle.answers.specs.declared.matrix.FittingRefusal.TheVariants as fitting

-- 01's number of each reason
abbrev pub fitting_refusal : FittingRefusal → ℕ
fitting_refusal fitting.Shape = 2

pub fitting_refuses : (reason : FittingRefusal) → 0 < fitting_refusal reason
fitting_refuses fitting.Shape = omega arith

-- 01's number of an answer
abbrev pub fitting_number : Result Unit FittingRefusal → ℕ
fitting_number = number_of fitting_refusal
