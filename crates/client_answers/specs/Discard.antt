-- Document 01, "Reply": what each answer tells.
use Rattle.std.specs.Prelude.{ℕ, ◌<◌, Result}
use Rattle.std.proofs.Common.{arith}
use Rattle.answers.specs.Refusal.{number_of}
use Rattle.client_answers.specs.declared.discard.DiscardingRefusal.{DiscardingRefusal}
use Rattle.client_answers.specs.declared.discard.DiscardingRefusal.TheVariants as discarding

-- 01's number of each reason
abbrev pub discarding_refusal : DiscardingRefusal → ℕ
discarding_refusal discarding.Table = 18
discarding_refusal discarding.Shape = 2
discarding_refusal discarding.NotPending = 10

pub discarding_refuses : (reason : DiscardingRefusal) → 0 < discarding_refusal reason
discarding_refuses discarding.Table = omega arith
discarding_refuses discarding.Shape = omega arith
discarding_refuses discarding.NotPending = omega arith

-- 01's number of an answer
abbrev pub discarding_number : Result Unit DiscardingRefusal → ℕ
discarding_number = number_of discarding_refusal
