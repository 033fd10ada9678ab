-- Document 01, "Reply": what each answer tells.
use Rattle.std.specs.Prelude.{ℕ, ◌<◌, Result}
use Rattle.std.proofs.Common.{arith}
use Rattle.answers.specs.Refusal.{number_of, told_of}
use Rattle.client_answers.specs.declared.reply.ReplyingRefusal.{ReplyingRefusal}
use Rattle.client_answers.specs.declared.reply.ReplyingRefusal.TheVariants as replying
use Rattle.client_answers.specs.declared.reply.ReplyTold.{ReplyTold}

-- 01's number of each reason
abbrev pub replying_refusal : ReplyingRefusal → ℕ
replying_refusal replying.Table = 18
replying_refusal replying.Shape = 2
replying_refusal replying.NotPending = 10
replying_refusal replying.Length = 12
replying_refusal replying.Element = 17
replying_refusal replying.Marker = 13
replying_refusal replying.Digest = 14

pub replying_refuses : (reason : ReplyingRefusal) → 0 < replying_refusal reason
replying_refuses replying.Table = omega arith
replying_refuses replying.Shape = omega arith
replying_refuses replying.NotPending = omega arith
replying_refuses replying.Length = omega arith
replying_refuses replying.Element = omega arith
replying_refuses replying.Marker = omega arith
replying_refuses replying.Digest = omega arith

-- 01's number of an answer
abbrev pub replying_number : Result ℕ ReplyingRefusal → ℕ
replying_number = number_of replying_refusal

-- the value's length, which is 0 on a refusal
abbrev pub replying_length : Result ℕ ReplyingRefusal → ℕ
replying_length = told_of (λ length. length)

abbrev pub told_replying : Result ℕ ReplyingRefusal → ReplyTold
told_replying a = record { number = replying_number a; length = replying_length a }
