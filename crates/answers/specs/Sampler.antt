-- Document 01, "Ternary sampler": what each answer tells.
use Rattle.std.specs.Prelude.{ℕ, ◌<◌, Result}
use Rattle.std.proofs.Common.{arith}
use Rattle.answers.specs.Refusal.{number_of, told_of}
use Rattle.answers.specs.declared.sampler.SamplingRefusal.{SamplingRefusal}
use Rattle.answers.specs.declared.sampler.SamplingRefusal.TheVariants as sampling
use Rattle.answers.specs.declared.sampler.Sampled.{Sampled}

-- 01's number of each reason
abbrev pub sampling_refusal : SamplingRefusal → ℕ
sampling_refusal sampling.Shape = 2
sampling_refusal sampling.Interval = 4
sampling_refusal sampling.Short = 3

pub sampling_refuses : (reason : SamplingRefusal) → 0 < sampling_refusal reason
sampling_refuses sampling.Shape = omega arith
sampling_refuses sampling.Interval = omega arith
sampling_refuses sampling.Short = omega arith

-- 01's number of an answer
abbrev pub sampling_number : Result ℕ SamplingRefusal → ℕ
sampling_number = number_of sampling_refusal

-- the count of words read, which is 0 on a refusal
abbrev pub sampling_read : Result ℕ SamplingRefusal → ℕ
sampling_read = told_of (λ read. read)

abbrev pub told_sampling : Result ℕ SamplingRefusal → Sampled
told_sampling a = record { number = sampling_number a; read = sampling_read a }
