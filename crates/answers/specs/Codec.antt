-- Document 01, "Row codec": what each answer tells.
use Rattle.std.specs.Prelude.{ℕ, ◌<◌, Result}
use Rattle.std.proofs.Common.{arith}
use Rattle.answers.specs.Refusal.{number_of, told_of}
use Rattle.answers.specs.declared.codec.EncodingRefusal.{EncodingRefusal}
use Rattle.answers.specs.declared.codec.EncodingRefusal.TheVariants as encoding
use Rattle.answers.specs.declared.codec.DecodingRefusal.{DecodingRefusal}
use Rattle.answers.specs.declared.codec.DecodingRefusal.TheVariants as decoding
use Rattle.answers.specs.declared.codec.Decoded.{Decoded}

-- 01's number of each reason
abbrev pub encoding_refusal : EncodingRefusal → ℕ
encoding_refusal encoding.Width = 1
encoding_refusal encoding.Shape = 2
encoding_refusal encoding.TooLong = 16

pub encoding_refuses : (reason : EncodingRefusal) → 0 < encoding_refusal reason
encoding_refuses encoding.Width = omega arith
encoding_refuses encoding.Shape = omega arith
encoding_refuses encoding.TooLong = omega arith

-- 01's number of an answer
abbrev pub encoding_number : Result Unit EncodingRefusal → ℕ
encoding_number = number_of encoding_refusal

-- 01's number of each reason
abbrev pub decoding_refusal : DecodingRefusal → ℕ
decoding_refusal decoding.Width = 1
decoding_refusal decoding.Shape = 2
decoding_refusal decoding.Element = 17
decoding_refusal decoding.Marker = 13

pub decoding_refuses : (reason : DecodingRefusal) → 0 < decoding_refusal reason
decoding_refuses decoding.Width = omega arith
decoding_refuses decoding.Shape = omega arith
decoding_refuses decoding.Element = omega arith
decoding_refuses decoding.Marker = omega arith

-- 01's number of an answer
abbrev pub decoding_number : Result ℕ DecodingRefusal → ℕ
decoding_number = number_of decoding_refusal

-- the value's length, which is 0 on a refusal
abbrev pub decoding_length : Result ℕ DecodingRefusal → ℕ
decoding_length = told_of (λ length. length)

abbrev pub told_decoding : Result ℕ DecodingRefusal → Decoded
told_decoding a = record { number = decoding_number a; length = decoding_length a }
