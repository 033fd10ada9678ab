-- Document 01, "Packing" and "Packed product": what each answer tells.
use Rattle.std.specs.Prelude.{ℕ, ◌<◌, Result}
use Rattle.std.proofs.Common.{arith}
use Rattle.answers.specs.Refusal.{number_of}
use Rattle.answers.specs.declared.packing.PackingRefusal.{PackingRefusal}
use Rattle.answers.specs.declared.packing.PackingRefusal.TheVariants as packing

-- 01's number of each reason
abbrev pub packing_refusal : PackingRefusal → ℕ
packing_refusal packing.Width = 1
packing_refusal packing.Shape = 2

pub packing_refuses : (reason : PackingRefusal) → 0 < packing_refusal reason
packing_refuses packing.Width = omega arith
packing_refuses packing.Shape = omega arith

-- 01's number of an answer
abbrev pub packing_number : Result Unit PackingRefusal → ℕ
packing_number = number_of packing_refusal
