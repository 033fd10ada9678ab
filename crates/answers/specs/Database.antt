-- Document 01, "Builder": what each answer tells.
use Rattle.std.specs.Prelude.{ℕ, ◌<◌, Result}
use Rattle.std.proofs.Common.{arith}
use Rattle.answers.specs.Refusal.{number_of}
use Rattle.answers.specs.declared.database.BuildingRefusal.{BuildingRefusal}
use Rattle.answers.specs.declared.database.BuildingRefusal.TheVariants as building

-- 01's number of each reason
abbrev pub building_refusal : BuildingRefusal → ℕ
building_refusal building.Width = 1
building_refusal building.Shape = 2
building_refusal building.Element = 17
building_refusal building.Placement = 15

pub building_refuses : (reason : BuildingRefusal) → 0 < building_refusal reason
building_refuses building.Width = omega arith
building_refuses building.Shape = omega arith
building_refuses building.Element = omega arith
building_refuses building.Placement = omega arith

-- 01's number of an answer
abbrev pub building_number : Result Unit BuildingRefusal → ℕ
building_number = number_of building_refusal
