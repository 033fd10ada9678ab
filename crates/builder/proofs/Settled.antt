-- Two results that the builder's own contract allows for one input coincide, the answer and the database alike.
use Rattle.std.proofs.Common.{refl}
use mathlib.Core.Path.{◌∙⁻¹◌}
use Rattle.laws.specs.Uniqueness.{AllowsOne}
use Rattle.laws.proofs.Contracts.{◌&◌, skip}
use Rattle.answers.proofs.Apart.{same_building}
use Rattle.builder.proofs.database.build_database as build

pub build_database_settled : AllowsOne build.Kinds.ps build.Kinds.r build.Reads.Post
build_database_settled κs a x y v w p q = (
  same_building (p.0 ∙⁻¹ q.0),
  skip 8 (p.1 ∙⁻¹ q.1 & refl),
)
