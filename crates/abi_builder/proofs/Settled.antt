-- Two results that the entry's contract allows for one input coincide: the answer and the database alike. It is said of the
-- contract itself.
use Rattle.laws.specs.Uniqueness.{AllowsOne}
use Rattle.laws.proofs.Contracts.{one_buffer}
use Rattle.abi_builder.proofs.database.ladletwig_build_database as build

pub build_database_settled : AllowsOne build.Kinds.ps build.Kinds.r build.Reads.Post
build_database_settled κs a x y v w = one_buffer 8
