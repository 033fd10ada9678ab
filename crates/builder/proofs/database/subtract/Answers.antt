-- The sum may wrap, since 2^b divides 2^32.
use Rattle.std.proofs.Common.{◌+◌, ◌-◌, ◌%◌, ◌^◌, arith}
use Rattle.builder.specs.Database.{less}
use Rattle.builder.proofs.database.Less.{narrow}
use Rattle.builder.proofs.database.subtract.Goals as goal

pub returns : goal.returns
unfolding less
returns c =
    let a = c.args in
    rw c.modulus-m.ensures
    (narrow a.width.bits (a.a + (2 ^ a.width.bits - a.c % 2 ^ a.width.bits)) (omega (arith, a.width.most)))
