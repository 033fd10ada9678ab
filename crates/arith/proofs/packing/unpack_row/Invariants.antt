-- Each turn stores the elements of one word more.
use Rattle.std.proofs.Common.{◌*◌, min, length}
use Rattle.laws.specs.Lists.{build}
use Rattle.laws.proofs.Filling.{Filled}
use Rattle.arith.specs.Packing.{factor_of, element_of}
use Rattle.arith.proofs.packing.unpack_row.Given as goal

abbrev pub invariant-loop-q : goal.invariant-loop-q
invariant-loop-q l = Filled (build (min (l.q * factor_of l.width.bits) (length l.initial.out)) (element_of l.width.bits l.words)) l.initial.out l.out
