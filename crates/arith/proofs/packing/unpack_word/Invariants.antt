-- Each turn reads one slot more.
use Rattle.std.proofs.Common.{◌≡◌, ◌*◌}
use Rattle.laws.proofs.Filling.{Filled}
use Rattle.arith.specs.Packing.{slots}
use Rattle.arith.proofs.packing.unpack_word.Given as goal

abbrev pub invariant-loop-x : goal.invariant-loop-x
invariant-loop-x l = (l.shift ≡ l.x-index * l.slot) × Filled (slots l.fn.width.bits l.slot l.word l.x-index) l.initial.part l.part
