-- Each turn copies one element more.
use Rattle.std.proofs.Common.{take}
use Rattle.laws.proofs.Filling.{Filled}
use Rattle.leaves.proofs.words.copy.Given as goal

abbrev pub invariant-loop-i : goal.invariant-loop-i
invariant-loop-i g l = Filled (take l.i l.from) l.initial.out l.out
