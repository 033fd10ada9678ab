use Rattle.std.proofs.Common.{◌≡◌, length}
use Rattle.laws.specs.Search.{some}
use Rattle.leaves.specs.Digests.{unequal}
use Rattle.leaves.proofs.digests.digest_differs.Given as goal

abbrev pub invariant-loop-p : goal.invariant-loop-p
invariant-loop-p l = l.apart ≡ some (length l.yielded) (unequal l.fn.x l.fn.y)
