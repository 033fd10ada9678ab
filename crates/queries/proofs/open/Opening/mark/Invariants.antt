-- Δ stands at the positions that were passed. The next one is none of them, so its entry is still as it was.
use Rattle.std.proofs.Common.{◌≡◌}
use Rattle.leaves.specs.Rounding.{delta}
use Rattle.queries.proofs.open.Marks.{partly_marked}
use Rattle.queries.proofs.open.Opening.mark.Given as goal

abbrev pub invariant-loop-p : goal.invariant-loop-p
invariant-loop-p l = l.query ≡ partly_marked (delta l.fn.self.table.b) l.p-items l.initial.query l.p-index
