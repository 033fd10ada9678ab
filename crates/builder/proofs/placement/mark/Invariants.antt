-- The positions so far are marked, and what was marked stays so.
use Rattle.builder.proofs.placement.Marks.{Marked}
use Rattle.builder.proofs.placement.mark.Given as goal

abbrev pub invariant-loop-p : goal.invariant-loop-p
invariant-loop-p l = Marked l.fn.ps l.p-index l.initial.marks l.marks
