-- The sum so far.
use Rattle.std.proofs.Common.{◌≡◌, ◌*◌, ◌%◌, ◌^◌, get_or}
use Rattle.laws.specs.Sums.{sum}
use Rattle.plain.specs.Matrix.{cell}
use Rattle.plain.proofs.matrix.cell_sum.Given as goal

abbrev pub invariant-loop-t : goal.invariant-loop-t
invariant-loop-t l = l.acc ≡ sum l.t (λ i. get_or l.row i 0 * cell l.right.columns l.right.words.now i l.j) % 2 ^ 32
