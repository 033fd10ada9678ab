-- Each word moved so far.
use Rattle.std.proofs.Common.{◌≡◌, ℕ, ◌<◌, get_or}
use Rattle.plain.specs.Matrix.{cell}
use Rattle.plain.proofs.matrix.column.Given as goal

abbrev pub invariant-loop-i : goal.invariant-loop-i
invariant-loop-i l = (k : ℕ) → k < l.i → get_or l.out k 0 ≡ cell l.matrix.columns l.matrix.words.now k l.j
