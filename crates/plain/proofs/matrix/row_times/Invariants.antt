-- Each word made so far.
use Rattle.std.proofs.Common.{◌≡◌, ℕ, ◌*◌, ◌%◌, ◌^◌, ◌<◌, get_or}
use Rattle.laws.specs.Sums.{sum}
use Rattle.plain.specs.Matrix.{cell}
use Rattle.plain.proofs.matrix.row_times.Given as goal

abbrev pub invariant-loop-j : goal.invariant-loop-j
invariant-loop-j l =
    (k : ℕ) → k < l.j
    → get_or l.out k 0 ≡ sum l.right.rows (λ t. get_or l.row t 0 * cell l.right.columns l.right.words.now t k) % 2 ^ 32
