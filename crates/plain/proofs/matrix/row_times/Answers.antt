use Rattle.std.proofs.Common.{◌*◌, ◌%◌, ◌^◌, get_or, arith, rules}
use Rattle.laws.specs.Sums.{sum}
use Rattle.laws.proofs.Lists.{build-from}
use Rattle.plain.specs.Matrix.{cell}
use Rattle.plain.proofs.matrix.row_times.Goals as goal

pub returns : goal.returns
returns c =
    let y = c.args.right.now in
    build-from y.columns (λ j. sum y.rows (λ t. get_or c.args.row.now t 0 * cell y.columns y.words.now t j) % 2 ^ 32) c.loop-j.out 0
    (search rules)
    (λ k h. c.loop-j.invariant k (omega arith))
