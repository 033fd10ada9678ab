use Rattle.std.proofs.Common.{arith, rules}
use Rattle.laws.proofs.Lists.{build-from}
use Rattle.plain.specs.Matrix.{cell}
use Rattle.plain.proofs.matrix.column.Goals as goal

pub returns : goal.returns
returns c =
    let m = c.args.matrix.now in
    build-from m.rows (λ i. cell m.columns m.words.now i c.args.j) c.loop-i.out 0 (search rules)
    (λ k h. c.loop-i.invariant k (omega arith))
