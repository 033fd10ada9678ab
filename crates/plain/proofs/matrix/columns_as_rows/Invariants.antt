-- Each turn moves one column more.
use Rattle.laws.specs.Lists.{build, join}
use Rattle.laws.proofs.Filling.{Filled}
use Rattle.plain.specs.Matrix.{cell}
use Rattle.plain.proofs.matrix.columns_as_rows.Given as goal

abbrev pub invariant-loop-j : goal.invariant-loop-j
invariant-loop-j l =
    Filled (join l.j (λ j. build l.matrix.rows (λ i. cell l.matrix.columns l.matrix.words.now i j))) l.initial.out l.out
