use Rattle.std.proofs.Common.{◌≡◌, arith}
use Rattle.laws.specs.Lists.{build, join}
use Rattle.laws.proofs.Lists.{length-build}
use Rattle.laws.proofs.Filling.{filled_none, row_more}
use Rattle.plain.specs.Matrix.{cell, grid, transposed}
use Rattle.plain.proofs.matrix.columns_as_rows.Goals as goal

pub loop-j-init : goal.loop-j-init
unfolding join
loop-j-init c = filled_none _

pub loop-j-preserved : goal.loop-j-preserved
loop-j-preserved c =
    let x = c.args.matrix.now in
    let l = c.loop-j in
    row_more x.columns x.rows (λ j. build x.rows (λ i. cell x.columns x.words.now i j)) (λ j _. length-build x.rows _) c.args.out.now l.out _
    (omega (arith, c.requires)) l.j c.loop-j-test.true c.column.ensures l.invariant

pub returns : goal.returns
unfolding transposed grid
returns c =
    let e : c.loop-j.j ≡ c.args.matrix.now.columns = omega arith in
    rw e at c.loop-j.invariant.laid_is
