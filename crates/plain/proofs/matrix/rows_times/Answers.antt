use Rattle.std.proofs.Common.{◌≡◌, ◌∙◌, arith}
use Rattle.laws.specs.Lists.{join}
use Rattle.laws.proofs.Lists.{length-build}
use Rattle.laws.proofs.Filling.{filled_none, row_more}
use Rattle.plain.specs.Matrix.{grid, times}
use Rattle.plain.proofs.matrix.Cells.{row_of_times}
use Rattle.plain.proofs.matrix.rows_times.Invariants.{made}
use Rattle.plain.proofs.matrix.rows_times.Goals as goal

pub loop-i-init : goal.loop-i-init
unfolding join
loop-i-init c = filled_none _

pub loop-i-preserved : goal.loop-i-preserved
loop-i-preserved c =
    let x = c.args.left.now in
    let y = c.args.right.now in
    let l = c.loop-i in
    let made_is = (rw (← c.requires.0) at c.row_times.ensures) ∙ row_of_times x.columns y.columns x.words.now y.words.now l.i _ c.row.ensures in
    row_more x.rows y.columns (made x.columns y.columns x.words.now y.words.now) (λ _ _. length-build y.columns _) c.args.out.now l.out _
    c.requires.1 l.i c.loop-i-test.true made_is l.invariant

pub returns : goal.returns
unfolding times grid
returns c =
    let e : c.loop-i.i ≡ c.args.left.now.rows = omega arith in
    rw e at c.loop-i.invariant.laid_is
