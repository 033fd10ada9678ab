use Rattle.std.proofs.Common.{◌*◌, get_or, refl, add-one}
use Rattle.laws.specs.Sums.{sum}
use Rattle.laws.proofs.Sums.{cong_wrap, wrap_add}
use Rattle.plain.specs.Matrix.{cell}
use Rattle.plain.proofs.matrix.cell_sum.Goals as goal

pub loop-t-init : goal.loop-t-init
unfolding sum
loop-t-init c = refl

pub loop-t-preserved : goal.loop-t-preserved
unfolding sum
loop-t-preserved c =
    let y = c.args.right.now in
    let l = c.loop-t in
    let x = get_or c.args.row.now l.t 0 in
    rw (add-one l.t)
    (wrap_add (sum l.t (λ i. get_or c.args.row.now i 0 * cell y.columns y.words.now i c.args.j)) l.acc _ l.invariant
    (cong_wrap (x * cell y.columns y.words.now l.t c.args.j) (rw c.at.ensures at c.wrapping_mul-acc.ensures))
    refl)
