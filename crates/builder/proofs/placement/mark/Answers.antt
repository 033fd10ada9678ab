use Rattle.std.proofs.Common.{◌≡◌, length, arith}
use Rattle.leaves.specs.Positions.{among}
use Rattle.builder.proofs.placement.Marks.{marked_none, marked_more}
use Rattle.builder.proofs.placement.mark.Goals as goal

pub loop-p-init : goal.loop-p-init
loop-p-init c = marked_none _ _

pub loop-p-preserved : goal.loop-p-preserved
loop-p-preserved c =
    let l = c.loop-p in
    marked_more c.args.ps l.p-index _ l.marks (c.requires l.p-index c.loop-p-test.true) l.invariant

pub returns : goal.returns
unfolding among
returns c q =
    let l = c.loop-p in
    let e : l.p-index ≡ length c.args.ps = omega arith in
    rw e at (l.invariant.marked q)
