use Rattle.std.proofs.Common.{◌≡◌, arith}
use Rattle.laws.specs.Lists.{build}
use Rattle.laws.proofs.Lists.{length-build}
use Rattle.laws.proofs.Filling.{filled_none, filled_whole, next_word}
use Rattle.builder.proofs.database.rest.Invariants.{column}
use Rattle.builder.proofs.database.rest.Goals as goal

pub loop-j-init : goal.loop-j-init
unfolding build
loop-j-init c = filled_none _

pub loop-j-preserved : goal.loop-j-preserved
loop-j-preserved c =
    let a = c.args in
    let l = c.loop-j in
    next_word (column a.columns a.ps a.index a.words.now) l.j _ _ _ c.others_sum.ensures
    (omega (arith, l.invariant.long)) l.invariant

pub returns : goal.returns
returns c =
    let a = c.args in
    let l = c.loop-j in
    let e : l.j ≡ a.columns = omega (arith, l.invariant.long) in
    filled_whole (rw e at l.invariant) (omega (arith, length-build a.columns (column a.columns a.ps a.index a.words.now)))
