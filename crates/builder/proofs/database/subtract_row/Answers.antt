use Rattle.std.proofs.Common.{◌≡◌, ℕ, length, get_or, ap, ◌∙◌, arith}
use Rattle.laws.specs.Lists.{build}
use Rattle.laws.proofs.Lists.{length-build}
use Rattle.laws.proofs.Filling.{filled_none, filled_whole, next_word}
use Rattle.builder.specs.Database.{less}
use Rattle.builder.proofs.database.subtract_row.Invariants.{word}
use Rattle.builder.proofs.database.subtract_row.Goals as goal

pub loop-j-init : goal.loop-j-init
unfolding build
loop-j-init c = filled_none _

pub loop-j-preserved : goal.loop-j-preserved
loop-j-preserved c =
    let a = c.args in
    let l = c.loop-j in
    let e = c.subtract.ensures ∙ ap (λ (x : ℕ). less a.width.bits x (get_or a.masks.now l.j 0)) c.subtract-less.ensures in
    next_word (word a.width.bits a.row.now a.sums.now a.masks.now) l.j _ _ _ e (omega (arith, l.invariant.long)) l.invariant

pub returns : goal.returns
returns c =
    let a = c.args in
    let l = c.loop-j in
    let e : l.j ≡ length a.target.now = omega (arith, l.invariant.long) in
    filled_whole (rw e at l.invariant)
    (omega (arith, length-build (length a.target.now) (word a.width.bits a.row.now a.sums.now a.masks.now)))
