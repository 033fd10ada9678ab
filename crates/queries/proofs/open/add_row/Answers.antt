use Rattle.std.proofs.Common.{◌≡◌, ℕ, ◌*◌, ◌^◌, length, get_or, refl, arith}
use Rattle.laws.specs.Lists.{build}
use Rattle.laws.proofs.Lists.{length-build}
use Rattle.laws.proofs.Sums.{cong_eq, cong_wrap, cong_add}
use Rattle.laws.proofs.Filling.{filled_none, filled_whole, filled_next, next_word}
use Rattle.queries.proofs.open.add_row.Invariants.{word}
use Rattle.queries.proofs.open.add_row.Goals as goal

pub loop-j-init : goal.loop-j-init
unfolding build
loop-j-init c = filled_none _

pub loop-j-preserved : goal.loop-j-preserved
loop-j-preserved c =
    let l = c.loop-j in
    let a = c.args in
    let f : ℕ → ℕ = word a.x a.row.now a.sums.now in
    let e : get_or l.sums l.j 0 ≡ get_or a.sums.now l.j 0 =
    filled_next (build l.j f) a.sums.now l.sums l.j 0 l.invariant (length-build l.j f) in
    next_word f l.j _ a.sums.now l.sums
    (cong_add {M = 2 ^ 32} (cong_eq e) (cong_wrap (a.x * get_or a.row.now l.j 0) refl)).same (omega arith) l.invariant

pub returns : goal.returns
returns c =
    let a = c.args in
    let l = c.loop-j in
    let n = length a.sums.now in
    let e : l.j ≡ n = omega arith in
    filled_whole (rw e at l.invariant) (omega (arith, length-build n (word a.x a.row.now a.sums.now)))
