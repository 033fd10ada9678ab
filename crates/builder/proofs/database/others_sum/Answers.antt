use Rattle.std.proofs.Common.{◌≡◌, ℕ, length, refl, add-one, add-zero, arith, eq-eqb, ne_eqb}
use Rattle.laws.specs.Sums.{sum}
use Rattle.laws.proofs.Sums.{cong_eq, wrap_add}
use Rattle.builder.proofs.database.others_sum.Invariants.{term}
use Rattle.builder.proofs.database.others_sum.Goals as goal
use Rattle.builder.proofs.database.others_sum.Goals.{then-s-index, else-s-index}

pub loop-s-init : goal.loop-s-init
unfolding sum
loop-s-init c = refl

pub loop-s-preserved : goal.loop-s-preserved
unfolding sum
loop-s-preserved c =
    let a = c.args in
    let l = c.loop-s in
    let before : ℕ = sum l.s (term a.columns a.ps a.index a.j a.words.now) in
    rw (add-one l.s) (elim c.if-s-index.branch [
      | then-s-index t ↦ rw (t.sum-is, ne_eqb _ _ t.if-s-index.true) (wrap_add before l.sum _ l.invariant (cong_eq refl) refl)
      | else-s-index t ↦
          rw (t.sum-is, eq-eqb _ _ t.if-s-index.false, add-zero before) l.invariant
    ])

pub returns : goal.returns
returns c =
    let l = c.loop-s in
    let e : l.s ≡ length c.args.ps = omega arith in
    rw e at l.invariant
