use Rattle.std.proofs.Common.{◌≡◌, ap, ◌∙◌, arith}
use Rattle.laws.specs.Lists.{build, row}
use Rattle.laws.proofs.Lists.{row_lent}
use Rattle.laws.proofs.Filling.{filled_none, next_word}
use Rattle.arith.specs.Product.{entry_of, product}
use Rattle.arith.proofs.product.row_sums.Goals as goal

pub loop-j-init : goal.loop-j-init
unfolding build
loop-j-init c = filled_none _

pub loop-j-preserved : goal.loop-j-preserved
loop-j-preserved c =
    let a = c.args in
    let b = a.width.bits in
    let l = c.loop-j in
    let n = c.words_of-n.result in
    next_word (λ i. entry_of b a.vector.now (row n a.words.now i)) l.j _ a.out.now l.out
    (c.row_sum.ensures ∙ ap (entry_of b a.vector.now) (row_lent n l.j a.words.now)) (omega arith) l.invariant

pub returns : goal.returns
unfolding product
returns c =
    let e : c.loop-j.j ≡ c.args.rows = omega arith in
    rw (e, c.words_of-n.ensures) at c.loop-j.invariant.laid_is
