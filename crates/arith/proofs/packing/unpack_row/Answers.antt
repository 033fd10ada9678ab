use Rattle.std.proofs.Common.{◌≡◌, ℕ, ◌*◌, ◌<◌, min, length, refl, ap, ◌∙◌, arith}
use Rattle.laws.specs.Lists.{build}
use Rattle.laws.proofs.Lists.{length-build}
use Rattle.laws.proofs.Filling.{filled_none, filled_whole}
use Rattle.arith.specs.Packing.{factor_of, words_of, element_of, unpack_row}
use Rattle.arith.proofs.packing.Rows.{none_done, unpacked_more, all_done}
use Rattle.arith.proofs.packing.unpack_row.Goals as goal

pub loop-q-init : goal.loop-q-init
unfolding build
loop-q-init c = rw (none_done (factor_of c.args.width.bits) (length c.args.out.now)) (filled_none _)

pub loop-q-preserved : goal.loop-q-preserved
loop-q-preserved c =
    let a = c.args in
    let b = a.width.bits in
    let l = c.loop-q in
    let f = c.factor-f.ensures.value in
    let q : l.q < words_of b (length a.out.now) = omega arith in
    rw f (unpacked_more b (length a.out.now) l.q c.min-n.result a.words.now a.out.now l.out c.unpack_word.new.part q
    (rw (f, l.invariant.long) at c.min-n.ensures) refl (rw f at c.unpack_word.ensures) l.invariant)

pub returns : goal.returns
unfolding unpack_row
returns c =
    let b = c.args.width.bits in
    let k = length c.args.out.now in
    let e : c.loop-q.q ≡ words_of b k = omega arith in
    let all = ap (λ (q : ℕ). min (q * factor_of b) k) e ∙ all_done b k in
    filled_whole (rw all at c.loop-q.invariant) (omega (arith, length-build k (element_of b c.args.words.now)))
