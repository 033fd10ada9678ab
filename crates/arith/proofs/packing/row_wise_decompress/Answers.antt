-- The refusals in 01's order, and then the rows.
use Rattle.std.proofs.Common.{rules, ◌∙◌, sym, arith}
use Rattle.std.proofs.lemmas.Result.{err_from_is_err_and}
use Rattle.laws.proofs.Refusals.{kept, written}
use Rattle.answers.specs.Packing.{packing_refuses}
use Rattle.arith.specs.Packing.{unpack_row, unpacked, decompress_number}
use Rattle.arith.proofs.packing.Shapes.{shaped}
use Rattle.arith.proofs.packing.Answers.{numbered, accepted}
use Rattle.arith.proofs.packing.Sizes.{words_le, length-unpacked}
use Rattle.arith.proofs.packing.row_wise_decompress.Goals as goal

pub shape_bad-shape-requires : goal.shape_bad-shape-requires
shape_bad-shape-requires c = (omega (arith, words_le c.args.b c.args.k, c.words_of-n.ensures), omega arith)

pub returns-in_err-width : goal.returns-in_err-width
unfolding decompress_number
returns-in_err-width c =
    let n = numbered c.args.b (rw c.words_of-n.ensures at c.shape_bad-shape.ensures) c.in_err-width.ensures.number in
    let p = err_from_is_err_and c.from_residual.result c.from_residual.ensures.1 in
    rw (p.1, p.2) (record { number = n; out_after = kept _ _ _ (rw n at (packing_refuses c.in_err-width.field-0.0)) })

pub each_row-requires-clause-words_len : goal.each_row-requires-clause-words_len
each_row-requires-clause-words_len c =
    let n = numbered c.args.b (rw c.words_of-n.ensures at c.shape_bad-shape.ensures) c.in_ok-width.ensures.number in
    let whole = (shaped _ _ _ _ _ _ (accepted c.args.b _ n)).whole in
    rw c.words_of-n.ensures (omega (arith, whole))

pub each_row-requires-clause-out_len : goal.each_row-requires-clause-out_len
each_row-requires-clause-out_len c =
    let n = numbered c.args.b (rw c.words_of-n.ensures at c.shape_bad-shape.ensures) c.in_ok-width.ensures.number in
    (shaped _ _ _ _ _ _ (accepted c.args.b _ n)).roomy

pub returns : goal.returns
unfolding decompress_number unpacked
returns c =
    let a = c.args in
    let w = c.in_ok-width.ensures.width in
    let n = numbered a.b (rw c.words_of-n.ensures at c.shape_bad-shape.ensures) c.in_ok-width.ensures.number in
    let bits = c.in_ok-width.width.bits in
    let made = c.each_row.ensures (unpack_row bits a.k) (λ xs l. length-unpacked bits a.k xs) (λ x y r z lx ly h. search rules) in
    record { number = n; out_after = rw (w, c.words_of-n.ensures) at made ∙ written _ _ _ (sym n) }
