-- The refusals in 01's order, and then the sums.
use Rattle.std.proofs.Common.{◌≡◌, not, eqb, length, ap, ◌∙◌, sym, arith, eqb-true}
use borrow.Author.Tests.{not-false}
use Rattle.std.proofs.lemmas.Result.{err_from_is_err_and}
use Rattle.laws.specs.Lists.{laid}
use Rattle.laws.proofs.Refusals.{neither, kept, written}
use Rattle.answers.specs.Packing.{packing_refuses}
use Rattle.arith.specs.Product.{product, operands_bad, product_number}
use Rattle.arith.proofs.packing.Shapes.{shaped}
use Rattle.arith.proofs.packing.Answers.{numbered, accepted}
use Rattle.arith.proofs.packing.Sizes.{words_le}
use Rattle.arith.proofs.product.row_vector_x_compressed_transposed_matrix.Goals as goal

pub operands_bad-shape-requires : goal.operands_bad-shape-requires
operands_bad-shape-requires c = omega (arith, words_le c.args.b c.args.k, c.words_of-packed.ensures)

pub returns-in_err-width : goal.returns-in_err-width
unfolding product_number
returns-in_err-width c =
    let n = numbered c.args.b (rw c.words_of-packed.ensures at c.operands_bad-shape.ensures) c.in_err-width.ensures.number in
    let p = err_from_is_err_and c.from_residual.result c.from_residual.ensures.1 in
    rw (p.1, p.2) (record { number = n; out_after = kept _ _ _ (rw n at (packing_refuses c.in_err-width.field-0.0)) })

pub row_sums-requires : goal.row_sums-requires
unfolding operands_bad
row_sums-requires c =
    let a = c.args in
    let n = numbered a.b (rw c.words_of-packed.ensures at c.operands_bad-shape.ensures) c.in_ok-width.ensures.number in
    let q = neither (not (eqb (length a.vector.now) a.k)) _ (accepted a.b _ n) in
    let k : length a.vector.now ≡ a.k = eqb-true _ _ (not-false _ q.0) in
    let p = shaped _ _ _ _ _ _ q.1 in
    record {
      words_len = rw (c.in_ok-width.ensures.width, k) p.whole;
      rows_in_bounds = omega (arith, p.roomy);
    }

pub returns : goal.returns
unfolding product_number
returns c =
    let a = c.args in
    let n = numbered a.b (rw c.words_of-packed.ensures at c.operands_bad-shape.ensures) c.in_ok-width.ensures.number in
    record {
      number = n;
      out_after = c.row_sums.ensures ∙ ap (λ b. laid (product b a.rows a.vector.now a.words.now) a.out.now) c.in_ok-width.ensures.width ∙ written _ _ _ (sym n);
    }
