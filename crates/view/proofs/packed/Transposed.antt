-- Document 01: "Vector of k words times the transpose of a packed matrix". What a view's product writes is the plain product of
-- the vector with the transpose of what the view unpacks to.
use mathlib.Core.Path.{◌≡◌, sym, ap, ◌∙◌}
use mathlib.Core.List.{List}
use Prim.Native.Nat.{ℕ, ◌*◌, ◌%◌, ◌^◌}
use lib.ListN.{length, get_or}
use Rattle.laws.specs.Lists.{build, row}
use Rattle.laws.specs.Sums.{sum}
use Rattle.laws.proofs.Lists.{build_ext, build-get_or}
use Rattle.laws.proofs.Sums.{sum_ext}
use Rattle.plain.specs.Matrix.{times, transposed}
use Rattle.plain.proofs.matrix.Cells.{row-cell, cell-transposed, length-product, product_word}
use Rattle.arith.specs.Packing.{unpacked}
use Rattle.arith.specs.Product.{product, times_rows}
use Rattle.arith.proofs.product.Plain.{product-unpacked}

-- the sum over a row is the sum over a column of the transpose
rows_transposed : (rows : ℕ) (v m : List ℕ) → times_rows rows v m ≡ times 1 (length v) rows v (transposed rows (length v) m)
unfolding times_rows
rows_transposed rows v m =
    let k = length v in
    build_ext rows (λ j. sum k (λ i. get_or v i 0 * get_or (row k m j) i 0) % 2 ^ 32) (λ j. get_or (times 1 k rows v (transposed rows k m)) j 0)
    (λ j h.
    ap (λ (x : ℕ). x % 2 ^ 32)
    (sum_ext k _ _ (λ i l.
    ap (λ (x : ℕ). get_or v i 0 * x) (row-cell k m j i l ∙ sym (cell-transposed rows k m j i h l))))
    ∙ sym (product_word k rows v (transposed rows k m) j h))
    ∙ sym (ap (λ (n : ℕ). build n (λ j. get_or (times 1 k rows v (transposed rows k m)) j 0)) (length-product k rows v (transposed rows k m)))
    ∙ build-get_or (times 1 k rows v (transposed rows k m)) 0

pub product-transposed : (b rows : ℕ) (v ws : List ℕ)
    → product b rows v ws ≡ times 1 (length v) rows v (transposed rows (length v) (unpacked b rows (length v) ws))
product-transposed b rows v ws = product-unpacked b rows v ws ∙ rows_transposed rows v (unpacked b rows (length v) ws)
