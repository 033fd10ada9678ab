-- The product with a packed matrix is the product with its elements.
use Rattle.std.proofs.Common.{◌≡◌, ℕ, ◌*◌, ◌%◌, ◌^◌, ◌≤◌, List, length, get_or, sym, ap, ◌∙◌}
use Rattle.laws.specs.Lists.{row}
use Rattle.laws.specs.Sums.{sum}
use Rattle.laws.proofs.Lists.{build_ext, row-join, get_or-build}
use Rattle.laws.proofs.Sums.{sum_ext}
use Rattle.arith.specs.Packing.{words_of, element_of, unpack_row, packed, unpacked, cut}
use Rattle.arith.specs.Product.{entry_of, product, times_rows}
use Rattle.arith.proofs.packing.Sizes.{length-unpacked}
use Rattle.arith.proofs.packing.RoundTrip.{unpacked-packed}

-- it is the product with what the matrix unpacks to, whatever its unused slots and bits hold
pub product-unpacked : (b rows : ℕ) (v ws : List ℕ) → product b rows v ws ≡ times_rows rows v (unpacked b rows (length v) ws)
unfolding product entry_of times_rows unpacked unpack_row
product-unpacked b rows v ws =
    let k = length v in
    let row_of : ℕ → List ℕ = λ j. unpack_row b k (row (words_of b k) ws j) in
    build_ext rows (λ j. entry_of b v (row (words_of b k) ws j)) (λ j. sum k (λ i. get_or v i 0 * get_or (row k (unpacked b rows k ws) j) i 0) % 2 ^ 32)
    (λ j l.
    ap (λ (x : ℕ). x % 2 ^ 32)
    (sum_ext k (λ i. get_or v i 0 * element_of b (row (words_of b k) ws j) i) (λ i. get_or v i 0 * get_or (row k (unpacked b rows k ws) j) i 0)
    (λ i il.
    ap (λ (x : ℕ). get_or v i 0 * x)
    (sym
    (ap (λ (xs : List ℕ). get_or xs i 0) (row-join k row_of rows (λ t _. length-unpacked b k (row (words_of b k) ws t)) j l)
    ∙ get_or-build k (element_of b (row (words_of b k) ws j)) i 0 il)))))

-- with a matrix that was packed it is the product with its elements modulo 2^b
pub product-packed : (b rows : ℕ) (v m : List ℕ) → b ≤ 14 → length m ≡ rows * length v
    → product b rows v (packed b rows (length v) m) ≡ times_rows rows v (cut b m)
product-packed b rows v m h e =
    product-unpacked b rows v (packed b rows (length v) m)
    ∙ ap (times_rows rows v) (unpacked-packed b rows (length v) m h e)
