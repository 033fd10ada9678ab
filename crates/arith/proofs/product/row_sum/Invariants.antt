-- Each turn adds the sum of one word more.
use Rattle.std.proofs.Common.{◌≡◌, ◌*◌, ◌%◌, ◌^◌, min, length, get_or, drop}
use Rattle.std.specs.Iterator.Adapters.{zip_first, zip_second}
use Rattle.std.specs.Slice.Iter.{iter_rest, chunks_rest, chunks_size}
use Rattle.laws.specs.Sums.{sum}
use Rattle.arith.specs.Packing.{factor_of, element_of}
use Rattle.arith.proofs.product.row_sum.Given as goal

abbrev pub invariant-loop-part : goal.invariant-loop-part
invariant-loop-part l =
    let f = factor_of l.width.bits in
    let n = length l.yielded in
    let parts = zip_first l.part-iterator in
    (chunks_size parts ≡ f) × (chunks_rest parts ≡ drop (n * f) l.vector) × (iter_rest (zip_second l.part-iterator) ≡ drop n l.words)
    × (l.acc ≡ sum (min (n * f) (length l.vector)) (λ i. get_or l.vector i 0 * element_of l.width.bits l.words i) % 2 ^ 32)
