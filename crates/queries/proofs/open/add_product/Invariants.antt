-- Each turn adds one row of the matrix, times its word of the secret.
use Rattle.std.proofs.Common.{◌≡◌, ◌*◌, ◌≤◌, length, drop}
use Rattle.std.specs.Iterator.Adapters.{zip_first, zip_second}
use Rattle.std.specs.Slice.Iter.{iter_rest, chunks_exact_rest, chunks_exact_size}
use Rattle.queries.proofs.open.Noise.{partly_added}
use Rattle.queries.proofs.open.add_product.Given as goal

abbrev pub invariant-loop-x : goal.invariant-loop-x
invariant-loop-x l =
    let n = length l.yielded in
    let r = length l.initial.error in
    let words = zip_first l.x-iterator in
    let rows = zip_second l.x-iterator in
    (n ≤ length l.secret) × (iter_rest words ≡ drop n l.secret)
    × (chunks_exact_size rows ≡ r) × (chunks_exact_rest rows ≡ drop (n * r) l.matrix)
    × (l.error ≡ partly_added r l.secret l.matrix l.initial.error n)
