-- The bytes before i are the row's.
use Rattle.std.proofs.Common.{◌≡◌, ℕ, ◌+◌, ◌<◌, length, get_or}
use Rattle.rows.specs.Codec.{bytes_of}
use Rattle.rows.proofs.codec.Row.read.Given as goal

abbrev pub invariant-loop-i : goal.invariant-loop-i
invariant-loop-i l =
    let b = l.self.width.bits in
    let row = l.self.elements.now in
    (k : ℕ) → k < l.i → get_or l.out k 0 ≡ get_or (bytes_of b (length row) row) (l.from + k) 0
