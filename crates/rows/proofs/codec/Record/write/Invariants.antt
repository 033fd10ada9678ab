-- The elements before j are the row's.
use Rattle.std.proofs.Common.{◌≡◌, ℕ, ◌<◌, ◌*◌, get_or}
use Rattle.laws.specs.Bits.{bit_of, gathered}
use Rattle.rows.proofs.codec.Marked.{marked}
use Rattle.rows.proofs.codec.Record.write.Given as goal

abbrev pub invariant-loop-j : goal.invariant-loop-j
invariant-loop-j l =
    (k : ℕ) → k < l.j → get_or l.out k 0 ≡ gathered l.width.bits (bit_of 8 (marked l.self.digest l.self.value.now)) (k * l.width.bits)
