-- Each turn gathers one bit more, whatever function says the bits.
use Rattle.std.proofs.Common.{◌≡◌, ℕ, ◌+◌, ◌≤◌, ◌<◌}
use Rattle.laws.specs.Bits.{gathered}
use Rattle.rows.proofs.codec.gather.Given as goal

abbrev pub invariant-loop-i : goal.invariant-loop-i
invariant-loop-i g l =
    (f : ℕ → ℕ) → ((k : ℕ) → f k < 2)
    → ((k r : ℕ) → l.at ≤ k → k < l.at + l.w → goal.F-post g l.bit_at k r → r ≡ f k)
    → l.word ≡ gathered l.i f l.at
