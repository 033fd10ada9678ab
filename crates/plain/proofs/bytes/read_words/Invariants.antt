-- Each word read so far.
use Rattle.std.proofs.Common.{◌≡◌, ℕ, ◌+◌, ◌<◌, get_or}
use Rattle.plain.specs.Bytes.{word_at}
use Rattle.plain.proofs.bytes.read_words.Given as goal

abbrev pub invariant-loop-q : goal.invariant-loop-q
invariant-loop-q l = (k : ℕ) → k < l.q → get_or l.out k 0 ≡ word_at l.bytes (2 + k)
