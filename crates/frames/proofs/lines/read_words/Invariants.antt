-- Each word read so far.
use Rattle.std.proofs.Common.{◌≡◌, ℕ, ◌+◌, ◌<◌, get_or}
use Rattle.plain.specs.Bytes.{word_at}
use Rattle.frames.specs.Lines.{body_of}
use Rattle.frames.proofs.lines.read_words.Given as goal

abbrev pub invariant-loop-q : goal.invariant-loop-q
invariant-loop-q l = (k : ℕ) → k < l.q → get_or l.out k 0 ≡ word_at (body_of l.text.line.now) (3 + k)
