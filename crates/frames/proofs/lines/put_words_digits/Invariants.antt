-- Each turn writes one word more.
use Rattle.std.proofs.Common.{get_or}
use Rattle.laws.specs.Lists.{join}
use Rattle.laws.proofs.Filling.{Filled}
use Rattle.plain.specs.Bytes.{word_bytes}
use Rattle.frames.specs.Lines.{hex}
use Rattle.frames.proofs.lines.put_words_digits.Given as goal

abbrev pub invariant-loop-q : goal.invariant-loop-q
invariant-loop-q l = Filled (join l.q (λ k. hex (word_bytes (get_or l.words k 0)))) l.initial.part l.part
