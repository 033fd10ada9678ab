-- The word's four bytes, and then their digits.
use Rattle.std.proofs.Common.{ap, ◌∙◌}
use Rattle.frames.specs.Lines.{hex}
use Rattle.frames.proofs.lines.put_word_digits.Goals as goal

pub returns : goal.returns
returns c = c.put_bytes_digits.ensures ∙ ap hex c.put_word.ensures
