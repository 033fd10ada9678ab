use Rattle.std.proofs.Common.{◌+◌, arith}
use Rattle.laws.proofs.Lists.{build-from}
use Rattle.plain.specs.Bytes.{word_at}
use Rattle.frames.specs.Lines.{body_of, line_columns, line_words}
use Rattle.frames.proofs.lines.read_words.Goals as goal

pub returns : goal.returns
unfolding line_words
returns c =
    let line = c.args.text.now.line.now in
    build-from (line_columns line) (λ q. word_at (body_of line) (3 + q)) c.loop-q.out 0 (omega (arith, c.requires))
    (λ k h. c.loop-q.invariant k (omega (arith, c.requires)))
