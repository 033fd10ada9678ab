use Rattle.std.proofs.Common.{◌+◌, length, arith, rules}
use Rattle.laws.proofs.Lists.{build-from}
use Rattle.plain.specs.Bytes.{word_at}
use Rattle.plain.proofs.bytes.read_words.Goals as goal

pub returns : goal.returns
returns c =
    build-from (length c.args.out.now) (λ q. word_at c.args.bytes.now (2 + q)) c.loop-q.out 0 (search rules)
    (λ k h. c.loop-q.invariant k (omega arith))
