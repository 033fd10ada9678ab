-- The bits that are gathered are those of the record.
use Rattle.std.proofs.Common.{rules}
use Rattle.laws.specs.Bits.{bit_of}
use Rattle.laws.proofs.Bits.{bit_lt}
use Rattle.rows.proofs.codec.Marked.{marked}
use Rattle.rows.proofs.codec.Record.element.Goals as goal

pub returns : goal.returns
unfolding bit_of
returns c =
    let xs = marked c.args.self.now.digest c.args.self.now.value.now in
    c.gather.ensures (bit_of 8 xs) (bit_lt 8 xs) (λ k r l h p. search rules)
