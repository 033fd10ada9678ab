-- The bits that are gathered are those of the row.
use Rattle.std.proofs.Common.{◌≡◌, ◌*◌, length, sym, ◌∙◌, arith, rules}
use Rattle.laws.specs.Bits.{bit_of, gathered}
use Rattle.laws.proofs.Bits.{bit_lt, gathered-lt}
use Rattle.rows.proofs.codec.Bytes.{byte_is}
use Rattle.rows.proofs.codec.Row.byte.Goals as goal
use Rattle.rows.proofs.codec.Row.byte.Goals.{After-gather}

gathered_all : (c : After-gather) → let r = c.args.self.now in c.gather.result ≡ gathered 8 (bit_of r.width.bits r.elements.now) (c.args.m * 8)
unfolding bit_of
gathered_all c =
    let r = c.args.self.now in
    c.gather.ensures (bit_of r.width.bits r.elements.now) (bit_lt r.width.bits r.elements.now) (λ k bit l h p. search rules)

pub overflow_cast-result : goal.overflow_cast-result
overflow_cast-result c =
    let r = c.args.self.now in
    omega (arith, gathered_all c, gathered-lt (bit_of r.width.bits r.elements.now) (bit_lt r.width.bits r.elements.now) (c.args.m * 8) 8)

pub returns : goal.returns
returns c =
    let r = c.args.self.now in
    gathered_all (goal.at.returns c).After-gather
    ∙ sym (byte_is r.width.bits (length r.elements.now) r.elements.now c.args.m c.requires)
