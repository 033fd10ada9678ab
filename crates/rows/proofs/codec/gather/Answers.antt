use Rattle.std.proofs.Common.{arith}
use Rattle.laws.proofs.Bits.{gathered_none, gathered_more}
use Rattle.rows.proofs.codec.gather.Goals as goal

pub loop-i-init : goal.loop-i-init
loop-i-init g c = λ f small gives. gathered_none f _

pub loop-i-preserved : goal.loop-i-preserved
loop-i-preserved g c = λ f small gives.
    let bit = gives _ _ (omega arith) (omega arith) c.bit_at.ensures in
    gathered_more f small _ c.loop-i.i _ _ (omega arith) bit (c.loop-i.invariant f small gives)
