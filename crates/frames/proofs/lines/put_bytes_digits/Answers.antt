use Rattle.std.proofs.Common.{◌≡◌, length, get_or, refl, arith}
use Rattle.laws.specs.Lists.{join}
use Rattle.laws.proofs.Filling.{filled_none, filled_whole, row_more}
use Rattle.frames.specs.Lines.{hex}
use Rattle.frames.proofs.lines.Hex.{digits, length-hex}
use Rattle.frames.proofs.lines.put_bytes_digits.Goals as goal

pub loop-i-init : goal.loop-i-init
unfolding join
loop-i-init c = filled_none _

pub loop-i-preserved : goal.loop-i-preserved
loop-i-preserved c =
    let xs = c.args.bytes.now in
    let l = c.loop-i in
    row_more (length xs) 2 (λ k. digits (get_or xs k 0)) (λ k _. refl) c.args.part.now l.part _ (omega (arith, c.requires)) l.i
    c.loop-i-test.true c.put_byte_digits.ensures l.invariant

pub returns : goal.returns
unfolding hex
returns c =
    let e : c.loop-i.i ≡ length c.args.bytes.now = omega arith in
    filled_whole (rw e at c.loop-i.invariant) (omega (arith, c.requires, length-hex c.args.bytes.now))
