-- Outside 1 to 32 the answer is 0; inside, the shift is below 32.
use mathlib.Core.Path.{sym, ◌∙◌}
use Prim.Native.Nat.{◌-◌, ◌≤◌}
use native.Mathlib.Omega.{arith}
use Rattle.laws.proofs.Refusals.{inside}
use Rattle.leaves.specs.Rounding.{indicator_of}
use Rattle.laws.proofs.Bits.{one_shifted}
use Rattle.leaves.proofs.rounding.Indicator.{indicator_is}
use Rattle.leaves.proofs.rounding.calculate_query_indicator.Goals as goal
use Rattle.leaves.proofs.rounding.calculate_query_indicator.Goals.{Else-out_of}

-- what the test that was passed says
width_in : (c : Else-out_of) → (1 ≤ c.args.b) × (c.args.b ≤ 32)
width_in c = inside 1 32 c.args.b (sym c.out_of.ensures ∙ c.if-out_of.false)

pub returns-then-out_of : goal.returns-then-out_of
unfolding indicator_of
returns-then-out_of c = simp (sym c.out_of.ensures ∙ c.if-out_of.true)

pub overflow_sub-result : goal.overflow_sub-result
overflow_sub-result c = (width_in c).1

pub overflow_shl-result : goal.overflow_shl-result
overflow_shl-result c = omega (arith, (width_in c).0)

pub returns : goal.returns
returns c =
    let b = c.args.b in
    one_shifted (32 - b) (omega (arith, (width_in c).0)) ∙ sym (indicator_is b (width_in c).0 (width_in c).1)
