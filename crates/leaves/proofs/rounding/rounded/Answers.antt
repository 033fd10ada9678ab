-- The divisors are powers of two; the last two arms are the definition's test.
use mathlib.Core.Path.{◌≡◌, sym, ap, ◌∙◌}
use mathlib.Core.Bool.{cond}
use Prim.Native.Nat.{ℕ, ◌+◌, ◌-◌, ◌/◌, ◌%◌, ◌^◌, ◌<◌, ◌≤◌}
use native.Mathlib.Nat.{add-zero, div-one, mod-one, mod-eq_of_lt, lt_of_lt_of_le}
use native.Mathlib.Omega.{arith}
use lib.Dec.{ltb}
use lib.Pow.{pow_pos, pow_mono, shr_lt}
use borrow.Author.Tests.{lt-ltb, le-ltb}
use Rattle.leaves.specs.Rounding.{delta, rounded}
use Rattle.leaves.proofs.rounding.Indicator.{indicator_is, modulus_is}
use Rattle.leaves.proofs.rounding.rounded.Goals as goal
use Rattle.leaves.proofs.rounding.rounded.Goals.{After-calculate_query_indicator-delta}

-- b 0: modulo 1 everything is 0
none_left : (u : ℕ) → 0 ≡ rounded 0 u
unfolding rounded
none_left u = sym (mod-one (u / delta 0 + cond (ltb (delta 0 / 2) (u % delta 0)) 1 0))

-- b from 32 on: Δ is 1, so that nothing remains and the quotient is u
own_multiple : (b u : ℕ) → 32 ≤ b → u < 2 ^ 32 → u ≡ rounded b u
unfolding rounded
own_multiple b u h l =
    let z : 32 - b ≡ 0 = omega (arith, h) in
    simp (z, div-one u, mod-one u, add-zero, mod-eq_of_lt (lt_of_lt_of_le l (pow_mono {j = b} h)))

-- the quotient has b bits
quotient_lt : (b u : ℕ) → b ≤ 31 → u < 2 ^ 32 → u / delta b < 2 ^ 31
quotient_lt b u h l =
    let e : b + (32 - b) ≡ 32 = omega arith in
    lt_of_lt_of_le (shr_lt b (32 - b) (rw e l)) (pow_mono {j = 31} h)

-- the divisor is Δ, which is not 0
module _ (c : After-calculate_query_indicator-delta) where
  abbrev b : ℕ
  b = c.args.b

  abbrev u : ℕ
  u = c.args.u

  is_delta : c.calculate_query_indicator-delta.result ≡ delta b
  is_delta = c.calculate_query_indicator-delta.ensures ∙ indicator_is b (omega arith) (omega arith)

  delta_pos : 0 < c.calculate_query_indicator-delta.result
  delta_pos = omega (arith, is_delta, pow_pos (32 - b))

pub returns-then-b-eq0 : goal.returns-then-b-eq0
returns-then-b-eq0 c = rw c.if-b-eq0.true (none_left c.args.u)

pub returns-then-b-ge32 : goal.returns-then-b-ge32
returns-then-b-ge32 c =
    let a = c.args in
    own_multiple a.b a.u c.if-b-ge32.true (omega arith)

pub nonzero_div-quotient : goal.nonzero_div-quotient
nonzero_div-quotient c = delta_pos c

pub nonzero_rem-u : goal.nonzero_rem-u
nonzero_rem-u c = delta_pos c

pub overflow_add-result : goal.overflow_add-result
overflow_add-result c =
    let n = (goal.at.overflow_add-result c).After-calculate_query_indicator-delta in
    omega (arith, ap (λ (d : ℕ). u n / d) (is_delta n), quotient_lt (b n) (u n) (omega arith) (omega arith))

pub nonzero_rem-result : goal.nonzero_rem-result
nonzero_rem-result c = let n = b (goal.at.nonzero_rem-result c).After-calculate_query_indicator-delta in omega (arith, c.modulus.ensures ∙ modulus_is n (omega arith), pow_pos n)

pub returns-then-delta-u : goal.returns-then-delta-u
unfolding rounded
returns-then-delta-u c =
    let n = (goal.at.returns-then-delta-u c).After-calculate_query_indicator-delta in
    let d = is_delta n in
    let l = rw d at c.if-delta-u.true in
    simp (d, c.modulus.ensures ∙ modulus_is (b n) (omega arith), lt-ltb _ _ l)

pub nonzero_rem-result-2 : goal.nonzero_rem-result-2
nonzero_rem-result-2 c = let n = b (goal.at.nonzero_rem-result-2 c).After-calculate_query_indicator-delta in omega (arith, c.modulus-2.ensures ∙ modulus_is n (omega arith), pow_pos n)

pub returns : goal.returns
unfolding rounded
returns c =
    let n = (goal.at.returns c).After-calculate_query_indicator-delta in
    let d = is_delta n in
    let l = rw d at c.if-delta-u.false in
    simp (d, c.modulus-2.ensures ∙ modulus_is (b n) (omega arith), le-ltb _ _ l, add-zero)
