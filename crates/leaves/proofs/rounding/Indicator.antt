-- The indicator of a width from 1 to 32 is Δ, and the modulus of one up to 31 is 2^b.
use mathlib.Core.Path.{◌≡◌}
use Prim.Native.Nat.{ℕ, ◌^◌, ◌≤◌}
use native.Mathlib.Omega.{arith}
use borrow.Author.Tests.{lt-ltb}
use Rattle.laws.proofs.Refusals.{within}
use Rattle.leaves.specs.Rounding.{delta, indicator_of, modulus_of}

pub indicator_is : (b : ℕ) → 1 ≤ b → b ≤ 32 → indicator_of b ≡ delta b
unfolding indicator_of
indicator_is b h k = simp (within 1 32 b h k)

-- where a u32 is 2^b
pub modulus_is : (b : ℕ) → b ≤ 31 → modulus_of b ≡ 2 ^ b
unfolding modulus_of
modulus_is b h = simp (lt-ltb b 32 (omega arith))
