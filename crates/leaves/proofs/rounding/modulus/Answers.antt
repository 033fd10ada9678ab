-- A shift of 32 or more has no power of two that is a u32.
use Rattle.std.proofs.Common.{◌≡◌, ◌∙◌, ◌%◌, ◌*◌, ◌^◌, ◌<◌, ℕ, arith, lt-ltb, le-ltb}
use Rattle.std.specs.Prelude.{Option, None, Some, SomeIff}
use Rattle.std.specs.Option.{unwrap_or}
use Rattle.laws.proofs.Bits.{one_shifted}
use Rattle.leaves.specs.Rounding.{modulus_of}
use Rattle.leaves.proofs.rounding.modulus.Goals as goal

shifted : (b : ℕ) (a : Option ℕ) → SomeIff a (b < 32) ((1 * 2 ^ b) % 2 ^ 32) → unwrap_or a 0 ≡ modulus_of b
unfolding modulus_of
shifted b None h = simp (le-ltb b 32 (omega arith))
shifted b (Some x) h = h.1 ∙ one_shifted b h.0 ∙ simp (lt-ltb b 32 h.0)

pub returns : goal.returns
returns c = c.unwrap_or.ensures ∙ shifted c.args.b _ c.checked_shl.ensures
