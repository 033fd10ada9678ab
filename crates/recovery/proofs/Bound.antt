-- The bound of demand 3 is the right one: a word is a quiet noise exactly where it rounds to 0, for every width from
-- 4 to 14.
use mathlib.Core.Path.{◌≡◌, sym, ◌∙◌}
use mathlib.Core.Bool.{false}
use mathlib.Core.Logic.{◌⊎◌, inl, inr}
use Prim.Native.Nat.{ℕ, ◌+◌, ◌-◌, ◌*◌, ◌/◌, ◌%◌, ◌^◌, ◌≤◌, ◌<◌}
use native.Mathlib.Nat.{mul-le-mul_left, div-add-mod', mod-lt, mod-mod, mod-eq_of_lt}
use native.Mathlib.Decide.{dec_lt, dec_le}
use native.Mathlib.Omega.{arith}
use lib.Pow.{pow_pos, pow-lt}
use borrow.Author.Tests.{lt-ltb, le-ltb}
use Rattle.laws.specs.Refusals.{width_bad}
use Rattle.laws.proofs.Refusals.{inside}
use Rattle.laws.proofs.Sums.{cong_eq, cong_trans}
use Rattle.leaves.specs.Rounding.{rounded}
use Rattle.recovery.specs.Noise.{signed, Quiet}
use Rattle.recovery.proofs.Noise.{plus, minus, Small, word_diff, word_parts, quiet_parts, parts_quiet}
use Rattle.recovery.proofs.Rounding.{carry, delta_half, delta_word, rounded_cong}

-- u is q steps of 2h and r, and B steps make M: if q, carried by r, is no step or all B, then u is at most h from 0 or below M
near_ends : (h B M u q r : ℕ) → 2 * h * B ≡ M → u < M → q * (2 * h) + r ≡ u → r < 2 * h → (q + carry h r) % B ≡ 0
    → (u ≤ h) ⊎ (M < u + h)
near_ends h B M u q r whole small parts rest none =
    let below : q < B =
    elim (dec_lt q B) [
      | yes l ↦ l
      | no g ↦ absurd (let k : B ≤ q = omega arith in let z = mul-le-mul_left (2 * h) k in omega arith)
    ] in
    elim (dec_le r h) [
      | yes k ↦ let e : (q + 0) % B ≡ 0 = rw (le-ltb h r k) at none in
          let f = mod-eq_of_lt {n = q + 0} {m = B} (omega arith) in
          let z : q ≡ 0 = omega arith in
          inl (let p : 0 * (2 * h) + r ≡ u = rw z at parts in omega arith)
      | no g ↦ let e : (q + 1) % B ≡ 0 = rw (lt-ltb h r (omega arith)) at none in
          elim (dec_lt (q + 1) B) [
            | yes l ↦ absurd (let f = mod-eq_of_lt l in omega arith)
            | no n ↦ let z : B ≡ q + 1 = omega arith in inr (let w = rw z at whole in omega arith)
          ]
    ]

module _ (b : ℕ) (good : width_bad b ≡ false) (u : ℕ) (word : u < 2 ^ 32) where
  most : b ≤ 31
  most = omega (arith, (inside 4 14 b good).1)

  quiet_rounds : Quiet b (signed u) → rounded b u ≡ 0
  unfolding rounded
  quiet_rounds q =
      let small = quiet_parts (signed u) (plus u) (minus u) (word_diff u) b q in
      let c = rounded_cong b most u 0 (plus u) (minus u) (cong_trans (word_parts u word) (cong_eq (omega arith))) small in
      sym (mod-mod _ (2 ^ b)) ∙ c.same ∙ mod-eq_of_lt (pow_pos b)

  -- at most h from 0, on either side, and half a word is more than that
  near_small : (h : ℕ) → h < 2 ^ 31 → 0 < h → (u ≤ h) ⊎ (2 ^ 32 < u + h) → Small h (plus u) (minus u)
  unfolding plus minus
  near_small h half some (inl l) =
      rw (lt-ltb u (2 ^ 31) (omega arith)) record { low = omega arith; high = omega arith }
  near_small h half some (inr l) =
      rw (le-ltb u (2 ^ 31) (omega arith)) record { low = omega arith; high = omega arith }

  rounds_quiet : rounded b u ≡ 0 → Quiet b (signed u)
  unfolding rounded
  rounds_quiet zero =
      let h : ℕ = 2 ^ (31 - b) in
      let half : 2 * h / 2 ≡ h = omega arith in
      let less : 31 - b < 31 = omega (arith, (inside 4 14 b good).0) in
      let none : (u / (2 * h) + carry h (u % (2 * h))) % 2 ^ b ≡ 0 = rw (delta_half b most, half) at zero in
      let near = near_ends h (2 ^ b) (2 ^ 32) u (u / (2 * h)) (u % (2 * h)) (delta_word b most) word (div-add-mod' u (2 * h))
      (mod-lt u (omega (arith, pow_pos (31 - b)))) none in
      parts_quiet (signed u) (plus u) (minus u) (word_diff u) b (near_small h (pow-lt less) (pow_pos (31 - b)) near)

  pub exact : (Quiet b (signed u) → rounded b u ≡ 0) × (rounded b u ≡ 0 → Quiet b (signed u))
  exact = (quiet_rounds, rounds_quiet)
