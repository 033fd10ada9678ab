-- Rounding: Δ·S plus a noise above -Δ/2 and at most Δ/2 rounds to S.
use mathlib.Core.Path.{◌≡◌, refl, ap, ◌∙◌}
use mathlib.Core.Bool.{cond}
use Prim.Native.Nat.{ℕ, suc, ◌+◌, ◌-◌, ◌*◌, ◌/◌, ◌%◌, ◌^◌, ◌≤◌, ◌<◌}
use native.Mathlib.Nat.{mul-le-mul_left, div-add-mod', mod-lt, sub-add_cancel, pow-succ'}
use native.Mathlib.Decide.{dec_le}
use native.Mathlib.Omega.{arith}
use lib.Dec.{ltb}
use lib.Pow.{pow_pos, pow-add}
use borrow.Author.Tests.{lt-ltb, le-ltb}
use Rattle.laws.specs.Sums.{Cong}
use Rattle.laws.proofs.Sums.{cong_trans, cong_wrap, mod_out, mod_in}
use Rattle.leaves.specs.Rounding.{delta, rounded}
use Rattle.recovery.proofs.Noise.{Small}

-- 1 where the remainder r exceeds half of the step
abbrev pub carry : ℕ → ℕ → ℕ
carry h r = cond (ltb h r) 1 0

not_lt_eq : (a b : ℕ) → ¬ (a < b) → ¬ (b < a) → a ≡ b
not_lt_eq a b h k = omega arith

-- x steps of 2h and r, and y steps and a small noise, are one number only if x, carried by r, is y
module _ (h x y r p m : ℕ) (e : 2 * h * x + r + m ≡ 2 * h * y + p) (l : r < 2 * h) (s : Small h p m) where
  carried : (c : ℕ) → 2 * h * c < r + h → r ≤ 2 * h * c + h → x + c ≡ y
  carried c i j =
      not_lt_eq (x + c) y
      (λ q. let z = mul-le-mul_left (2 * h) q in omega arith)
      (λ q. let z = mul-le-mul_left (2 * h) q in omega arith)

  step_eq : x + carry h r ≡ y
  step_eq =
      elim (dec_le r h) [
        | yes k ↦ rw (le-ltb h r k) (carried 0 (omega arith) (omega arith))
        | no g ↦ let k : h < r = omega arith in rw (lt-ltb h r k) (carried 1 (omega arith) (omega arith))
      ]

-- over any number B of steps of 2h
nearest_cong : (h B u S p m : ℕ) → 0 < h → Cong (2 * h * B) (u + m) (2 * h * S + p) → Small h p m
    → Cong B (u / (2 * h) + carry h (u % (2 * h))) S
nearest_cong h B u S p m pos c s =
    let M = 2 * h * B in
    let k = (2 * h * S + p) / M in
    let l = (u + m) / M in
    let q = u / (2 * h) in
    let r = u % (2 * h) in
    let e1 = div-add-mod' u (2 * h) in
    let e2 = mod_out c in
    let r< = mod-lt u {m = 2 * h} (omega arith) in
    let e3 : 2 * h * (q + k * B) + r + m ≡ 2 * h * (S + l * B) + p = omega arith in
    let e4 = step_eq h (q + k * B) (S + l * B) r p m e3 r< s in
    mod_in B (q + carry h r) S k l (omega arith)

module _ (b : ℕ) (most : b ≤ 31) where
  -- Δ is twice its half, and 2^b of it make a word
  pub delta_half : delta b ≡ 2 * 2 ^ (31 - b)
  delta_half = let e : 32 - b ≡ suc (31 - b) = omega arith in ap (λ (x : ℕ). 2 ^ x) e ∙ pow-succ' 2 (31 - b)

  pub delta_word : 2 * 2 ^ (31 - b) * 2 ^ b ≡ 2 ^ 32
  delta_word =
      let e = pow-add 2 (31 - b) b in
      let f : 2 ^ (31 - b + b) ≡ 2 ^ 31 = ap (λ (x : ℕ). 2 ^ x) (sub-add_cancel most) in
      omega arith

  -- a word that is Δ·S plus p less m, modulo 2^32
  pub rounded_cong : (u S p m : ℕ) → Cong (2 ^ 32) (u + m) (delta b * S + p) → Small (2 ^ (31 - b)) p m
      → Cong (2 ^ b) (rounded b u) S
  unfolding rounded
  rounded_cong u S p m c s =
      let h : ℕ = 2 ^ (31 - b) in
      let half : 2 * h / 2 ≡ h = omega arith in
      let scaled : Cong (2 * h * 2 ^ b) (u + m) (2 * h * S + p) = rw (delta_word, ← delta_half) c in
      rw (delta_half, half)
      (cong_trans (cong_wrap (u / (2 * h) + carry h (u % (2 * h))) refl)
      (nearest_cong h (2 ^ b) u S p m (pow_pos (31 - b)) scaled s))
