-- One slot of a word, over any slot width: masks and shifts are the arithmetic of specs/.
use Rattle.std.proofs.Common.{◌≡◌, ℕ, zero, suc, ◌+◌, ◌-◌, ◌*◌, ◌/◌, ◌%◌, ◌^◌, ◌<◌, ◌≤◌, sym, ap, ◌∙◌, lt_of_lt_of_le, not-suc-le-zero, mod-lt, mul_assoc, suc-mul, add_comm, zero-add, zero-mul, add-one, arith, pow_pos, pow_mono, pow-add, shl_exact}
use native.Mathlib.Nat.{mod-mod, add-mul-div_right, add-mul-mod_self_right, div-eq_of_lt}
use native.Mathlib.Decide.{dec_lt}
use lib.Arith.{digits_lt}
use lib.Bits.{bit_and, bit_or, and_mask, or_shifted_r}
use Rattle.laws.specs.Sums.{sum}
use Rattle.laws.proofs.Lists.{room}
use Rattle.arith.specs.Packing.{slot}

-- `(word >> shift) & low` is the slot
pub read : (b w word low shift s : ℕ) → low ≡ 2 ^ b - 1 → shift ≡ s * w → bit_and (word / 2 ^ shift) low ≡ slot b w word s
read b w word low shift s hl hs = rw (hl, hs) (and_mask (word / 2 ^ (s * w)) b)

cut_lt : (b x : ℕ) → x % 2 ^ b < 2 ^ b
cut_lt b x = mod-lt x (pow_pos b)

-- Slots of w bits, each with the low b bits of an element.
module _ (b w : ℕ) (h : b ≤ w) (x : ℕ → ℕ) where
  -- n of them fill n * w bits at most
  filled_lt : (n : ℕ) → sum n (λ i. (x i % 2 ^ b) * 2 ^ (i * w)) < 2 ^ (n * w)
  unfolding sum
  filled_lt zero = rw (zero-mul w) (pow_pos 0)
  filled_lt (suc n) =
      let low = sum n (λ i. (x i % 2 ^ b) * 2 ^ (i * w)) in
      rw (suc-mul n w, add_comm low, add_comm (n * w) w, pow-add 2 w (n * w))
      (digits_lt (lt_of_lt_of_le (cut_lt b (x n)) (pow_mono h)) (filled_lt n))

  -- `word | ((x & low) << shift)` fills one slot more
  pub fill : (s word low shift : ℕ) → low ≡ 2 ^ b - 1 → shift ≡ s * w → shift + w ≤ 32
      → word ≡ sum s (λ i. (x i % 2 ^ b) * 2 ^ (i * w))
      → bit_or word ((bit_and (x s) low * 2 ^ shift) % 2 ^ 32) ≡ sum (s + 1) (λ i. (x i % 2 ^ b) * 2 ^ (i * w))
  unfolding sum
  fill s word low shift hl hs hr hw =
      let k : b + s * w ≤ 32 = omega arith in
      rw (add-one s, hl, hs, hw)
      (ap (λ (a : ℕ). bit_or (sum s (λ i. (x i % 2 ^ b) * 2 ^ (i * w))) ((a * 2 ^ (s * w)) % 2 ^ 32)) (and_mask (x s) b)
      ∙ ap (bit_or (sum s (λ i. (x i % 2 ^ b) * 2 ^ (i * w)))) (shl_exact b (s * w) 32 (cut_lt b (x s)) k)
      ∙ or_shifted_r (x s % 2 ^ b) (s * w) (sum s (λ i. (x i % 2 ^ b) * 2 ^ (i * w))) (filled_lt s)
      ∙ add_comm ((x s % 2 ^ b) * 2 ^ (s * w)) (sum s (λ i. (x i % 2 ^ b) * 2 ^ (i * w))))

  -- 2 ^ (n * w), from slot s on, is a multiple of 2 ^ b
  above : (s n : ℕ) → s < n → 2 ^ (n * w) ≡ 2 ^ (n * w - s * w - b) * 2 ^ b * 2 ^ (s * w)
  above s n l =
      let e : n * w ≡ (n * w - s * w - b + b) + s * w = omega (arith, room s n w l) in
      ap (λ (k : ℕ). 2 ^ k) e
      ∙ pow-add 2 (n * w - s * w - b + b) (s * w)
      ∙ ap (λ (k : ℕ). k * 2 ^ (s * w)) (pow-add 2 (n * w - s * w - b) b)

  -- slot s of n gives back the low b bits that were put there
  pub taken : (n s : ℕ) → s < n → slot b w (sum n (λ i. (x i % 2 ^ b) * 2 ^ (i * w))) s ≡ x s % 2 ^ b
  unfolding sum
  taken zero s l = absurd (not-suc-le-zero l)
  taken (suc n) s l = elim (dec_lt s n) [ yes k ↦ below k (taken n s k) | no g ↦ top (omega arith) ]
    where
      c : ℕ
      c = x n % 2 ^ b

      low : ℕ
      low = sum n (λ i. (x i % 2 ^ b) * 2 ^ (i * w))

      d : ℕ
      d = n * w - s * w - b

      below : s < n → slot b w low s ≡ x s % 2 ^ b → slot b w (low + c * 2 ^ (n * w)) s ≡ x s % 2 ^ b
      below k ih =
          ap (λ (m : ℕ). (low + m) / 2 ^ (s * w) % 2 ^ b)
          (ap (λ (m : ℕ). c * m) (above s n k) ∙ sym (mul_assoc c (2 ^ d * 2 ^ b) (2 ^ (s * w))))
          ∙ ap (λ (m : ℕ). m % 2 ^ b) (add-mul-div_right low (c * (2 ^ d * 2 ^ b)) (pow_pos (s * w)))
          ∙ ap (λ (m : ℕ). (low / 2 ^ (s * w) + m) % 2 ^ b) (sym (mul_assoc c (2 ^ d) (2 ^ b)))
          ∙ add-mul-mod_self_right (low / 2 ^ (s * w)) (c * 2 ^ d) (2 ^ b)
          ∙ ih

      top : n ≡ s → slot b w (low + c * 2 ^ (n * w)) s ≡ x s % 2 ^ b
      top e =
          ap (λ (m : ℕ). (low + c * 2 ^ (n * w)) / 2 ^ (m * w) % 2 ^ b) (sym e)
          ∙ ap (λ (m : ℕ). m % 2 ^ b) (add-mul-div_right low c (pow_pos (n * w)))
          ∙ ap (λ (m : ℕ). (m + c) % 2 ^ b) (div-eq_of_lt (filled_lt n))
          ∙ ap (λ (m : ℕ). m % 2 ^ b) (zero-add c)
          ∙ mod-mod (x n) (2 ^ b)
          ∙ ap (λ (m : ℕ). x m % 2 ^ b) e
