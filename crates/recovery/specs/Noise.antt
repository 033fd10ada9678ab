-- Demand 3: "the sum of error (-1, 0 or 1) times entry", a whole number.
use Rattle.std.specs.Prelude.{◌≡◌, ℕ, zero, suc, ◌-◌, ◌^◌, cond, ◌⊎◌, ltb, ℤ, pos, neg_ℤ, ◌+ℤ◌, ◌*ℤ◌, ◌<ℤ◌, ◌≤ℤ◌}

-- a word as a signed number: 2^32 - 1 is -1
unfoldable pub signed : ℕ → ℤ
signed w = cond (ltb w (2 ^ 31)) (pos w) (neg_ℤ (pos (2 ^ 32 - w)))

-- f 0 + f 1 + .. + f (n - 1)
unfoldable pub sum_ℤ : ℕ → (ℕ → ℤ) → ℤ
sum_ℤ zero f = pos zero
sum_ℤ (suc n) f = sum_ℤ n f +ℤ f n

-- the n errors e, as signed numbers, times the entries d, summed
abbrev pub noise : ℕ → (ℕ → ℕ) → (ℕ → ℕ) → ℤ
noise n e d = sum_ℤ n (λ i. signed (e i) *ℤ pos (d i))

-- 0, 1 or -1, as a word
abbrev pub Ternary : ℕ → Type 0
Ternary w = (w ≡ 0) ⊎ ((w ≡ 1) ⊎ (w ≡ 4294967295))

-- above -2^(31-b) and at most 2^(31-b)
pub record Quiet (b : ℕ) (z : ℤ) : Type 0 where
  pub above : neg_ℤ (pos (2 ^ (31 - b))) <ℤ z
  pub most : z ≤ℤ pos (2 ^ (31 - b))
