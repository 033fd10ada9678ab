-- Document 01: Δ, 2^b, and a word in multiples of Δ, rounded.
use Rattle.std.specs.Prelude.{ℕ, ◌+◌, ◌-◌, ◌/◌, ◌%◌, ◌^◌, cond, ltb}
use Rattle.laws.specs.Refusals.{outside}

-- Δ
abbrev pub delta : ℕ → ℕ
delta b = 2 ^ (32 - b)

-- Δ where a u32 is that, and else 0
unfoldable pub indicator_of : ℕ → ℕ
indicator_of b = cond (outside 1 32 b) 0 (delta b)

-- 2^b where a u32 is that, and else 0
unfoldable pub modulus_of : ℕ → ℕ
modulus_of b = cond (ltb b 32) (2 ^ b) 0

-- the word in multiples of Δ, to the nearest, a half going down, modulo 2^b
unfoldable pub rounded : ℕ → ℕ → ℕ
rounded b u = (u / delta b + cond (ltb (delta b / 2) (u % delta b)) 1 0) % 2 ^ b
