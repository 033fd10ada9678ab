-- Finite sums, and congruence modulo M.
use Rattle.std.specs.Prelude.{◌≡◌, ℕ, zero, suc, ◌+◌, ◌%◌}

-- f 0 + f 1 + .. + f (n - 1)
unfoldable pub sum : ℕ → (ℕ → ℕ) → ℕ
sum zero f = 0
sum (suc n) f = sum n f + f n

-- a and b leave one remainder modulo M. A record, so that a law finds M, a and b by itself
pub record Cong (M a b : ℕ) : Type 0 where
  pub same : a % M ≡ b % M
