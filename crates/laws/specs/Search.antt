-- Tests over the numbers below n: does one hold of some number, and of which first?
use Rattle.std.specs.Prelude.{ℕ, zero, suc, Bool, false, cond, ◌||◌}

-- p holds of some number below n
unfoldable pub some : ℕ → (ℕ → Bool) → Bool
some zero p = false
some (suc n) p = some n p || p n

-- the lowest number below n of which p holds; n where it holds of none
unfoldable pub lowest : ℕ → (ℕ → Bool) → ℕ
lowest zero p = zero
lowest (suc n) p = cond (some n p) (lowest n p) (cond (p n) n (suc n))
