-- Document 01, "Numbers we allow": how large an element may be. `outside` and `width_bad`, which two of the functions cite,
-- stand in laws, since every order of refusals cites them.
use Rattle.std.specs.Prelude.{ℕ, ◌-◌, ◌^◌, Bool, List, ltb, length, get_or}
use Rattle.laws.specs.Search.{some}

-- one of the elements is above the greatest that is allowed
unfoldable pub any_above : ℕ → List ℕ → Bool
any_above greatest xs = some (length xs) (λ i. ltb greatest (get_or xs i 0))

-- 17: an element is 2^b or more
abbrev pub elements_bad : ℕ → List ℕ → Bool
elements_bad b xs = any_above (2 ^ b - 1) xs
