-- Document 01, refusal 5: positions of any number: four today.
use Rattle.std.specs.Prelude.{ℕ, Bool, ◌||◌, List, length, get_or, leb, eqb}
use Rattle.laws.specs.Search.{some}

-- q is among the positions
unfoldable pub among : List ℕ → ℕ → Bool
among ps q = some (length ps) (λ s. eqb (get_or ps s 0) q)

-- 5's sense: a position is R or more, or two are equal
unfoldable pub positions_bad : ℕ → List ℕ → Bool
positions_bad r ps =
    some (length ps) (λ s. leb r (get_or ps s 0))
    || some (length ps) (λ s. some s (λ t. eqb (get_or ps t 0) (get_or ps s 0)))
