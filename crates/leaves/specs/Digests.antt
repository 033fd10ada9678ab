-- Document 01, refusal 14: "digest differs in any byte".
use Rattle.std.specs.Prelude.{ℕ, Bool, not, List, get_or, eqb}
use Rattle.laws.specs.Search.{some}

-- byte k of two digests
abbrev pub unequal : List ℕ → List ℕ → ℕ → Bool
unequal x y k = not (eqb (get_or x k 0) (get_or y k 0))

-- two digests differ in any of their 32 bytes
unfoldable pub differs : List ℕ → List ℕ → Bool
differs x y = some 32 (unequal x y)
