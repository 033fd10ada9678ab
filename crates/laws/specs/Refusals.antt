-- Document 01, "Refusal numbers": the order in which an entry's tests are made, and what a buffer holds after its answer.
use Rattle.std.specs.Prelude.{ℕ, zero, suc, Bool, cond, ◌||◌, List, [], ◌∷◌, ltb}

-- a test, and the number that 01 gives where it holds
pub data Test : Type 0 where
  ◌⇒◌ : Bool → ℕ → Test

-- tighter than `∷`, so that a list of tests reads like 01's orders
infix 68 ◌⇒◌
-- the number of the first test, in order, that holds; 0, success, where none does
abbrev pub first : List Test → ℕ
first [] = 0
first ((t ⇒ n) ∷ ts) = cond t n (first ts)

-- what a buffer holds after the answer of this number: new on 0, old on a refusal
abbrev pub after : {A : Type 0} → ℕ → A → A → A
after zero new old = new
after (suc n) new old = old

-- x is none of lo, .., hi
abbrev pub outside : ℕ → ℕ → ℕ → Bool
outside lo hi x = ltb x lo || ltb hi x

-- 1: b outside 4..=14
abbrev pub width_bad : ℕ → Bool
width_bad b = outside 4 14 b
