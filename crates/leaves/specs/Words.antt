-- Words: what a wiped buffer holds, and one that others are copied into, and the product of two modulo 2^32.
use Rattle.std.specs.Prelude.{ℕ, ◌*◌, ◌%◌, ◌^◌, cond, List, ltb, length, replicate}
use Rattle.laws.specs.Lists.{laid}

-- as many zeros as there were words
abbrev pub zeroed : List ℕ → List ℕ
zeroed words = replicate (length words) 0

-- what a buffer holds once others were copied into its start: as before, where there is no room for them
unfoldable pub copied : {A : Type 0} → List A → List A → List A
copied from out = cond (ltb (length out) (length from)) out (laid from out)

abbrev pub times_word : ℕ → ℕ → ℕ
times_word x y = (x * y) % 2 ^ 32
