-- Lists made index by index or block by block, as a loop makes them; their parts; and one list written over another.
use Rattle.std.specs.Prelude.{ℕ, zero, suc, ◌+◌, ◌*◌, List, [], ◌∷◌, ◌++◌, length, take, drop}

-- f 0, f 1, .., f (n - 1)
unfoldable pub build : {A : Type 0} → ℕ → (ℕ → A) → List A
build zero f = []
build (suc n) f = build n f ++ (f n ∷ [])

-- f 0 ++ f 1 ++ .. ++ f (n - 1)
unfoldable pub join : {A : Type 0} → ℕ → (ℕ → List A) → List A
join zero f = []
join (suc n) f = join n f ++ f n

-- the n elements of xs from `at` on
abbrev pub part : {A : Type 0} → ℕ → ℕ → List A → List A
part at n xs = take n (drop at xs)

-- row j of a matrix of k columns, which lies row after row
abbrev pub row : {A : Type 0} → ℕ → List A → ℕ → List A
row k m j = part (j * k) k m

-- xs with ys in place of as many elements from `at` on
unfoldable pub splice : {A : Type 0} → ℕ → List A → List A → List A
splice at ys xs = take at xs ++ (ys ++ drop (at + length ys) xs)

-- xs with ys written over its start: an output, whose rest stays as it was
unfoldable pub laid : {A : Type 0} → List A → List A → List A
laid ys xs = ys ++ drop (length ys) xs
