-- Lists of numbers below n, however they are put together.
use mathlib.Core.List.{List, [], ◌∷◌, ◌++◌}
use Prim.Native.Nat.{ℕ, zero, suc, ◌+◌, ◌<◌, ◌≤◌}
use native.Mathlib.Omega.{arith}
use native.Mathlib.Decide.{dec_lt}
use lib.ListN.{length, get_or, take, drop, replicate, get_or-eq_default}
use Rattle.laws.specs.Lists.{build, splice}

abbrev pub Below : ℕ → List ℕ → Type 0
Below n [] = Unit
Below n (x ∷ xs) = (x < n) × Below n xs

module _ (n : ℕ) where
  -- each element, and what stands for one past the end
  pub below_at : (xs : List ℕ) → Below n xs → 0 < n → (i : ℕ) → get_or xs i 0 < n
  below_at [] h z i = z
  below_at (x ∷ xs) h z zero = h.0
  below_at (x ∷ xs) h z (suc i) = below_at xs h.1 z i

  -- the same, from each element alone
  pub each_below : (xs : List ℕ) → 0 < n → ((i : ℕ) → i < length xs → get_or xs i 0 < n) → (i : ℕ) → get_or xs i 0 < n
  each_below xs z h i =
      elim (dec_lt i (length xs)) [
        | yes l ↦ h i l
        | no g ↦ let k : length xs ≤ i = omega arith in rw (get_or-eq_default xs 0 k) z
      ]

  below_append : (xs ys : List ℕ) → Below n xs → Below n ys → Below n (xs ++ ys)
  below_append [] ys h k = k
  below_append (x ∷ xs) ys h k = (h.0, below_append xs ys h.1 k)

  below_take : (m : ℕ) (xs : List ℕ) → Below n xs → Below n (take m xs)
  below_take zero xs h = tt
  below_take (suc m) [] h = tt
  below_take (suc m) (x ∷ xs) h = (h.0, below_take m xs h.1)

  below_drop : (m : ℕ) (xs : List ℕ) → Below n xs → Below n (drop m xs)
  below_drop zero xs h = h
  below_drop (suc m) [] h = tt
  below_drop (suc m) (x ∷ xs) h = below_drop m xs h.1

  pub below_replicate : (m x : ℕ) → x < n → Below n (replicate m x)
  below_replicate zero x h = tt
  below_replicate (suc m) x h = (h, below_replicate m x h)

  pub below_build : (m : ℕ) (f : ℕ → ℕ) → ((i : ℕ) → f i < n) → Below n (build m f)
  unfolding build
  below_build zero f h = tt
  below_build (suc m) f h = below_append (build m f) (f m ∷ []) (below_build m f h) (h m, tt)

  pub below_splice : (at : ℕ) (ys xs : List ℕ) → Below n ys → Below n xs → Below n (splice at ys xs)
  unfolding splice
  below_splice at ys xs h k =
      below_append (take at xs) (ys ++ drop (at + length ys) xs) (below_take at xs k)
      (below_append ys (drop (at + length ys) xs) h (below_drop (at + length ys) xs k))
