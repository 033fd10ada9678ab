-- The errors that an open draws are words: each is 0, 1 or 2^32 - 1.
use mathlib.Core.Path.{refl}
use mathlib.Core.Bool.{Bool, true, false, cond}
use mathlib.Core.List.{List, [], ◌∷◌}
use mathlib.Core.Logic.{inl, inr}
use Prim.Native.Nat.{ℕ, zero, suc, ◌*◌, ◌^◌, ◌<◌}
use native.Mathlib.Omega.{arith}
use lib.Dec.{leb}
use lib.ListN.{get_or, take}
use Rattle.samples.specs.Sampler.{accepted, ternary, given}
use Rattle.queries.specs.Open.{Asked, unread, error_of}
use Rattle.recovery.specs.Noise.{Ternary}

is_ternary : (interval x : ℕ) → Ternary (ternary interval x)
unfolding ternary
is_ternary interval x = by_tests (leb x interval) (leb x (2 * interval))
  where
    by_tests : (s t : Bool) → Ternary (cond s 0 (cond t 1 4294967295))
    by_tests true t = inl refl
    by_tests false true = inr (inl refl)
    by_tests false false = inr (inr refl)

given-ternary : (interval : ℕ) (xs : List ℕ) (n i : ℕ) → Ternary (get_or (take n (given interval xs)) i 0)
unfolding given
given-ternary interval [] zero i = inl refl
given-ternary interval [] (suc n) i = inl refl
given-ternary interval (x ∷ xs) n i = by_test (accepted interval x) n i (given-ternary interval xs)
  where
    by_test : (t : Bool) (n i : ℕ) → ((n i : ℕ) → Ternary (get_or (take n (given interval xs)) i 0))
        → Ternary (get_or (take n (cond t (ternary interval x ∷ given interval xs) (given interval xs))) i 0)
    by_test true zero i later = inl refl
    by_test true (suc n) zero later = is_ternary interval x
    by_test true (suc n) (suc i) later = later n i
    by_test false n i later = later n i

pub error_ternary : (a : Asked) (i : ℕ) → Ternary (get_or (error_of a) i 0)
error_ternary a i = given-ternary a.interval (unread a.interval a.n a.words) a.r i

pub error_word : (a : Asked) (i : ℕ) → get_or (error_of a) i 0 < 2 ^ 32
error_word a i = word (get_or (error_of a) i 0) (error_ternary a i)
  where
    word : (w : ℕ) → Ternary w → w < 2 ^ 32
    word w (inl e) = omega arith
    word w (inr (inl e)) = omega arith
    word w (inr (inr e)) = omega arith
