-- A search from 0 on: what it has found, and what it has not.
use mathlib.Core.Path.{◌≡◌, refl, sym, ap, ap₂, ◌∙◌}
use mathlib.Core.Bool.{Bool, true, false, true≢false, cond, ◌||◌, or-true}
use Prim.Native.Nat.{ℕ, zero, suc, ◌+◌, ◌<◌, ◌≤◌}
use native.Mathlib.Nat.{not-suc-le-zero, zero-add}
use native.Mathlib.Numerals.{add-one}
use native.Mathlib.Omega.{arith}
use native.Mathlib.Decide.{dec_lt, ℕ_discrete}
use lib.Dec.{ltb}
use Rattle.std.specs.Prelude.{List, length, take, get_or, Some, None}
use Rattle.std.specs.List.{list_any, position_or_len, range_with_len}
use Rattle.std.specs.Option.{unwrap_or}
use Rattle.std.proofs.Math.Seq.{take-length}
use Rattle.std.proofs.lemmas.List.Folds.{list_any_more}
use Rattle.std.proofs.lemmas.List.Sums.{position_or_len_is}
use Rattle.std.proofs.lemmas.List.FromFn.{length-range_with_len, get_or-range_with_len}
use borrow.Author.Tests.{lt-ltb, le-ltb, ltb-true}
use Rattle.laws.specs.Search.{some, lowest}
use Rattle.laws.proofs.Refusals.{neither}

module _ (p : ℕ → Bool) where
  pub some_none : some 0 p ≡ false
  unfolding some
  some_none = refl

  -- one number more
  pub some_next : (n : ℕ) → (some n p || p n) ≡ some (n + 1) p
  unfolding some
  some_next n = rw (add-one n)

  -- one number more of which p does not hold
  pub some_more : (n : ℕ) → some n p ≡ false → p n ≡ false → some (n + 1) p ≡ false
  unfolding some
  some_more n e f = rw (add-one n) (ap₂ ◌||◌ e f)

  -- p holds of none of them
  pub none_holds : (n i : ℕ) → some n p ≡ false → i < n → p i ≡ false
  unfolding some
  none_holds zero i e l = absurd (not-suc-le-zero l)
  none_holds (suc n) i e l =
      let q = neither (some n p) (p n) e in
      elim (dec_lt i n) [ yes m ↦ none_holds n i q.0 m | no g ↦ last q.1 (omega arith) ]
    where
      last : p n ≡ false → n ≡ i → p i ≡ false
      last f h = rw h at f

  -- it holds of one
  pub some_holds : (n i : ℕ) → i < n → p i ≡ true → some n p ≡ true
  unfolding some
  some_holds zero i l e = absurd (not-suc-le-zero l)
  some_holds (suc n) i l e =
      elim (dec_lt i n) [ yes m ↦ before (some_holds n i m e) | no g ↦ last (omega arith) ]
    where
      before : some n p ≡ true → (some n p || p n) ≡ true
      before f = rw f

      last : n ≡ i → (some n p || p n) ≡ true
      last h = let f : p n ≡ true = rw h e in rw f (or-true (some n p))

  -- nothing found below n: p holds of no number below it
  pub some-false : (n : ℕ) → ((i : ℕ) → i < n → p i ≡ false) → some n p ≡ false
  unfolding some
  some-false zero h = refl
  some-false (suc n) h = ap₂ ◌||◌ (some-false n (λ i l. h i (omega arith))) (h n (omega arith))

  -- r is the lowest: p holds of no lower one, and of r unless there is none
  pub lowest_is : (n r : ℕ) → r ≤ n → ((i : ℕ) → i < r → p i ≡ false) → (r < n → p r ≡ true) → lowest n p ≡ r
  unfolding lowest
  lowest_is zero r h below here = omega arith
  lowest_is (suc n) r h below here =
      elim (dec_lt r n) [
        | yes l ↦ before l (lowest_is n r (omega arith) below (λ m. here (omega arith)))
        | no g ↦ elim (dec_lt r (suc n)) [ yes l ↦ at (omega arith) (here l) | no k ↦ none (omega arith) ]
      ]
    where
      before : r < n → lowest n p ≡ r → cond (some n p) (lowest n p) (cond (p n) n (suc n)) ≡ r
      before l e = rw (some_holds n r l (here (omega arith)), e)

      clear : n ≤ r → some n p ≡ false
      clear l = some-false n (λ i m. below i (omega arith))

      at : n ≡ r → p r ≡ true → cond (some n p) (lowest n p) (cond (p n) n (suc n)) ≡ r
      at e t = let f : p n ≡ true = rw e t in rw (clear (omega arith), f) e

      none : suc n ≡ r → cond (some n p) (lowest n p) (cond (p n) n (suc n)) ≡ r
      none e = rw (clear (omega arith), below n (omega arith)) e

  -- what `lowest` is: no greater than n, with p of no lower one, and of it where it is below n
  abbrev Lowest : ℕ → ℕ → Type 0
  Lowest n r = (r ≤ n) × (r < n → p r ≡ true) × ((i : ℕ) → i < r → p i ≡ false)

  lowest_found : (n : ℕ) → Lowest n (lowest n p)
  unfolding lowest some
  lowest_found zero = (omega arith, λ l. absurd (not-suc-le-zero l), λ i l. absurd (not-suc-le-zero l))
  lowest_found (suc n) = by_tests (some n p) (p n) refl refl (lowest_found n)
    where
      by_tests : (s t : Bool) → some n p ≡ s → p n ≡ t → Lowest n (lowest n p) → Lowest (suc n) (cond s (lowest n p) (cond t n (suc n)))
      by_tests true t e f h = (
        omega (arith, h.0),
        λ l. elim (dec_lt (lowest n p) n) [
          | yes m ↦ h.1 m
          | no g ↦ absurd (true≢false (sym e ∙ some-false n (λ i m. h.2 i (omega arith))))
        ],
        h.2,
      )
      by_tests false true e f h = (omega arith, λ l. f, λ i m. none_holds n i e m)
      by_tests false false e f h =
          (omega arith, λ l. absurd (omega arith), λ i m. none_holds (suc n) i (ap₂ ◌||◌ e f) m)

  pub lowest-le : (n : ℕ) → lowest n p ≤ n
  lowest-le n = (lowest_found n).0

  pub lowest_holds : (n : ℕ) → lowest n p < n → p (lowest n p) ≡ true
  lowest_holds n = (lowest_found n).1

  pub lowest_below : (n i : ℕ) → i < lowest n p → p i ≡ false
  lowest_below n = (lowest_found n).2

  -- one is found below n exactly where p holds of some number below it
  pub some-lowest : (n : ℕ) → some n p ≡ ltb (lowest n p) n
  some-lowest n =
      elim (dec_lt (lowest n p) n) [
        | yes l ↦ some_holds n (lowest n p) l (lowest_holds n l) ∙ sym (lt-ltb (lowest n p) n l)
        | no g ↦ none (omega arith)
      ]
    where
      none : n ≤ lowest n p → some n p ≡ ltb (lowest n p) n
      none h = some-false n (λ i l. lowest_below n i (omega arith)) ∙ sym (le-ltb (lowest n p) n h)

pub some_ext : (p q : ℕ → Bool) (n : ℕ) → ((i : ℕ) → i < n → p i ≡ q i) → some n p ≡ some n q
unfolding some
some_ext p q zero h = refl
some_ext p q (suc n) h = ap₂ ◌||◌ (some_ext p q n (λ i l. h i (omega arith))) (h n (omega arith))

-- q is p but at s, where p does not hold: one more number may be found
pub some_changed : (p q : ℕ → Bool) (n s : ℕ) → s < n → ((i : ℕ) → ¬ (i ≡ s) → q i ≡ p i) → p s ≡ false
    → some n q ≡ (some n p || q s)
some_changed p q n s h same off = by_tests (some n p) (q s) refl refl
  where
    by_tests : (b c : Bool) → some n p ≡ b → q s ≡ c → some n q ≡ (b || c)
    by_tests true c e f =
        let l = ltb-true (lowest n p) n (sym (some-lowest p n) ∙ e) in
        let here = lowest_holds p n l in
        some_holds q n (lowest n p) l
        (same (lowest n p) (λ g. true≢false (sym here ∙ ap p g ∙ off)) ∙ here)
    by_tests false true e f = some_holds q n s h f
    by_tests false false e f =
        some-false q n
        (λ i l. elim (ℕ_discrete i s) [ yes g ↦ ap q g ∙ f | no g ↦ same i g ∙ none_holds p n i e l ])

-- a test over a list's elements is one over their places
pub list_any-some : {A : Type 0} (p : A → Bool) (d : A) (xs : List A) → list_any p xs ≡ some (length xs) (λ i. p (get_or xs i d))
unfolding some
list_any-some {A} p d xs = sym (ap (list_any p) (take-length xs)) ∙ started (length xs) (omega arith)
  where
    started : (n : ℕ) → n ≤ length xs → list_any p (take n xs) ≡ some n (λ i. p (get_or xs i d))
    started zero h = refl
    started (suc n) h =
        ap (λ m. list_any p (take m xs)) (sym (add-one n))
        ∙ list_any_more p xs n d (omega arith)
        ∙ ap (λ b. b || p (get_or xs n d)) (started n (omega arith))

-- and one over a range is one over the numbers below its end
pub list_any-below : (p : ℕ → Bool) (n : ℕ) → list_any p (range_with_len 0 n) ≡ some n p
list_any-below p n =
    list_any-some p 0 (range_with_len 0 n)
    ∙ ap (λ m. some m (λ i. p (get_or (range_with_len 0 n) i 0))) (length-range_with_len 0 n)
    ∙ some_ext (λ i. p (get_or (range_with_len 0 n) i 0)) p n (λ i l. ap p (get_or-range_with_len 0 n i 0 l ∙ zero-add i))

-- the first place of which a test holds, or the list's length, as `position` and `unwrap_or` give it
pub position-lowest : (p : ℕ → Bool) (d : ℕ) (xs : List ℕ) (n : ℕ) → length xs ≡ n
    → unwrap_or (cond (ltb (position_or_len p xs) (length xs)) (Some (position_or_len p xs)) None) n
    ≡ lowest n (λ i. p (get_or xs i d))
position-lowest p d xs n e =
    elim (dec_lt (lowest n here) n) [
      | yes l ↦ rw (first, e, lt-ltb (lowest n here) n l) refl
      | no g ↦ let le = lowest-le here n in rw (first, e, le-ltb (lowest n here) n (omega arith)) (omega arith)
    ]
  where
    here : ℕ → Bool
    here i = p (get_or xs i d)

    first : position_or_len p xs ≡ lowest n here
    first =
        position_or_len_is p xs (lowest n here) d (omega (arith, lowest-le here n)) (lowest_below here n)
        (λ l. lowest_holds here n (omega arith))
