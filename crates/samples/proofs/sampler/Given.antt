-- What a start of the words gives, and one word more: the values of the accepted ones.
use Rattle.std.proofs.Common.{◌≡◌, ℕ, ◌+◌, ◌<◌, ◌≤◌, Bool, true, false, cond, List, [], ◌∷◌, ◌++◌, length, get_or, take, drop, map, refl, sym, ap, ◌∙◌, arith, length-append}
use Rattle.std.proofs.lemmas.List.{length-map, map-append}
use lib.ListN.{take-append-drop}
use Rattle.std.specs.List.{filter}
use Rattle.std.proofs.lemmas.List.Elements.{filter-append}
use Rattle.std.proofs.lemmas.List.Filters.{length-filter_more}
use Rattle.samples.specs.Sampler.{accepted, ternary, given}

module _ (interval : ℕ) where
  pub given_is : (words : List ℕ) → given interval words ≡ map (ternary interval) (filter (accepted interval) words)
  unfolding given
  given_is [] = refl
  given_is (x ∷ xs) = by_test (accepted interval x) (given_is xs)
    where
      by_test : (t : Bool) → given interval xs ≡ map (ternary interval) (filter (accepted interval) xs)
          → cond t (ternary interval x ∷ given interval xs) (given interval xs)
          ≡ map (ternary interval) (cond t (x ∷ filter (accepted interval) xs) (filter (accepted interval) xs))
      by_test true e = ap (λ l. ternary interval x ∷ l) e
      by_test false e = e

  pub length-given : (words : List ℕ) → length (given interval words) ≡ length (filter (accepted interval) words)
  length-given words = ap length (given_is words) ∙ length-map (filter (accepted interval) words) (ternary interval)

  -- the whole is what a start gives and then what its rest gives
  pub given_split : (r : ℕ) (words : List ℕ) → given interval words ≡ given interval (take r words) ++ given interval (drop r words)
  given_split r words =
      ap (given interval) (sym (take-append-drop r words))
      ∙ simp (given_is, filter-append, map-append) refl

  pub given-le : (r : ℕ) (words : List ℕ) → length (given interval (take r words)) ≤ length (given interval words)
  given-le r words =
      omega (arith, ap length (given_split r words), length-append (given interval (take r words)) (given interval (drop r words)))

  -- one word more gives one value more where it is accepted, and else none
  pub length-given_more : (r : ℕ) (words : List ℕ) → r < length words
      → length (given interval (take (r + 1) words))
      ≡ length (given interval (take r words)) + cond (accepted interval (get_or words r 0)) 1 0
  length-given_more r words h = simp length-given (length-filter_more (accepted interval) words r 0 h)
