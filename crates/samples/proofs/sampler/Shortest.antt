-- The law "shortest": the words that the sampler reads are the shortest start of the words that holds enough.
use mathlib.Core.Path.{◌≡◌, ap, ◌∙◌}
use mathlib.Core.Bool.{Bool, true, false, cond}
use mathlib.Core.List.{List, []}
use Prim.Native.Nat.{ℕ, zero, suc, ◌<◌, ◌≤◌}
use native.Mathlib.Nat.{not-suc-le-zero}
use native.Mathlib.Numerals.{add-one}
use native.Mathlib.Omega.{arith}
use native.Mathlib.Decide.{dec_lt}
use lib.ListN.{length, get_or, take, drop}
use lib.Seq.{take_all, take_at}
use borrow.Author.Tests.{leb-true, leb-false, ltb-false, le-leb, le-ltb}
use Rattle.laws.specs.Search.{some}
use Rattle.laws.proofs.Search.{none_holds, lowest_is, lowest-le, lowest_holds, lowest_below}
use Rattle.samples.specs.Sampler.{accepted, given, holds_enough, shortest, too_few}
use Rattle.samples.proofs.sampler.Given.{given_split, given-le, length-given_more}

cond_most : (t : Bool) → cond t 1 0 ≤ 1
cond_most true = omega arith
cond_most false = omega arith

module _ (interval n : ℕ) (words : List ℕ) where
  -- one word gives no more than one, so the shortest start holds no more than enough
  exact : (m : ℕ) → m ≤ length words → ((j : ℕ) → j < m → length (given interval (take j words)) < n)
      → n ≤ length (given interval (take m words)) → length (given interval (take m words)) ≡ n
  unfolding given
  exact zero h fewer l = omega arith
  exact (suc j) h fewer l =
      let one = rw (add-one j) at (length-given_more interval j words h) in
      omega (arith, one, fewer j (omega arith), cond_most (accepted interval (get_or words j 0)))

  pub shortest_within : shortest interval n words ≤ length words
  unfolding shortest
  shortest_within = lowest-le (holds_enough interval n words) (length words)

  -- every shorter start holds fewer
  shorter_fewer : (j : ℕ) → j < shortest interval n words → length (given interval (take j words)) < n
  unfolding shortest holds_enough
  shorter_fewer j h =
      leb-false n (length (given interval (take j words))) (lowest_below (holds_enough interval n words) (length words) j h)

  -- a start that holds enough is the shortest, where no shorter one does
  pub shortest_is : (r : ℕ) → r ≤ length words → some r (holds_enough interval n words) ≡ false
      → n ≤ length (given interval (take r words)) → shortest interval n words ≡ r
  unfolding shortest holds_enough
  shortest_is r h e l =
      lowest_is (holds_enough interval n words) (length words) r h (λ i m. none_holds (holds_enough interval n words) r i e m)
      (λ m. le-leb n (length (given interval (take r words))) l)

  -- where a start holds enough, the words are not too few
  pub enough_given : (r : ℕ) → n ≤ length (given interval (take r words)) → too_few interval n words ≡ false
  unfolding too_few
  enough_given r l = le-ltb (length (given interval words)) n (omega (arith, given-le interval r words))

  module _ (enough : too_few interval n words ≡ false) where
    -- it holds enough
    shortest_holds : n ≤ length (given interval (take (shortest interval n words) words))
    unfolding shortest holds_enough too_few
    shortest_holds =
        elim (dec_lt (shortest interval n words) (length words)) [
          | yes l ↦ leb-true n _ (lowest_holds (holds_enough interval n words) (length words) l)
          | no g ↦ all (omega arith)
        ]
      where
        all : length words ≤ shortest interval n words → n ≤ length (given interval (take (shortest interval n words) words))
        all l = rw (take_all (shortest interval n words) words l) (ltb-false (length (given interval words)) n enough)

    -- and no more than enough
    pub shortest_exact : length (given interval (take (shortest interval n words) words)) ≡ n
    shortest_exact = exact (shortest interval n words) shortest_within shorter_fewer shortest_holds

    -- the law in one statement: it lies within the words, it holds enough, and every shorter start holds fewer
    pub shortest_start : let m = shortest interval n words in
        (m ≤ length words)
        × (n ≤ length (given interval (take m words)))
        × ((j : ℕ) → j < m → length (given interval (take j words)) < n)
    shortest_start = (shortest_within, shortest_holds, shorter_fewer)

    -- what the output takes of all that the words give is what the words that are read give
    pub read_given : take n (given interval words) ≡ given interval (take (shortest interval n words) words)
    read_given =
        ap (take n) (given_split interval (shortest interval n words) words)
        ∙ take_at _ (given interval (drop (shortest interval n words) words)) n shortest_exact

-- a wanted length of 0 reads none
pub none_wanted : (interval : ℕ) (words : List ℕ) → shortest interval 0 words ≡ 0
unfolding shortest holds_enough
none_wanted interval words =
    lowest_is (holds_enough interval 0 words) (length words) 0 (omega arith) (λ i l. absurd (not-suc-le-zero l))
    (λ l. le-leb 0 (length (given interval [])) (omega arith))
