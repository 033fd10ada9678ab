-- What an open that succeeds has written: R words, each a word, which are sA + e with Δ at the positions.
use mathlib.Core.Path.{◌≡◌, refl, sym, ap, ◌∙◌}
use mathlib.Core.Bool.{Bool, true, false, cond}
use Prim.Native.Nat.{ℕ, ◌+◌, ◌^◌, ◌<◌}
use native.Mathlib.Nat.{mod-lt}
use native.Mathlib.Omega.{arith}
use lib.Dec.{eqb, lit<}
use lib.ListN.{length, get_or, take}
use borrow.Author.Tests.{eqb-true, ltb-true}
use Rattle.laws.specs.Search.{lowest}
use Rattle.laws.proofs.Refusals.{written}
use Rattle.laws.proofs.Lists.{length-build, get_or-build}
use Rattle.laws.proofs.Filling.{take-laid}
use Rattle.laws.proofs.Below.{each_below}
use Rattle.laws.proofs.Search.{lowest_holds, some-lowest}
use Rattle.leaves.specs.Positions.{among}
use Rattle.queries.specs.Open.{Asked, noisy, noisy_of, marked, open_number, open_left}
use Rattle.leaves.specs.Rounding.{delta}
use Rattle.queries.proofs.open.Answers.{Succeeded, succeeded}
use Rattle.queries.proofs.open.Marks.{no_wrap}

module _ (a : Asked) (opened : open_number a ≡ 0) where
  shown : Succeeded a
  shown = succeeded a opened

  length-noisy : length (noisy_of a) ≡ a.r
  unfolding noisy
  length-noisy = length-build a.r _

  pub length_marked : length (marked a.table.b a.positions (noisy_of a)) ≡ a.r
  unfolding marked
  length_marked = length-build (length (noisy_of a)) _ ∙ length-noisy

  pub query_is : take a.r (open_left a).query ≡ marked a.table.b a.positions (noisy_of a)
  query_is =
      ap (take a.r) (sym (written (open_number a) _ a.query opened))
      ∙ take-laid (marked a.table.b a.positions (noisy_of a)) a.query a.r length_marked

  noisy_word : (i : ℕ) → i < a.r → get_or (noisy_of a) i 0 < 2 ^ 32
  unfolding noisy
  noisy_word i l = rw (get_or-build {A = ℕ} a.r _ i 0 l) (mod-lt _ {m = 2 ^ 32} (lit< tt))

  -- at a position that is marked no entry wraps
  entry_word : (i : ℕ) → i < a.r → get_or (marked a.table.b a.positions (noisy_of a)) i 0 < 2 ^ 32
  unfolding marked among
  entry_word i l =
      let k : i < length (noisy_of a) = rw length-noisy l in
      rw (get_or-build {A = ℕ} (length (noisy_of a)) _ i 0 k) (by (among a.positions i) refl)
    where
      by : (t : Bool) → among a.positions i ≡ t → get_or (noisy_of a) i 0 + cond t (delta a.table.b) 0 < 2 ^ 32
      by true e =
          let p : ℕ → Bool = λ s. eqb (get_or a.positions s 0) i in
          let s = lowest (length a.positions) p in
          let l = ltb-true s (length a.positions) (sym (some-lowest p (length a.positions)) ∙ e) in
          let at = eqb-true (get_or a.positions s 0) i (lowest_holds p (length a.positions) l) in
          rw at at (no_wrap a.table.b a.positions (noisy_of a) shown.unwrapped s l)
      by false e = omega (arith, noisy_word i l)

  pub query_word : (i : ℕ) → get_or (marked a.table.b a.positions (noisy_of a)) i 0 < 2 ^ 32
  query_word = each_below (2 ^ 32) (marked a.table.b a.positions (noisy_of a)) (lit< tt) (λ i l. entry_word i (omega (arith, length_marked)))
