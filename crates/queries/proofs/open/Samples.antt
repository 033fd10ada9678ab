-- What the samplers say where their sizes and the interval are allowed: 3, or what they read.
use mathlib.Core.Path.{◌≡◌, refl, sym, ap, ◌∙◌}
use mathlib.Core.Bool.{Bool, true, false}
use mathlib.Core.List.{List, [], ◌∷◌}
use Prim.Native.Nat.{ℕ, ◌-◌, ◌<◌, ◌≤◌}
use native.Mathlib.Omega.{arith}
use lib.ListN.{length, take, drop, length-drop}
use lib.Seq.{take_all}
use borrow.Author.Tests.{le-ltb}
use Rattle.laws.specs.Refusals.{◌⇒◌, first, outside}
use Rattle.laws.proofs.Refusals.{passed}
use Rattle.laws.proofs.Refusals.{written}
use Rattle.std.specs.Prelude.{Result, Ok, Err, MatchOption}
use Rattle.std.specs.Result.{result_ok}
use Rattle.answers.specs.declared.sampler.SamplingRefusal.{SamplingRefusal}
use Rattle.answers.specs.Sampler.{sampling_number, sampling_read, sampling_refuses}
use Rattle.samples.specs.Sampler.{sample_number, sample_read, shortest, too_few}
use Rattle.samples.proofs.sampler.Shortest.{shortest_within}

-- a number that is not 0 is that of a test that holds
pub refuses : (t : Bool) (k : ℕ) → 0 < first (t ⇒ k ∷ []) → t ≡ true
refuses true k h = refl
refuses false k h = absurd (omega arith)

-- the words from `at` on, lent to their end
pub rest_lent : (at : ℕ) (xs : List ℕ) → take (length xs - at) (drop at xs) ≡ drop at xs
rest_lent at xs = take_all (length xs - at) (drop at xs) (omega (arith, length-drop at xs))

module _ (interval n : ℕ) (words : List ℕ) (small : n ≤ 4096) (allowed : outside 1 1431655765 interval ≡ false) where
  -- 3 is the one refusal left
  only_short : sample_number interval n words ≡ first (too_few interval n words ⇒ 3 ∷ [])
  unfolding sample_number
  only_short = simp (le-ltb 4096 n small, allowed)

  refused_few : 0 < sample_number interval n words → too_few interval n words ≡ true
  refused_few h = refuses (too_few interval n words) 3 (rw only_short at h)

  passed_few : sample_number interval n words ≡ 0 → too_few interval n words ≡ false
  passed_few e = (passed (too_few interval n words) 2 [] (rw only_short at e)).0

  -- an answer without its reason: the count of words that are read; none, where there are too few
  pub counted : (a : Result ℕ SamplingRefusal)
      → sampling_number a ≡ sample_number interval n words
      → sampling_read a ≡ sample_read interval n words
      → MatchOption (result_ok a) (too_few interval n words ≡ true)
      (λ s. (s ≡ shortest interval n words) × (s ≤ length words) × (too_few interval n words ≡ false))
  counted (Ok s) p q =
      let t : s ≡ shortest interval n words = q ∙ sym (written (sample_number interval n words) (shortest interval n words) 0 (sym p)) in
      (t, rw t (shortest_within interval n words), passed_few (sym p))
  counted (Err reason) p q = refused_few (rw p at (sampling_refuses reason))

  pub enough_passes : too_few interval n words ≡ false → sample_number interval n words ≡ 0
  enough_passes e = only_short ∙ ap (λ (t : Bool). first (t ⇒ 3 ∷ [])) e
