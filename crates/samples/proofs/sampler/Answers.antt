-- The entries' first step: what a refusal and what success say.
use Rattle.std.proofs.Common.{◌≡◌, ℕ, zero, suc, ◌≤◌, false, ltb, List, [], ◌∷◌, length, Result, Ok, sym, ap, ◌∙◌, arith}
use Rattle.laws.specs.Refusals.{◌⇒◌, outside, after}
use Rattle.laws.proofs.Refusals.{passed, inside, written}
use Rattle.answers.specs.declared.sampler.SamplingRefusal.{SamplingRefusal}
use Rattle.answers.specs.Sampler.{sampling_number, sampling_read}
use Rattle.samples.specs.Sampler.{sample_number, sample_read, shortest, too_few}
use Rattle.samples.proofs.sampler.Shortest.{shortest_within}

module _ (interval n : ℕ) (words : List ℕ) where
  -- whatever the answer, no more is read than there is
  pub read_inside : sample_read interval n words ≤ length words
  read_inside = most (sample_number interval n words) (shortest_within interval n words)
    where
      most : (number : ℕ) → shortest interval n words ≤ length words → after number (shortest interval n words) 0 ≤ length words
      most zero h = h
      most (suc k) h = omega arith

  -- an answer that reads m words is success, and m is the shortest start's length
  module _ (r : Result ℕ SamplingRefusal) (m : ℕ) (told : r ≡ Ok m) (number : sampling_number r ≡ sample_number interval n words) where
    pub success : sample_number interval n words ≡ 0
    success = sym number ∙ ap sampling_number told

    pub reads : sampling_read r ≡ sample_read interval n words → m ≡ shortest interval n words
    reads read =
        ap sampling_read (sym told)
        ∙ read
        ∙ sym (written (sample_number interval n words) (shortest interval n words) 0 success)

-- 0: the interval is within its limits, and there are words enough
pub record Allowed (interval n : ℕ) (words : List ℕ) : Type 0 where
  pub least : 1 ≤ interval
  pub most : interval ≤ 1431655765
  pub enough : too_few interval n words ≡ false

pub allowed : (interval n : ℕ) (words : List ℕ) → sample_number interval n words ≡ 0 → Allowed interval n words
unfolding sample_number
allowed interval n words e =
    let p = passed (ltb 4096 n) 1 (outside 1 1431655765 interval ⇒ 4 ∷ too_few interval n words ⇒ 3 ∷ []) e in
    let q = passed (outside 1 1431655765 interval) 3 (too_few interval n words ⇒ 3 ∷ []) p.1 in
    let i = inside 1 1431655765 interval q.0 in
    record { least = i.0; most = i.1; enough = (passed (too_few interval n words) 2 [] q.1).0 }
