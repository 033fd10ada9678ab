-- What the sampler says of its answer places the tail.
use Rattle.std.proofs.Common.{◌≡◌, ℕ, ◌-◌, ◌≤◌, length, drop, Result, Ok, Err, refl, ap, ◌∙◌, take_all, arith, length-drop}
use Rattle.std.specs.Result.{result_unwrap_or}
use Rattle.answers.specs.declared.sampler.SamplingRefusal.{SamplingRefusal}
use Rattle.answers.specs.Sampler.{sampling_read}
use Rattle.samples.specs.Sampler.{sample_read}
use Rattle.samples.proofs.sampler.Answers.{read_inside}
use Rattle.samples.proofs.sampler.sample_and_return_unread.Goals as goal
use Rattle.samples.proofs.sampler.sample_and_return_unread.Goals.{After-unwrap_or-read}

told : (r : Result ℕ SamplingRefusal) → result_unwrap_or r 0 ≡ sampling_read r
told (Ok read) = refl
told (Err reason) = refl

read_is : (c : After-unwrap_or-read) → c.unwrap_or-read.result ≡ sample_read c.args.interval (length c.args.out.now) c.args.words.now
read_is c =
    let p = c.sample_from_uniform_ternary_dist in
    c.unwrap_or-read.ensures ∙ told p.result ∙ p.ensures.read

-- the tail starts inside the words
inside : (c : After-unwrap_or-read) → c.unwrap_or-read.result ≤ length c.args.words.now
inside c = let a = c.args in rw (read_is c) (read_inside a.interval (length a.out.now) a.words.now)

pub offset_bounds-words-read : goal.offset_bounds-words-read
offset_bounds-words-read c = omega (arith, inside c)

pub slice_bounds-result-count : goal.slice_bounds-result-count
slice_bounds-result-count c = omega (arith, inside c)

pub slice_bounds-result-start : goal.slice_bounds-result-start
slice_bounds-result-start c = omega (arith, inside c)

pub returns-clause-result_value : goal.returns-clause-result_value
returns-clause-result_value c =
    let w = c.args.words.now in
    let m = c.unwrap_or-read.result in
    take_all (length w - m) (drop m w) (omega (arith, length-drop m w))
    ∙ ap (λ (n : ℕ). drop n w) (read_is (goal.at.returns-clause-result_value c).After-unwrap_or-read)
