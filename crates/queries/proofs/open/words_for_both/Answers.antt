-- What the sampler says of each sample, the second of what the first leaves.
use Rattle.std.proofs.Common.{◌≡◌, ℕ, ◌-◌, ◌≤◌, true, false, length, take, drop, refl, ap, ap₂, ◌+◌, ◌∙◌, length-drop, arith}
use mathlib.Core.Bool.{or-true}
use Rattle.std.specs.Option.{MatchOption}
use Rattle.laws.proofs.Refusals.{within}
use Rattle.samples.specs.Sampler.{shortest, too_few}
use Rattle.queries.specs.Open.{unread, both_read, either_short}
use Rattle.queries.proofs.open.Samples.{counted, rest_lent}
use Rattle.queries.proofs.open.words_for_both.Goals as goal
use Rattle.queries.proofs.open.words_for_both.Goals.{After-ok, After-ok-2, In_ok-first}

-- the secret's
first : (c : After-ok)
    → let a = c.args in
    MatchOption c.ok.result (too_few a.interval.value a.n a.words.now ≡ true)
    (λ k. (k ≡ shortest a.interval.value a.n a.words.now) × (k ≤ length a.words.now) × (too_few a.interval.value a.n a.words.now ≡ false))
first c =
    let a = c.args in
    let p = c.words_to_read.ensures in
    rw c.ok.ensures.value
    (counted a.interval.value a.n a.words.now c.requires.0 (within 1 1431655765 _ a.interval.least a.interval.most) c.words_to_read.result p.number p.read)

module _ (c : In_ok-first) where
  read : let a = c.args in
      let k = c.in_ok-first.first in
      (k ≡ shortest a.interval.value a.n a.words.now) × (k ≤ length a.words.now) × (too_few a.interval.value a.n a.words.now ≡ false)
  read = rw c.in_ok-first.was at (first (goal.at.In_ok-first c).After-ok)

  left : let a = c.args in
      let k = c.in_ok-first.first in
      take (length a.words.now - k) (drop k a.words.now) ≡ unread a.interval.value a.n a.words.now
  left = rest_lent c.in_ok-first.first c.args.words.now ∙ ap (λ (k : ℕ). drop k c.args.words.now) read.0

-- the error's
second : (c : After-ok-2)
    → let a = c.args in
    let rest = unread a.interval.value a.n a.words.now in
    MatchOption c.ok-2.result (too_few a.interval.value a.r rest ≡ true)
    (λ k. (k ≡ shortest a.interval.value a.r rest) × (k ≤ length rest) × (too_few a.interval.value a.r rest ≡ false))
second c =
    let a = c.args in
    let p = rw (left (goal.at.After-ok-2 c).In_ok-first) at c.words_to_read-2.ensures in
    rw c.ok-2.ensures.value
    (counted a.interval.value a.r _ c.requires.1 (within 1 1431655765 _ a.interval.least a.interval.most) c.words_to_read-2.result p.number p.read)

pub returns-in_err-first : goal.returns-in_err-first
unfolding either_short
returns-in_err-first c =
    let few = rw c.in_err-first.was at (first (goal.at.returns-in_err-first c).After-ok) in
    rw (c.from_residual.ensures, few) refl

pub offset_bounds-words-first : goal.offset_bounds-words-first
offset_bounds-words-first c = let k = read c in omega (arith, k.1)

pub slice_bounds-words_to_read-count : goal.slice_bounds-words_to_read-count
slice_bounds-words_to_read-count c = (read (goal.at.slice_bounds-words_to_read-count c).In_ok-first).1

pub slice_bounds-words_to_read-start : goal.slice_bounds-words_to_read-start
slice_bounds-words_to_read-start c = (read (goal.at.slice_bounds-words_to_read-start c).In_ok-first).1

pub returns-in_err-second : goal.returns-in_err-second
unfolding either_short
returns-in_err-second c =
    let a = c.args in
    let few = rw c.in_err-second.was at (second (goal.at.returns-in_err-second c).After-ok-2) in
    rw (c.from_residual-in_err-second.ensures, few) (or-true (too_few a.interval.value a.n a.words.now))

pub overflow_add-result : goal.overflow_add-result
overflow_add-result c =
    let a = c.args in
    let k = read (goal.at.overflow_add-result c).In_ok-first in
    let m = rw c.in_ok-second.was at (second (goal.at.overflow_add-result c).After-ok-2) in
    omega (arith, k.0, k.1, m.1, length-drop (shortest a.interval.value a.n a.words.now) a.words.now)

pub returns : goal.returns
unfolding both_read either_short
returns c =
    let k = read (goal.at.returns c).In_ok-first in
    let m = rw c.in_ok-second.was at (second (goal.at.returns c).After-ok-2) in
    (ap₂ ◌+◌ k.0 m.0, rw (k.2, m.2) refl)
