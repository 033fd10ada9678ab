-- An accepted word is one less to find. Where none is left, the start that was seen is the shortest that holds enough.
use Rattle.std.proofs.Common.{◌≡◌, ◌+◌, ◌*◌, ◌<◌, ◌≤◌, ℕ, Bool, true, false, cond, leb, List, length, get_or, take, refl, sym, ap, ◌∙◌, arith, lt-ltb}
use Rattle.std.proofs.lemmas.Bool.{lt-leb}
use Rattle.std.proofs.lemmas.List.{take_all}
use mir.Val.{bool_byte}
use Rattle.laws.proofs.Search.{some_none, some_more}
use Rattle.samples.specs.Sampler.{accepted, given, holds_enough, too_few}
use Rattle.samples.proofs.sampler.Given.{length-given_more}
use Rattle.samples.proofs.sampler.Shortest.{enough_given, shortest_is}
use Rattle.samples.proofs.sampler.count_read.Goals as goal
use Rattle.samples.proofs.sampler.count_read.Goals.{After-loop-seen}

counted : (t : Bool) → (bool_byte t ≡ cond t 1 0) × (bool_byte t ≤ 1)
counted true = (refl, omega arith)
counted false = (refl, omega arith)

-- one word more gives as many values more as are found with it
one_more : (interval seen : ℕ) (words : List ℕ) → seen < length words
    → length (given interval (take (seen + 1) words))
    ≡ length (given interval (take seen words)) + bool_byte (leb (get_or words seen 0) (3 * interval))
unfolding accepted
one_more interval seen words h =
    length-given_more interval seen words h
    ∙ ap (λ (n : ℕ). length (given interval (take seen words)) + n) (sym (counted (leb (get_or words seen 0) (3 * interval))).0)

pub loop-seen-init : goal.loop-seen-init
unfolding given
loop-seen-init c = (omega arith, some_none _)

pub returns-then-left-eq0-clause-number : goal.returns-then-left-eq0-clause-number
returns-then-left-eq0-clause-number c =
    let a = c.args in
    let l = c.loop-seen in
    simp (enough_given a.interval.value a.wanted a.words.now l.seen (omega (arith, l.invariant.0, c.if-left-eq0.true)))

pub returns-then-left-eq0-clause-read : goal.returns-then-left-eq0-clause-read
returns-then-left-eq0-clause-read c =
    let a = c.args in
    let l = c.loop-seen in
    sym
    (shortest_is a.interval.value a.wanted a.words.now l.seen l.auto.seen-end l.invariant.1 (omega (arith, l.invariant.0, c.if-left-eq0.true)))

pub loop-seen-preserved : goal.loop-seen-preserved
unfolding holds_enough
loop-seen-preserved c =
    let a = c.args in
    let i = a.interval.value in
    let l = c.loop-seen in
    let w = a.words.now in
    let few = lt-leb a.wanted (length (given i (take l.seen w))) (omega (arith, l.invariant.0, c.if-left-eq0.false)) in (
      omega (
        arith,
        l.invariant.0,
        c.if-left-eq0.false,
        one_more i l.seen w c.loop-seen-test.true,
        (counted (leb (get_or w l.seen 0) (3 * i))).1,
      ),
      some_more (holds_enough i a.wanted w) l.seen l.invariant.1 few,
    )

-- all words were seen
all_given : (c : After-loop-seen)
    → c.loop-seen.left + length (given c.args.interval.value c.args.words.now) ≡ c.args.wanted
all_given c =
    let a = c.args in
    let l = c.loop-seen in
    ap (λ xs. l.left + length (given a.interval.value xs)) (sym (take_all l.seen a.words.now c.loop-seen-test.false))
    ∙ l.invariant.0

pub returns-then-left-eq0-2-clause-number : goal.returns-then-left-eq0-2-clause-number
returns-then-left-eq0-2-clause-number c =
    let a = c.args in
    let l = c.loop-seen in
    simp (enough_given a.interval.value a.wanted a.words.now l.seen (omega (arith, l.invariant.0, c.if-left-eq0-2.true)))

pub returns-then-left-eq0-2-clause-read : goal.returns-then-left-eq0-2-clause-read
returns-then-left-eq0-2-clause-read c =
    let a = c.args in
    let l = c.loop-seen in
    let end : l.seen ≡ length a.words.now = omega (arith, l.auto.seen-end, c.loop-seen-test.false) in
    sym end
    ∙ sym
    (shortest_is a.interval.value a.wanted a.words.now l.seen l.auto.seen-end l.invariant.1 (omega (arith, l.invariant.0, c.if-left-eq0-2.true)))

pub returns-clause-number : goal.returns-clause-number
unfolding too_few
returns-clause-number c =
    let a = c.args in
    simp
    (lt-ltb (length (given a.interval.value a.words.now)) a.wanted
    (omega (arith, all_given (goal.at.returns-clause-number c).After-loop-seen, c.if-left-eq0-2.false)))
