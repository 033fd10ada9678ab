-- The chain gives the accepted words, each with its number.
use Rattle.std.proofs.Common.{◌≡◌, ℕ, ◌+◌, ◌<◌, List, length, get_or, set, take, map, sym, ap, ◌∙◌, arith, rules, tests}
use Rattle.std.specs.List.{filter, enumerate_from}
use Rattle.std.proofs.lemmas.List.{take_all, length-take-le, length-map, map_more, length_push}
use Rattle.std.proofs.lemmas.List.FromFn.{length-enumerate_from, get_or-enumerate_from}
use Rattle.std.proofs.lemmas.Iterator.{YieldsList-from_slice}
use Rattle.std.proofs.lemmas.Iterator.Consumers.{YieldsList-at, YieldsList-from_filter, YieldsList-from_enumerate, YieldsList-turn, YieldsList-end}
use Rattle.laws.proofs.Filling.{Filled, filled_none, filled_whole, one_more}
use Rattle.samples.specs.Sampler.{accepted, ternary, given}
use Rattle.samples.proofs.sampler.Given.{given_is, length-given}
use Rattle.samples.proofs.sampler.fill.Goals as goal
use Rattle.samples.proofs.sampler.fill.Goals.{In-None, In-Some}

numbered : (xs : List ℕ) (n i x : ℕ)
    → (n < length (enumerate_from 0 xs)) × ((i, x) ≡ get_or (enumerate_from 0 xs) n (i, x))
    → (n < length xs) × (i ≡ n) × (x ≡ get_or xs n x)
numbered xs n i x h =
    let l : n < length xs = omega (arith, h.0, length-enumerate_from 0 xs) in
    let e = h.1 ∙ get_or-enumerate_from 0 xs n (i, x) l in
    (l, omega (arith, ap (λ p. p.0) e), ap (λ p. p.1) e)

-- one value more, at the end of those that are written
value_more : (f : ℕ → ℕ) (xs old new : List ℕ) (n i x v : ℕ) → length xs ≡ length old
    → (n < length xs) × (i ≡ n) × (x ≡ get_or xs n x) → v ≡ f x
    → Filled (map f (take n xs)) old new → Filled (map f (take (n + 1) xs)) old (set new i v)
value_more f xs old new n i x v e h g p =
    let size : length (map f (take n xs)) ≡ n = length-map (take n xs) f ∙ length-take-le n xs (omega (arith, h.0)) in
    rw (map_more f xs n x h.0, h.1, ← h.2, g)
    (one_more (map f (take n xs)) (f x) old new n size (omega (arith, e, h.0)) p)

turn : (c : In-Some)
    → let n = length c.loop-put.yielded in
    let xs = filter (accepted c.args.interval.value) c.args.words.now in
    (n < length xs) × (c.in-Some.put ≡ n) × (c.in-Some.x.now ≡ get_or xs n c.in-Some.x.now)
unfolding accepted
turn c =
    numbered _ _ _ _
    (YieldsList-turn
    (YieldsList-at c.into_iter-put-iterator.ensures.into_iter_gives
    (YieldsList-from_enumerate
    (YieldsList-at c.enumerate-put-items.ensures.source
    (YieldsList-from_filter _ (accepted c.args.interval.value) (YieldsList-from_slice c.args.words.now cc) c.filter.ensures.closure
    (λ x b q k. search (rules, tests))))
    (cc)))
    c.loop-put.yielded _ c.loop-put.yielded_by _ _ _ c.in-Some.is c.next.ensures.steps)

-- as many are accepted as the output holds
enough : (interval : ℕ) (words out : List ℕ) → length (given interval words) ≡ length out
    → length (filter (accepted interval) words) ≡ length out
enough interval words out e = sym (length-given interval words) ∙ e

pub loop-put-init : goal.loop-put-init
loop-put-init c = filled_none _

pub bounds-out-put : goal.bounds-out-put
bounds-out-put c =
    let a = c.args in
    let t = turn (goal.at.bounds-out-put c).In-Some in
    omega (arith, t.0, t.1, enough a.interval.value a.words.now a.out.now c.requires, c.loop-put.invariant.long)

pub loop-put-preserved : goal.loop-put-preserved
loop-put-preserved c =
    let a = c.args in
    let e = enough a.interval.value a.words.now a.out.now c.requires in
    let t = turn (goal.at.loop-put-preserved c).In-Some in
    rw (length_push c.loop-put.yielded (c.in-Some.put, c.in-Some.x))
    (value_more (ternary a.interval.value) (filter (accepted a.interval.value) a.words.now) _ _ _ _ _ _ e t c.value_of.ensures c.loop-put.invariant)

-- at the end all of them are written
written : (interval : ℕ) (words old new : List ℕ) (n : ℕ) → length (filter (accepted interval) words) ≡ length old
    → n ≡ length (enumerate_from 0 (filter (accepted interval) words))
    → Filled (map (ternary interval) (take n (filter (accepted interval) words))) old new → new ≡ given interval words
written interval words old new n e h p =
    let xs = filter (accepted interval) words in
    let all : take n xs ≡ xs = take_all n xs (omega (arith, h, length-enumerate_from 0 xs)) in
    let q : Filled (map (ternary interval) xs) old new = rw all at p in
    filled_whole q (omega (arith, e, length-map xs (ternary interval))) ∙ sym (given_is interval words)

pub returns : goal.returns
unfolding accepted
returns c =
    let a = c.args in
    written a.interval.value a.words.now _ _ _ (enough a.interval.value a.words.now a.out.now c.requires)
    (YieldsList-end
    (YieldsList-at c.into_iter-put-iterator.ensures.into_iter_gives
    (YieldsList-from_enumerate
    (YieldsList-at c.enumerate-put-items.ensures.source
    (YieldsList-from_filter _ (accepted a.interval.value) (YieldsList-from_slice a.words.now cc) c.filter.ensures.closure
    (λ x b q k. search (rules, tests))))
    (cc)))
    c.loop-put.yielded _ c.loop-put.yielded_by _ _ c.in-None.is c.next.ensures.steps).1
    c.loop-put.invariant
