-- On success the words that are read fill the output.
use Rattle.std.proofs.Common.{◌≡◌, ℕ, length, take, sym, ap, ◌∙◌, length-take-le}
use Rattle.laws.proofs.Refusals.{written}
use Rattle.samples.specs.Sampler.{given, shortest}
use Rattle.samples.proofs.sampler.Shortest.{shortest_exact, shortest_within, read_given}
use Rattle.samples.proofs.sampler.Answers.{Allowed, allowed}
use Rattle.samples.proofs.sampler.sample_from_uniform_ternary_dist.Goals as goal
use Rattle.samples.proofs.sampler.sample_from_uniform_ternary_dist.Goals.{In_ok-read}

all_read : (c : In_ok-read) → c.in_ok-read.read ≡ shortest c.args.interval (length c.args.out.now) c.args.words.now
all_read c = let p = c.in_ok-read.ensures in p.read ∙ sym (written _ _ _ (sym p.number))

lent : (c : In_ok-read)
    → let a = c.args in
    given a.interval (take c.in_ok-read.read a.words.now)
    ≡ given a.interval (take (shortest a.interval (length a.out.now) a.words.now) a.words.now)
lent c = ap (λ (n : ℕ). given c.args.interval (take n c.args.words.now)) (all_read c)

ready : (c : In_ok-read) → Allowed c.args.interval (length c.args.out.now) c.args.words.now
ready c = allowed _ _ _ (sym c.in_ok-read.ensures.number)

pub slice_bounds-fill-end : goal.slice_bounds-fill-end
slice_bounds-fill-end c =
    let a = c.args in
    let e = all_read (goal.at.slice_bounds-fill-end c).In_ok-read in
    sym (length-take-le _ a.words.now (rw e (shortest_within a.interval (length a.out.now) a.words.now)))

pub invariant_of-fill : goal.invariant_of-fill
invariant_of-fill c =
    let p = ready (goal.at.invariant_of-fill c).In_ok-read in record { least = p.least; most = p.most }

pub fill-requires : goal.fill-requires
fill-requires c =
    let a = c.args in
    let k = (goal.at.fill-requires c).In_ok-read in
    ap length (lent k) ∙ shortest_exact a.interval (length a.out.now) a.words.now (ready k).enough

pub returns-clause-out_after : goal.returns-clause-out_after
returns-clause-out_after c =
    let a = c.args in
    let k = (goal.at.returns-clause-out_after c).In_ok-read in
    c.fill.ensures
    ∙ lent k
    ∙ sym (read_given a.interval (length a.out.now) a.words.now (ready k).enough)
    ∙ written _ _ _ (sym c.in_ok-read.ensures.number)
