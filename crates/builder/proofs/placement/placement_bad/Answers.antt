use Rattle.std.proofs.Common.{◌≡◌, ℕ, ◌<◌, false, ◌||◌, get_or, sym, ◌∙◌, arith, rules}
use Rattle.laws.proofs.Search.{some_none, some_more, some_holds}
use Rattle.leaves.specs.Positions.{among}
use Rattle.leaves.proofs.positions.Distinct.{below}
use Rattle.builder.specs.Lent.{keys_in}
use Rattle.builder.specs.Placement.{key_bad, placement_bad}
use Rattle.builder.proofs.placement.Marks.{seen_none, seen_more, judged}
use Rattle.builder.proofs.placement.Rule.{fine}
use Rattle.builder.proofs.placement.placement_bad.Goals as goal
use Rattle.builder.proofs.placement.placement_bad.Goals.{After-key_bad}

-- what the key's test says
verdict : (c : After-key_bad) → c.key_bad.result ≡ key_bad c.args.keys.r (keys_in c.args.keys) c.loop-i.i
verdict c =
    let ks = c.args.keys in
    let l = c.loop-i in
    c.key_bad.ensures ∙ judged ks.r (keys_in ks) l.i l.marks _ c.places-ps.ensures l.invariant.1

pub loop-i-init : goal.loop-i-init
loop-i-init c = (search rules, seen_none _ 4096, some_none _)

pub returns-then-key_bad : goal.returns-then-key_bad
unfolding placement_bad
returns-then-key_bad c =
    let ks = c.args.keys in
    let inside : c.loop-i.i < ks.count = omega (arith, c.loop-i-test.true, ks.targets_whole) in
    sym (some_holds (key_bad ks.r (keys_in ks)) ks.count c.loop-i.i
    inside (sym (verdict (goal.at.returns-then-key_bad c).After-key_bad) ∙ c.if-key_bad.true))

pub mark-requires : goal.mark-requires
mark-requires c s h =
    let kb = (goal.at.mark-requires c).After-key_bad in
    let ks = c.args.keys in
    let good = (fine ks.r (keys_in ks) c.loop-i.i (sym (verdict kb) ∙ c.if-key_bad.false)).placed in
    omega (arith, below ks.r c.places-ps.result (rw c.places-ps.ensures good) s (omega arith), c.loop-i.invariant.0, ks.r_most)

pub loop-i-preserved : goal.loop-i-preserved
loop-i-preserved c =
    let kb = (goal.at.loop-i-preserved c).After-key_bad in
    let l = c.loop-i in
    let ks = c.args.keys in
    let e : (q : ℕ) → get_or c.mark.new.marks q false ≡ (get_or l.marks q false || among ((keys_in ks).places l.i) q) =
    λ q. rw (← c.places-ps.ensures) (c.mark.ensures q) in (
      search rules,
      seen_more (keys_in ks) l.i l.marks _ l.invariant.1 e,
      some_more (key_bad ks.r (keys_in ks)) l.i l.invariant.2 (sym (verdict kb) ∙ c.if-key_bad.false),
    )

pub returns : goal.returns
unfolding placement_bad
returns c =
    let ks = c.args.keys in
    let e : c.loop-i.i ≡ ks.count = omega (arith, ks.targets_whole) in
    sym (rw e at c.loop-i.invariant.2)
