use Rattle.std.proofs.Common.{◌≡◌, ◌∙◌, ◌+◌, [], ◌∷◌, ◌++◌, ap, sym, take, arith, rules, tests}
use Rattle.std.proofs.lemmas.List.{take_all, take_more, length-take-le}
use Rattle.laws.specs.Lists.{laid}
use Rattle.laws.proofs.Filling.{filled_none, one_more}
use Rattle.leaves.specs.Words.{copied}
use Rattle.leaves.proofs.words.Copied.{copied_whole}
use Rattle.leaves.proofs.words.copy.Goals as goal

pub loop-i-init : goal.loop-i-init
loop-i-init g c = filled_none _

pub loop-i-preserved : goal.loop-i-preserved
loop-i-preserved g c =
    let l = c.loop-i in
    let xs = c.args.from.now in
    let x = c.index-from-i.result in
    let more : take (l.i + 1) xs ≡ take l.i xs ++ (x ∷ []) =
    take_more xs l.i x c.loop-i-test.true ∙ ap (λ y. take l.i xs ++ (y ∷ [])) (sym c.index-from-i.is) in
    rw more
    (one_more (take l.i xs) x c.args.out.now l.out l.i (length-take-le l.i xs (omega arith)) (omega arith) l.invariant)

pub returns-after-loop-i : goal.returns-after-loop-i
returns-after-loop-i g c =
    let l = c.loop-i in
    let xs = c.args.from.now in
    l.invariant.laid_is
    ∙ ap (λ ys. laid ys c.args.out.now) (take_all l.i xs c.loop-i-test.false)
    ∙ sym (copied_whole xs c.args.out.now c.if-from-out.true)

pub returns-else-from-out : goal.returns-else-from-out
unfolding copied
returns-else-from-out g c = search (rules, tests)
