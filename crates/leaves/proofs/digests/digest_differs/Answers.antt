use Rattle.std.proofs.Common.{◌∙◌, ap, ap₂, sym, not, ◌||◌, nat_eq, length, length-append, refl, rules}
use Rattle.std.proofs.lemmas.Slice.Zip.{zip_turn, zip_end}
use Rattle.laws.specs.Search.{some}
use Rattle.laws.proofs.Search.{some_next}
use Rattle.leaves.specs.Digests.{differs, unequal}
use Rattle.leaves.proofs.digests.digest_differs.Goals as goal

pub loop-p-init : goal.loop-p-init
unfolding some
loop-p-init c = refl

pub loop-p-preserved : goal.loop-p-preserved
loop-p-preserved c =
    let turn = zip_turn c.args.x c.args.y c.loop-p.yielded c.into_iter-p-iterator.result c.loop-p.p-iterator c.next.new.self _ (search rules) (search rules) c.loop-p.yielded_by _ c.in-Some.is c.next.ensures.steps in
    ap₂ ◌||◌ c.loop-p.invariant (ap₂ (λ p q. not (nat_eq p q)) (turn.2 0) (turn.3 0))
    ∙ some_next (unequal c.args.x c.args.y) (length c.loop-p.yielded)
    ∙ ap (λ n. some n (unequal c.args.x c.args.y)) (sym (length-append c.loop-p.yielded _))

pub returns : goal.returns
unfolding differs
returns c =
    c.loop-p.invariant
    ∙ ap (λ n. some n (unequal c.args.x c.args.y))
    (zip_end c.args.x c.args.y c.loop-p.yielded c.into_iter-p-iterator.result c.loop-p.p-iterator c.next.new.self _ (search rules) (search rules) c.loop-p.yielded_by c.in-None.is c.next.ensures.steps ∙ search rules)
