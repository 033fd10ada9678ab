use Rattle.std.proofs.Common.{◌∙◌, ltb, rules, tests}
use Rattle.std.proofs.lemmas.Iterator.{YieldsList-from_slice}
use Rattle.std.proofs.lemmas.Iterator.Search.{any_from_yields_List}
use Rattle.laws.proofs.Search.{list_any-some}
use Rattle.leaves.specs.Limits.{any_above}
use Rattle.leaves.proofs.limits.any_above.Goals as goal

pub returns : goal.returns
unfolding any_above
returns c =
    let above = ltb c.args.greatest in
    any_from_yields_List above _ _ _ c.any.ensures.ran
    (YieldsList-from_slice c.args.elements.now cc) (λ x b q k. search (rules, tests))
    ∙ list_any-some above 0 c.args.elements.now
