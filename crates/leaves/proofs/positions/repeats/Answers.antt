use Rattle.std.proofs.Common.{◌∙◌, eqb, get_or, take, arith, rules, tests}
use Rattle.std.specs.List.{list_any}
use Rattle.laws.proofs.Ranges.{any_below}
use Rattle.laws.proofs.Search.{some_ext}
use Rattle.leaves.proofs.positions.Distinct.{twice, stands_before}
use Rattle.leaves.proofs.positions.repeats.Goals as goal

pub returns : goal.returns
returns c =
    let ps = c.args.ps in
    any_below (λ s. list_any (λ y. eqb y (get_or ps s 0)) (take s ps)) 4 c.any.ensures.ran (cc) (λ x b q k. search (rules, tests))
    ∙ some_ext _ (twice ps) 4 (λ s l. stands_before ps s (omega arith))
