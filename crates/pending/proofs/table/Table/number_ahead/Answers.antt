use Rattle.std.proofs.Common.{◌∙◌, not, ◌&&◌, leb, eqb, rules, tests}
use Rattle.std.proofs.lemmas.Iterator.{YieldsList-from_slice}
use Rattle.std.proofs.lemmas.Iterator.Search.{any_from_yields_List}
use Rattle.pending.proofs.table.Tests.{any_number}
use Rattle.pending.proofs.table.Table.number_ahead.Goals as goal

pub returns : goal.returns
returns c =
    let t = c.args.self.now in
    any_from_yields_List (λ n. not (eqb n 0) && leb t.next n) _ _ _ c.any.ensures.ran (YieldsList-from_slice t.numbers cc) (λ x b q k. search (rules, tests))
    ∙ any_number t _ (search rules)
