use Rattle.std.proofs.Common.{rules, tests}
use Rattle.laws.proofs.Ranges.{any_below}
use Rattle.pending.specs.Table.{alike}
use Rattle.pending.proofs.table.Table.alike_before.Goals as goal

pub returns : goal.returns
returns c =
    let a = c.args in
    any_below (λ q. alike a.self.now q a.s.index) a.s.index c.any.ensures.ran (cc) (λ x b q k. search (rules, tests))
