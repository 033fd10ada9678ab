use Rattle.std.proofs.Common.{rules, tests}
use Rattle.laws.proofs.Ranges.{any_below}
use Rattle.pending.proofs.table.Tests.{repeated}
use Rattle.pending.proofs.table.Table.any_alike.Goals as goal

pub returns : goal.returns
returns c = any_below (repeated c.args.self.now) 64 c.any.ensures.ran (cc) (λ x b q k. search (rules, tests))
