use Rattle.std.proofs.Common.{rules, tests}
use Rattle.laws.proofs.Ranges.{any_below}
use Rattle.pending.proofs.table.Tests.{unclean}
use Rattle.pending.proofs.table.Table.free_unclean.Goals as goal

pub returns : goal.returns
returns c = any_below (unclean c.args.self.now) 64 c.any.ensures.ran (cc) (λ x b q k. search (rules, tests))
