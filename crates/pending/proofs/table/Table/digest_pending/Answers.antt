use Rattle.std.proofs.Common.{rules, tests}
use Rattle.laws.proofs.Ranges.{any_below}
use Rattle.pending.specs.Table.{digest_pending}
use Rattle.pending.proofs.table.Tests.{holding}
use Rattle.pending.proofs.table.Table.digest_pending.Goals as goal

pub returns : goal.returns
unfolding digest_pending
returns c =
    let a = c.args in
    any_below (holding a.self.now a.digest) 64 c.any.ensures.ran (cc) (λ x b q k. search (rules, tests))
