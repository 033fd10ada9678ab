use Rattle.std.proofs.Common.{arith, rules}
use Rattle.std.proofs.Math.ListN.{get_or-eq_default}
use Rattle.std.proofs.lemmas.Grind.{common_steps}
use Rattle.std.proofs.lemmas.Bool.Decides.{nat_tests}
use Rattle.pending.specs.Table.{differs_at}
use Rattle.pending.proofs.table.Table.differs_at.Goals as goal

pub returns-then-self-s-eq0 : goal.returns-then-self-s-eq0
unfolding differs_at
returns-then-self-s-eq0 c = grind (arith, common_steps, nat_tests, get_or-eq_default)

pub returns-else-self-s-eq0 : goal.returns-else-self-s-eq0
unfolding differs_at
returns-else-self-s-eq0 c = search rules
