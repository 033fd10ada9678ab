use Rattle.std.proofs.Common.{arith}
use Rattle.std.proofs.lemmas.Grind.{common_steps}
use Rattle.pending.proofs.table.Formed.{few_columns}
use Rattle.queries.proofs.open.shape_bad.Goals as goal

pub overflow_mul-n-else-lent-n : goal.overflow_mul-n-else-lent-n
overflow_mul-n-else-lent-n c = let few = few_columns _ c.requires in grind (arith, common_steps)
