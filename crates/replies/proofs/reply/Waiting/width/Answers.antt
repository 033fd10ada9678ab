-- b is within its limits, as in every table that is not malformed.
use Rattle.laws.proofs.Refusals.{inside}
use Rattle.pending.proofs.table.Formed.{formed}
use Rattle.replies.proofs.reply.Waiting.width.Goals as goal

pub invariant_of-result : goal.invariant_of-result
invariant_of-result c = let w = inside 4 14 _ (formed _ c.args.self.now.formed).width_in in record { least = w.0; most = w.1 }
