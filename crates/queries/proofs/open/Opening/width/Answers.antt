-- b is within its limits, as in every table that is not malformed.
use Rattle.queries.proofs.open.Sizes.{limited}
use Rattle.queries.proofs.open.Opening.width.Goals as goal

pub invariant_of-result : goal.invariant_of-result
invariant_of-result c = let t = limited _ c.args.self.now.formed in record { least = t.b_least; most = t.b_most }
