use Rattle.leaves.proofs.limits.width_bad.Goals as goal

pub returns : goal.returns
returns c = c.out_of.ensures
