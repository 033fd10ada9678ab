use Rattle.std.proofs.Common.{◌∙◌}
use Rattle.arith.proofs.packing.Sizes.{words_up}
use Rattle.arith.proofs.packing.words_of.Goals as goal

pub returns : goal.returns
returns c = rw c.factor.ensures.value at c.div_ceil.ensures ∙ words_up c.args.b c.args.k
