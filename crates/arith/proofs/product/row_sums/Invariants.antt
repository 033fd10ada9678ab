-- Each turn stores the sum of one row more.
use Rattle.laws.specs.Lists.{build, row}
use Rattle.laws.proofs.Filling.{Filled}
use Rattle.arith.specs.Product.{entry_of}
use Rattle.arith.proofs.product.row_sums.Given as goal

abbrev pub invariant-loop-j : goal.invariant-loop-j
invariant-loop-j l = Filled (build l.j (λ i. entry_of l.width.bits l.vector (row l.n l.words i))) l.initial.out l.out
