-- Each turn adds one slot's product.
use Rattle.std.proofs.Common.{◌≡◌, ◌*◌, ◌%◌, ◌^◌, get_or}
use Rattle.laws.specs.Sums.{sum}
use Rattle.arith.specs.Packing.{slot}
use Rattle.arith.proofs.product.word_sum.Given as goal

abbrev pub invariant-loop-x : goal.invariant-loop-x
invariant-loop-x l = (l.shift ≡ l.x-index * l.slot) × (l.acc ≡ sum l.x-index (λ i. get_or l.part i 0 * slot l.fn.width.bits l.slot l.word i) % 2 ^ 32)
