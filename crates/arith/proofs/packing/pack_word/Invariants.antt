-- Each turn fills one slot more.
use Rattle.std.proofs.Common.{◌≡◌, ◌*◌, ◌%◌, ◌^◌, get_or}
use Rattle.laws.specs.Sums.{sum}
use Rattle.arith.proofs.packing.pack_word.Given as goal

abbrev pub invariant-loop-x : goal.invariant-loop-x
invariant-loop-x l = (l.shift ≡ l.x-index * l.slot) × (l.word ≡ sum l.x-index (λ i. (get_or l.part i 0 % 2 ^ l.fn.width.bits) * 2 ^ (i * l.slot)))
