-- What is left to find, and what the words that were seen give, are all that is wanted; no shorter start holds enough.
use Rattle.std.proofs.Common.{◌≡◌, ◌+◌, false, length, take}
use Rattle.laws.specs.Search.{some}
use Rattle.samples.specs.Sampler.{given, holds_enough}
use Rattle.samples.proofs.sampler.count_read.Given as goal

abbrev pub invariant-loop-seen : goal.invariant-loop-seen
invariant-loop-seen l = (l.left + length (given l.fn.interval.value (take l.seen l.words)) ≡ l.wanted)
    × (some l.seen (holds_enough l.fn.interval.value l.wanted l.words) ≡ false)
