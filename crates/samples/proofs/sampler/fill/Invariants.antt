-- The values of the accepted words so far stand at the start of the output.
use Rattle.std.proofs.Common.{length, take, map}
use Rattle.std.specs.List.{filter}
use Rattle.laws.proofs.Filling.{Filled}
use Rattle.samples.specs.Sampler.{accepted, ternary}
use Rattle.samples.proofs.sampler.fill.Given as goal

abbrev pub invariant-loop-put : goal.invariant-loop-put
invariant-loop-put l =
    Filled (map (ternary l.interval.value) (take (length l.yielded) (filter (accepted l.interval.value) l.words))) l.initial.out l.out
