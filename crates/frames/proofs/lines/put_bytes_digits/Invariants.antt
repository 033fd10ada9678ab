-- Each turn writes one byte more.
use Rattle.std.proofs.Common.{get_or}
use Rattle.laws.specs.Lists.{join}
use Rattle.laws.proofs.Filling.{Filled}
use Rattle.frames.proofs.lines.Hex.{digits}
use Rattle.frames.proofs.lines.put_bytes_digits.Given as goal

abbrev pub invariant-loop-i : goal.invariant-loop-i
invariant-loop-i l = Filled (join l.i (λ k. digits (get_or l.bytes k 0))) l.initial.part l.part
