-- None of the first i keys is bad, and a mark is set exactly at their positions.
use Rattle.std.proofs.Common.{◌≡◌, false, length}
use Rattle.laws.specs.Search.{some}
use Rattle.builder.specs.Lent.{keys_in}
use Rattle.builder.specs.Placement.{key_bad}
use Rattle.builder.proofs.placement.Marks.{Seen}
use Rattle.builder.proofs.placement.placement_bad.Given as goal

abbrev pub invariant-loop-i : goal.invariant-loop-i
invariant-loop-i l = (length l.marks ≡ 4096)
    × Seen (keys_in l.keys) l.i l.marks
    × (some l.i (key_bad l.keys.r (keys_in l.keys)) ≡ false)
