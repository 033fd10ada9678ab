-- Each turn adds one row more, or 0 where it is the target's.
use Rattle.std.proofs.Common.{◌≡◌, ℕ, ◌%◌, ◌^◌, cond, eqb, List, get_or}
use Rattle.laws.specs.Sums.{sum}
use Rattle.plain.specs.Matrix.{cell}
use Rattle.builder.proofs.database.others_sum.Given as goal

abbrev pub term : ℕ → List ℕ → ℕ → ℕ → List ℕ → ℕ → ℕ
term columns ps index j words s = cond (eqb s index) 0 (cell columns words (get_or ps s 0) j)

abbrev pub invariant-loop-s : goal.invariant-loop-s
invariant-loop-s l = l.sum ≡ sum l.s (term l.columns l.fn.ps l.index l.j l.words) % 2 ^ 32
