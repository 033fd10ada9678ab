-- Each turn writes one word more.
use Rattle.std.proofs.Common.{ℕ, List, get_or}
use Rattle.laws.specs.Lists.{build}
use Rattle.laws.proofs.Filling.{Filled}
use Rattle.builder.specs.Database.{less}
use Rattle.builder.proofs.database.subtract_row.Given as goal

abbrev pub word : ℕ → List ℕ → List ℕ → List ℕ → ℕ → ℕ
word b row sums masks j = less b (less b (get_or row j 0) (get_or sums j 0)) (get_or masks j 0)

abbrev pub invariant-loop-j : goal.invariant-loop-j
invariant-loop-j l = Filled (build l.j (word l.width.bits l.row l.sums l.masks)) l.initial.target l.target
