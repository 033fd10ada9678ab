-- The sums are made as far as the loop has come; the word that it reads was not written yet.
use Rattle.std.proofs.Common.{ℕ, ◌+◌, ◌*◌, ◌%◌, ◌^◌, List, get_or}
use Rattle.laws.specs.Lists.{build}
use Rattle.laws.proofs.Filling.{Filled}
use Rattle.queries.proofs.open.add_row.Given as goal

abbrev pub word : ℕ → List ℕ → List ℕ → ℕ → ℕ
word x row sums j = (get_or sums j 0 + x * get_or row j 0) % 2 ^ 32

abbrev pub invariant-loop-j : goal.invariant-loop-j
invariant-loop-j l = Filled (build l.j (word l.x l.row l.initial.sums)) l.initial.sums l.sums
