-- Each turn sums one column more.
use Rattle.std.proofs.Common.{ℕ, ◌%◌, ◌^◌, List}
use Rattle.laws.specs.Lists.{build}
use Rattle.laws.proofs.Filling.{Filled}
use Rattle.builder.specs.Database.{others_sum}
use Rattle.builder.proofs.database.rest.Given as goal

abbrev pub column : ℕ → List ℕ → ℕ → List ℕ → ℕ → ℕ
column columns ps index words j = others_sum columns words ps index j % 2 ^ 32

abbrev pub invariant-loop-j : goal.invariant-loop-j
invariant-loop-j l = Filled (build l.j (column l.columns l.ps l.index l.words)) l.initial.sums l.sums
