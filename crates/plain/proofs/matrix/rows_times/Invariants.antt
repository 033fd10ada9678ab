-- Each turn makes one row more.
use Rattle.std.proofs.Common.{ℕ, ◌*◌, ◌%◌, ◌^◌, List}
use Rattle.laws.specs.Lists.{build, join}
use Rattle.laws.specs.Sums.{sum}
use Rattle.laws.proofs.Filling.{Filled}
use Rattle.plain.specs.Matrix.{cell}
use Rattle.plain.proofs.matrix.rows_times.Given as goal

-- row i of the product
abbrev pub made : ℕ → ℕ → List ℕ → List ℕ → ℕ → List ℕ
made m c x y i = build c (λ j. sum m (λ t. cell m x i t * cell c y t j) % 2 ^ 32)

abbrev pub invariant-loop-i : goal.invariant-loop-i
invariant-loop-i l =
    Filled (join l.i (made l.left.columns l.right.columns l.left.words.now l.right.words.now)) l.initial.out l.out
