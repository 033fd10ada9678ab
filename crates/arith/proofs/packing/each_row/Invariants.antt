use Rattle.std.proofs.Common.{◌≡◌, ℕ, List, length}
use Rattle.laws.specs.Lists.{join, row}
use Rattle.laws.proofs.Filling.{Filled}
use Rattle.arith.proofs.packing.each_row.Given as goal

abbrev pub invariant-loop-j : goal.invariant-loop-j
invariant-loop-j g l =
    (made : List ℕ → List ℕ) → ((xs : List ℕ) → length xs ≡ l.from → length (made xs) ≡ l.to)
    → ((x y r z : _) → length x.now ≡ l.from → length y.now ≡ l.to → goal.F-post g l.work x y r z → z.now ≡ made x.now)
    → Filled (join l.j (λ i. made (row l.from l.words i))) l.initial.out l.out
