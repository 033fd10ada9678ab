-- Document 01, "Packed product": "The packed matrix goes about as one view: its words, rows, columns and b."
use Rattle.std.specs.Prelude.{List, ℕ}
use Rattle.std.specs.Borrow.{Bor}
use Rattle.arith.specs.Product.{Factors, factors}
use Rattle.view.specs.declared.packed.PackedMatrix.{PackedMatrix}

-- the view of lent words; the columns are unpacked ones
abbrev pub viewed : ℕ → ℕ → ℕ → Bor (List ℕ) → PackedMatrix
viewed b rows columns words = record { words = words; rows = rows; columns = columns; b = b }

-- what is lent to the product with a view
abbrev pub factors_with : List ℕ → PackedMatrix → List ℕ → Factors
factors_with vector matrix out = factors matrix.b matrix.rows matrix.columns vector matrix.words.now out
