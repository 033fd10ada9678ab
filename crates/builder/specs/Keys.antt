-- Keys in their writing order, with positions of any number: four for each today.
use Rattle.std.specs.Prelude.{ℕ, List, slice_index}
use Rattle.laws.specs.Lists.{row}
use Rattle.plain.specs.Matrix.{cell}

-- by key: element j of its row, mask j, its positions, and which of them is the target's
pub record Keys : Type 0 where
  pub element : ℕ → ℕ → ℕ
  pub mask : ℕ → ℕ → ℕ
  pub places : ℕ → List ℕ
  pub index : ℕ → ℕ

-- the position whose row key i writes
abbrev pub target : Keys → ℕ → ℕ
target ks i = slice_index (ks.places i) (ks.index i)

-- keys lent flat, key after key: rows and masks of C words, four positions, one index
abbrev pub lent_keys : ℕ → List ℕ → List ℕ → List ℕ → List ℕ → Keys
lent_keys columns rows masks positions targets = record {
  element = λ i j. cell columns rows i j;
  mask = λ i j. cell columns masks i j;
  places = row 4 positions;
  index = λ i. slice_index targets i;
}
