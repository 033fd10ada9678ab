-- What a shape that was not refused says.
use Rattle.std.proofs.Common.{◌≡◌, ℕ, ◌*◌, ◌≤◌, Bool, false, not, ◌||◌, eqb, ltb, length, ltb-false, eqb-true}
use borrow.Author.Tests.{not-false}
use Rattle.laws.specs.Refusals.{outside}
use Rattle.laws.proofs.Refusals.{neither, inside}
use Rattle.builder.specs.Database.{Proposed, keys_bad}

pub record Sized (p : Proposed) : Type 0 where
  pub r_most : p.r ≤ 4096
  pub columns_most : p.columns ≤ 512
  pub rows_whole : length p.rows ≡ p.count * p.columns
  pub masks_whole : length p.masks ≡ p.count * p.columns
  pub positions_whole : length p.positions ≡ p.count * 4
  pub targets_whole : length p.targets ≡ p.count
  pub roomy : p.r * p.columns ≤ length p.held

same : (x y : ℕ) → not (eqb x y) ≡ false → x ≡ y
same x y e = eqb-true x y (not-false (eqb x y) e)

module _ (p : Proposed) where
  abbrev rows_bad : Bool
  rows_bad = not (eqb (length p.rows) (p.count * p.columns))

  abbrev masks_bad : Bool
  masks_bad = not (eqb (length p.masks) (p.count * p.columns))

  abbrev positions_bad : Bool
  positions_bad = not (eqb (length p.positions) (p.count * 4))

  abbrev targets_bad : Bool
  targets_bad = not (eqb (length p.targets) p.count)

  pub sized : keys_bad p ≡ false → Sized p
  unfolding keys_bad
  sized e =
      let t1 : Bool = outside 1 4096 p.r in
      let t2 : Bool = t1 || outside 1 512 p.columns in
      let t3 : Bool = t2 || ltb p.r p.count in
      let t4 : Bool = t3 || rows_bad in
      let t5 : Bool = t4 || masks_bad in
      let t6 : Bool = t5 || positions_bad in
      let q8 = neither (t6 || targets_bad) (ltb (length p.held) (p.r * p.columns)) e in
      let q7 = neither t6 targets_bad q8.0 in
      let q6 = neither t5 positions_bad q7.0 in
      let q5 = neither t4 masks_bad q6.0 in
      let q4 = neither t3 rows_bad q5.0 in
      let q3 = neither t2 (ltb p.r p.count) q4.0 in
      let q2 = neither t1 (outside 1 512 p.columns) q3.0 in
      record {
        r_most = (inside 1 4096 p.r q2.0).1;
        columns_most = (inside 1 512 p.columns q2.1).1;
        rows_whole = same (length p.rows) (p.count * p.columns) q4.1;
        masks_whole = same (length p.masks) (p.count * p.columns) q5.1;
        positions_whole = same (length p.positions) (p.count * 4) q6.1;
        targets_whole = same (length p.targets) p.count q7.1;
        roomy = ltb-false (length p.held) (p.r * p.columns) q8.1;
      }
