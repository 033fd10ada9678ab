-- What a shape that was not refused says.
use Rattle.std.proofs.Common.{◌≡◌, ℕ, ◌*◌, ◌≤◌, false, not, ◌||◌, eqb, eqb-true}
use borrow.Author.Tests.{not-false}
use Rattle.laws.specs.Refusals.{outside}
use Rattle.laws.proofs.Refusals.{neither, inside}
use Rattle.plain.specs.Matrix.{matrix_bad}

pub record Sized (rows columns lent : ℕ) : Type 0 where
  pub rows_least : 1 ≤ rows
  pub rows_most : rows ≤ 4096
  pub columns_least : 1 ≤ columns
  pub columns_most : columns ≤ 4096
  pub whole : lent ≡ rows * columns

pub sized : (rows columns lent : ℕ) → matrix_bad rows columns lent ≡ false → Sized rows columns lent
unfolding matrix_bad
sized rows columns lent e =
    let p = neither (outside 1 4096 rows || outside 1 4096 columns) (not (eqb lent (rows * columns))) e in
    let q = neither (outside 1 4096 rows) (outside 1 4096 columns) p.0 in
    let r = inside 1 4096 rows q.0 in
    let c = inside 1 4096 columns q.1 in
    record {
      rows_least = r.0;
      rows_most = r.1;
      columns_least = c.0;
      columns_most = c.1;
      whole = eqb-true lent (rows * columns) (not-false (eqb lent (rows * columns)) p.1);
    }
