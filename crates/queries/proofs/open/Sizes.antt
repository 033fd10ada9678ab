-- What a table and a shape that were not refused say.
use mathlib.Core.Path.{◌≡◌}
use mathlib.Core.Bool.{false, not, ◌||◌}
use Prim.Native.Nat.{ℕ, ◌*◌, ◌≤◌}
use native.Mathlib.Omega.{arith}
use lib.Dec.{ltb, eqb}
use borrow.Author.Tests.{ltb-false, eqb-true, eqb-false, not-false}
use Rattle.laws.specs.Refusals.{outside}
use Rattle.laws.proofs.Refusals.{neither, inside}
use Rattle.rows.specs.Codec.{columns_bad}
use Rattle.pending.specs.declared.table.Table.{Table}
use Rattle.pending.specs.Table.{malformed}
use Rattle.queries.specs.Open.{open_shape_bad}
use Rattle.pending.proofs.table.Formed.{formed}

-- a table's width and its columns are within their limits, and its next number is one
pub record Limited (t : Table) : Type 0 where
  pub b_least : 4 ≤ t.b
  pub b_most : t.b ≤ 14
  pub columns_least : 1 ≤ t.columns
  pub columns_most : t.columns ≤ 512
  pub next_least : 1 ≤ t.next

pub limited : (t : Table) → malformed t ≡ false → Limited t
unfolding columns_bad
limited t h =
    let b = inside 4 14 t.b (formed t h).width_in in
    let p = neither (outside 1 512 t.columns) (ltb (t.columns * t.b) 264) (formed t h).columns_in in
    let c = inside 1 512 t.columns p.0 in
    let set = eqb-false t.next 0 (formed t h).next_set in
    let next : 1 ≤ t.next = omega arith in
    record { b_least = b.0; b_most = b.1; columns_least = c.0; columns_most = c.1; next_least = next }

pub record Shaped (columns n r slab matrix hint secret error query : ℕ) : Type 0 where
  pub n_least : 1 ≤ n
  pub n_most : n ≤ 2048
  pub r_least : 1 ≤ r
  pub r_most : r ≤ 4096
  pub matrix_whole : matrix ≡ n * r
  pub hint_whole : hint ≡ n * columns
  pub slab_whole : slab ≡ 64 * columns
  pub secret_whole : secret ≡ n
  pub error_whole : error ≡ r
  pub query_roomy : r ≤ query

same : (x y : ℕ) → not (eqb x y) ≡ false → x ≡ y
same x y e = eqb-true x y (not-false (eqb x y) e)

pub shaped : (columns n r slab matrix hint secret error query : ℕ) → open_shape_bad columns n r slab matrix hint secret error query ≡ false
    → Shaped columns n r slab matrix hint secret error query
unfolding open_shape_bad
shaped columns n r slab matrix hint secret error query h =
    let dims = outside 1 2048 n || outside 1 4096 r in
    let m = not (eqb matrix (n * r)) in
    let i = not (eqb hint (n * columns)) in
    let l = not (eqb slab (64 * columns)) in
    let s = not (eqb secret n) in
    let e = not (eqb error r) in
    let p = neither (dims || m || i || l || s || e) (ltb query r) h in
    let q = neither (dims || m || i || l || s) e p.0 in
    let u = neither (dims || m || i || l) s q.0 in
    let v = neither (dims || m || i) l u.0 in
    let w = neither (dims || m) i v.0 in
    let x = neither dims m w.0 in
    let y = neither (outside 1 2048 n) (outside 1 4096 r) x.0 in
    record {
      n_least = (inside 1 2048 n y.0).0;
      n_most = (inside 1 2048 n y.0).1;
      r_least = (inside 1 4096 r y.1).0;
      r_most = (inside 1 4096 r y.1).1;
      matrix_whole = same matrix (n * r) x.1;
      hint_whole = same hint (n * columns) w.1;
      slab_whole = same slab (64 * columns) v.1;
      secret_whole = same secret n u.1;
      error_whole = same error r q.1;
      query_roomy = ltb-false query r p.1;
    }
