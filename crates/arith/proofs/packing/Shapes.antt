-- What a shape that was not refused says.
use Rattle.std.proofs.Common.{◌≡◌, ℕ, ◌*◌, ◌≤◌, false, not, ◌||◌, eqb, ltb, ltb-false, eqb-true}
use borrow.Author.Tests.{not-false}
use Rattle.laws.specs.Refusals.{outside}
use Rattle.laws.proofs.Refusals.{neither}
use Rattle.arith.specs.Packing.{packing_shape_bad}

pub record Shaped (rows k from to lent room : ℕ) : Type 0 where
  pub whole : lent ≡ rows * from
  pub roomy : rows * to ≤ room

pub shaped : (rows k from to lent room : ℕ) → packing_shape_bad rows k from to lent room ≡ false → Shaped rows k from to lent room
unfolding packing_shape_bad
shaped rows k from to lent room e =
    let p = neither (outside 1 512 rows || outside 1 4096 k || not (eqb lent (rows * from))) (ltb room (rows * to)) e in
    let q = neither (outside 1 512 rows || outside 1 4096 k) (not (eqb lent (rows * from))) p.0 in
    record {
      whole = eqb-true lent (rows * from) (not-false (eqb lent (rows * from)) q.1);
      roomy = ltb-false room (rows * to) p.1;
    }
