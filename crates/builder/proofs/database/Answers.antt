-- What a refusal and what success say.
use Rattle.std.proofs.Common.{◌≡◌, ◌≤◌, false, [], ◌∷◌}
use Rattle.laws.specs.Refusals.{◌⇒◌, width_bad}
use Rattle.laws.proofs.Refusals.{passed, inside}
use Rattle.leaves.specs.Limits.{elements_bad}
use Rattle.builder.specs.Placement.{placement_bad}
use Rattle.builder.specs.Database.{Proposed, keys_of, keys_bad, build_number}
use Rattle.builder.proofs.database.Sizes.{Sized, sized}

-- 0: no test holds
pub record Accepted (p : Proposed) : Type 0 where
  pub b_most : p.b ≤ 14
  pub shape : Sized p
  pub elements : elements_bad p.b p.rows ≡ false
  pub placement : placement_bad p.r (keys_of p) p.count ≡ false

pub accepted : (p : Proposed) → build_number p ≡ 0 → Accepted p
unfolding build_number
accepted p e =
    let large = elements_bad p.b p.rows in
    let broken = placement_bad p.r (keys_of p) p.count in
    let q = passed (width_bad p.b) 0 (keys_bad p ⇒ 2 ∷ large ⇒ 17 ∷ broken ⇒ 15 ∷ []) e in
    let s = passed (keys_bad p) 1 (large ⇒ 17 ∷ broken ⇒ 15 ∷ []) q.1 in
    let t = passed large 16 (broken ⇒ 15 ∷ []) s.1 in
    record {
      b_most = (inside 4 14 p.b q.0).1;
      shape = sized p s.0;
      elements = t.0;
      placement = (passed broken 14 [] t.1).0;
    }
