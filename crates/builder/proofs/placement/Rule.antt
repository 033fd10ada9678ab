-- What a placement that is not broken says of each key.
use Rattle.std.proofs.Common.{◌≡◌, ℕ, ◌<◌, Bool, false, ◌||◌, leb, length, leb-false}
use Rattle.laws.proofs.Refusals.{neither}
use Rattle.laws.proofs.Search.{none_holds}
use Rattle.leaves.specs.Positions.{positions_bad}
use Rattle.builder.specs.Keys.{Keys, target}
use Rattle.builder.specs.Placement.{seen_before, key_bad, placement_bad}

-- key i has good positions and a target among them, which no key before it has
pub record Fine (r : ℕ) (ks : Keys) (i : ℕ) : Type 0 where
  pub placed : positions_bad r (ks.places i) ≡ false
  pub among : ks.index i < length (ks.places i)
  pub fresh : seen_before ks i (target ks i) ≡ false

pub fine : (r : ℕ) (ks : Keys) (i : ℕ) → key_bad r ks i ≡ false → Fine r ks i
unfolding key_bad
fine r ks i h =
    let few : Bool = leb (length (ks.places i)) (ks.index i) in
    let p = neither (positions_bad r (ks.places i) || few) (seen_before ks i (target ks i)) h in
    let q = neither (positions_bad r (ks.places i)) few p.0 in
    record { placed = q.0; among = leb-false (length (ks.places i)) (ks.index i) q.1; fresh = p.1 }

pub each_fine : (r : ℕ) (ks : Keys) (count : ℕ) → placement_bad r ks count ≡ false → (i : ℕ) → i < count → Fine r ks i
unfolding placement_bad
each_fine r ks count h i l = fine r ks i (none_holds (key_bad r ks) count i h l)
