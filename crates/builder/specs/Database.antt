-- Document 01, "Builder": the database, its refusals, and what the lent words hold then.
use Rattle.std.specs.Prelude.{ℕ, zero, suc, ◌+◌, ◌-◌, ◌*◌, ◌%◌, ◌^◌, Bool, cond, not, ◌||◌, List, [], ◌∷◌, length, replicate, ◌==◌, nat_lt, slice_index}
use Rattle.laws.specs.Refusals.{◌⇒◌, first, after, outside, width_bad}
use Rattle.laws.specs.Lists.{build, splice, laid}
use Rattle.laws.specs.Sums.{sum}
use Rattle.leaves.specs.Limits.{elements_bad}
use Rattle.plain.specs.Matrix.{cell}
use Rattle.builder.specs.Keys.{Keys, target, lent_keys}
use Rattle.builder.specs.Placement.{placement_bad}

-- a less c, modulo 2^b
unfoldable pub less : ℕ → ℕ → ℕ → ℕ
less b a c = (a + (2 ^ b - c % 2 ^ b)) % 2 ^ b

-- column j of the rows at the positions, summed; and of all but the one at `index`
abbrev pub rows_sum : ℕ → List ℕ → List ℕ → ℕ → ℕ
rows_sum columns d ps j = sum (length ps) (λ s. cell columns d (slice_index ps s) j)

abbrev pub others_sum : ℕ → List ℕ → List ℕ → ℕ → ℕ → ℕ
others_sum columns d ps index j = sum (length ps) (λ s. cond (s == index) 0 (cell columns d (slice_index ps s) j))

-- key i's target row: its row less the other rows less the masks, modulo 2^b
abbrev pub target_row : ℕ → ℕ → Keys → List ℕ → ℕ → List ℕ
target_row b columns ks d i =
    build columns (λ j. less b (ks.element i j) (others_sum columns d (ks.places i) (ks.index i) j + ks.mask i j))

-- the database after the first n keys: all zero, and then each key's target row in its place
unfoldable pub database : ℕ → ℕ → ℕ → Keys → ℕ → List ℕ
database b r columns ks zero = replicate (r * columns) 0
database b r columns ks (suc n) =
    splice (target ks n * columns) (target_row b columns ks (database b r columns ks n) n) (database b r columns ks n)

-- what is lent to the builder: count keys in a proposed order, flat, and the words for the database, with what they hold
pub record Proposed : Type 0 where
  pub b : ℕ
  pub r : ℕ
  pub columns : ℕ
  pub count : ℕ
  pub rows : List ℕ
  pub masks : List ℕ
  pub positions : List ℕ
  pub targets : List ℕ
  pub held : List ℕ

abbrev pub proposed : ℕ → ℕ → ℕ → ℕ → List ℕ → List ℕ → List ℕ → List ℕ → List ℕ → Proposed
proposed b r columns count rows masks positions targets held = record {
  b = b;
  r = r;
  columns = columns;
  count = count;
  rows = rows;
  masks = masks;
  positions = positions;
  targets = targets;
  held = held;
}

abbrev pub keys_of : Proposed → Keys
keys_of p = lent_keys p.columns p.rows p.masks p.positions p.targets

-- 2: a dimension outside its limit, more keys than rows, a lent length wrong, the database too short
unfoldable pub keys_bad : Proposed → Bool
keys_bad p =
    outside 1 4096 p.r
    || outside 1 512 p.columns
    || nat_lt p.r p.count
    || not (length p.rows == p.count * p.columns)
    || not (length p.masks == p.count * p.columns)
    || not (length p.positions == p.count * 4)
    || not (length p.targets == p.count)
    || nat_lt (length p.held) (p.r * p.columns)

-- what the builder answers
unfoldable pub build_number : Proposed → ℕ
build_number p =
    first (
    width_bad p.b ⇒ 1
    ∷ keys_bad p ⇒ 2
    ∷ elements_bad p.b p.rows ⇒ 17
    ∷ placement_bad p.r (keys_of p) p.count ⇒ 15
    ∷ []
    )

-- and what the words for the database hold then
abbrev pub build_after : Proposed → List ℕ
build_after p =
    after (build_number p) (laid (database p.b p.r p.columns (keys_of p) p.count) p.held) p.held
