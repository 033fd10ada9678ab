-- Document 01, "Builder": when a placement is broken.
use Rattle.std.specs.Prelude.{ℕ, Bool, ◌||◌, length, nat_le}
use Rattle.laws.specs.Search.{some}
use Rattle.leaves.specs.Positions.{among, positions_bad}
use Rattle.builder.specs.Keys.{Keys, target}

-- q is among the positions of a key written before key i
unfoldable pub seen_before : Keys → ℕ → ℕ → Bool
seen_before ks i q = some i (λ h. among (ks.places h) q)

-- key i has bad positions or an index above the last of them, or its target is among those of a key written before it
unfoldable pub key_bad : ℕ → Keys → ℕ → Bool
key_bad r ks i =
    positions_bad r (ks.places i)
    || nat_le (length (ks.places i)) (ks.index i)
    || seen_before ks i (target ks i)

-- 15: some key is so
unfoldable pub placement_bad : ℕ → Keys → ℕ → Bool
placement_bad r ks count = some count (key_bad r ks)
