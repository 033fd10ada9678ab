-- The builder's law for the entry: after success the words that were lent hold what each key's rows and masks need.
use Rattle.std.proofs.Common.{◌≡◌, ℕ, ◌+◌, ◌-◌, ◌*◌, ◌%◌, ◌^◌, ◌<◌, false, ltb, List, length, get_or, drop, sym, ap, ◌∙◌, arith, lt_of_le_ones, ltb-false}
use lib.Arith.{digits_lt}
use lib.ListN.{get_or-append}
use Rattle.laws.specs.Lists.{row, laid}
use Rattle.laws.proofs.Lists.{room}
use Rattle.laws.proofs.Refusals.{written}
use Rattle.laws.proofs.Search.{none_holds}
use Rattle.laws.proofs.Sums.{sum_ext}
use Rattle.leaves.specs.Limits.{any_above, elements_bad}
use Rattle.plain.specs.Matrix.{cell}
use Rattle.leaves.proofs.positions.Distinct.{below}
use Rattle.builder.specs.Keys.{Keys}
use Rattle.builder.specs.Placement.{placement_bad}
use Rattle.builder.specs.Database.{rows_sum, database, Proposed, keys_of, build_number, build_after}
use Rattle.builder.proofs.placement.Rule.{each_fine}
use Rattle.builder.proofs.database.Answers.{accepted}
use Rattle.builder.proofs.database.Law.{length-database, key_row}

-- 17 was not given: each element is below 2^b
fits : (b : ℕ) (xs : List ℕ) → elements_bad b xs ≡ false → (i : ℕ) → i < length xs → get_or xs i 0 < 2 ^ b
unfolding any_above
fits b xs h i l =
    lt_of_le_ones b (ltb-false (2 ^ b - 1) (get_or xs i 0) (none_holds (λ k. ltb (2 ^ b - 1) (get_or xs k 0)) (length xs) i h l))

-- what lies behind the database does not count
module _ (b r columns : ℕ) (ks : Keys) (count : ℕ) (rule : placement_bad r ks count ≡ false) (held : List ℕ) where
  kept : (i : ℕ) → i < count → (j : ℕ) → j < columns
      → rows_sum columns (laid (database b r columns ks count) held) (ks.places i) j
      ≡ rows_sum columns (database b r columns ks count) (ks.places i) j
  unfolding laid
  kept i h j l =
      let d = database b r columns ks count in
      let ps = ks.places i in
      sum_ext (length ps) (λ s. cell columns (laid d held) (get_or ps s 0) j) (λ s. cell columns d (get_or ps s 0) j)
      (λ s m. get_or-append d (drop (length d) held) 0 (get_or ps s 0 * columns + j)
      (omega (
        arith,
        length-database b r columns ks count rule,
        digits_lt (below r ps (each_fine r ks count rule i h).placed s m) l,
      )))

pub built_row : (p : Proposed) → build_number p ≡ 0 → (i : ℕ) → i < p.count → (j : ℕ) → j < p.columns
    → (rows_sum p.columns (build_after p) (row 4 p.positions i) j + get_or p.masks (i * p.columns + j) 0) % 2 ^ p.b
    ≡ get_or p.rows (i * p.columns + j) 0
built_row p z i h j l =
    let at : ℕ = i * p.columns + j in
    let g = accepted p z in
    let d = database p.b p.r p.columns (keys_of p) p.count in
    let e : build_after p ≡ laid d p.held = sym (written _ (laid d p.held) p.held z) in
    let small = fits p.b p.rows g.elements at (omega (arith, room i p.count p.columns h, g.shape.rows_whole)) in
    rw e
    (ap (λ (x : ℕ). (x + get_or p.masks at 0) % 2 ^ p.b)
    (kept p.b p.r p.columns (keys_of p) p.count g.placement p.held i h j l)
    ∙ key_row p.b p.r p.columns (keys_of p) p.count g.placement i h j l small)
