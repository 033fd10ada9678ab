-- The builder's law: after success each key's rows and masks give its row modulo 2^b. Over keys with any number of positions.
use Rattle.std.proofs.Common.{◌≡◌, ℕ, zero, suc, ◌+◌, ◌-◌, ◌*◌, ◌/◌, ◌%◌, ◌^◌, ◌<◌, ◌≤◌, Bool, false, cond, eqb, length, get_or, refl, ap, ◌∙◌, ap₂, not-suc-le-zero, mod-lt, mod-eq_of_lt, div-add-mod', arith, pow_pos, eq-eqb}
use native.Mathlib.Decide.{dec_lt, ℕ_discrete}
use lib.ListN.{length-replicate}
use borrow.Author.Tests.{eqb-false}
use Rattle.laws.specs.Lists.{build}
use Rattle.laws.specs.Sums.{Cong}
use Rattle.laws.proofs.Lists.{room, length-build, get_or-build}
use Rattle.laws.proofs.Search.{none_holds}
use Rattle.laws.proofs.Splice.{length-splice, row_same, row_other}
use Rattle.laws.proofs.Sums.{sum_ext, sum_apart, cong_eq, cong_wrap, cong_add, cong_trans, mod_in}
use Rattle.laws.proofs.Below.{Below, below_at, below_replicate, below_build, below_splice}
use Rattle.plain.specs.Matrix.{cell}
use Rattle.leaves.specs.Positions.{among}
use Rattle.leaves.proofs.positions.Distinct.{below, distinct}
use Rattle.builder.specs.Keys.{Keys, target}
use Rattle.builder.specs.Placement.{seen_before, placement_bad}
use Rattle.builder.specs.Database.{less, rows_sum, others_sum, target_row, database}
use Rattle.builder.proofs.placement.Rule.{Fine, each_fine}

-- what was taken off, added again
less_back : (b a c : ℕ) → Cong (2 ^ b) (less b a c + c) a
unfolding less
less_back b a c =
    let M : ℕ = 2 ^ b in
    let e = div-add-mod' c M in
    let l = mod-lt c (pow_pos b) in
    cong_trans (cong_add (cong_wrap (a + (M - c % M)) refl) (cong_eq {b = c} refl))
    (mod_in M (a + (M - c % M) + c) a 0 (1 + c / M) (omega arith))

less-lt : (b a c : ℕ) → less b a c < 2 ^ b
unfolding less
less-lt b a c = mod-lt (a + (2 ^ b - c % 2 ^ b)) (pow_pos b)

-- every word of the database is below 2^b, whatever the keys
module _ (b r columns : ℕ) (ks : Keys) where
  small : (n : ℕ) → Below (2 ^ b) (database b r columns ks n)
  unfolding database
  small zero = below_replicate (2 ^ b) (r * columns) 0 (pow_pos b)
  small (suc n) =
      let d = database b r columns ks n in
      below_splice (2 ^ b) (target ks n * columns) (target_row b columns ks d n) d
      (below_build (2 ^ b) columns
      (λ j. less b (ks.element n j) (others_sum columns d (ks.places n) (ks.index n) j + ks.mask n j))
      (λ j. less-lt b (ks.element n j) (others_sum columns d (ks.places n) (ks.index n) j + ks.mask n j)))
      (small n)

  pub elements_fit : (count i : ℕ) → get_or (database b r columns ks count) i 0 < 2 ^ b
  elements_fit count i = below_at (2 ^ b) (database b r columns ks count) (small count) (pow_pos b) i

-- column j of the row that key n writes
abbrev fresh : ℕ → ℕ → ℕ → Keys → ℕ → ℕ → ℕ
fresh b r columns ks n j =
    less b (ks.element n j) (others_sum columns (database b r columns ks n) (ks.places n) (ks.index n) j + ks.mask n j)

-- a placement that is not broken
module _ (b r columns : ℕ) (ks : Keys) (count : ℕ) (rule : placement_bad r ks count ≡ false) where
  good : (i : ℕ) → i < count → Fine r ks i
  good = each_fine r ks count rule

  -- the target's row lies inside the database
  row_in : (n : ℕ) → n < count → target ks n * columns + columns ≤ r * columns
  row_in n h =
      room (target ks n) r columns (below r (ks.places n) (good n h).placed (ks.index n) (good n h).among)

  sized : (n : ℕ) → n ≤ count → length (database b r columns ks n) ≡ r * columns
  unfolding database
  sized zero h = length-replicate (r * columns) 0
  sized (suc n) h =
      let ih = sized n (omega arith) in
      let full = length-build columns (fresh b r columns ks n) in
      length-splice (target ks n * columns) (build columns (fresh b r columns ks n)) (database b r columns ks n)
      (omega (arith, row_in n h)) ∙ ih

  pub length-database : length (database b r columns ks count) ≡ r * columns
  length-database = sized count (omega arith)

  -- key n writes its target row, and leaves the others
  module _ (n : ℕ) (h : n < count) (j : ℕ) (l : j < columns) where
    fits : target ks n * columns + columns ≤ length (database b r columns ks n)
    fits = omega (arith, row_in n h, sized n (omega arith))

    wrote : cell columns (database b r columns ks (suc n)) (target ks n) j ≡ fresh b r columns ks n j
    unfolding database
    wrote =
        row_same columns (target ks n) (build columns (fresh b r columns ks n)) (database b r columns ks n) fits
        (length-build columns (fresh b r columns ks n)) 0 j l
        ∙ get_or-build columns (fresh b r columns ks n) j 0 l

    left : (q : ℕ) → ¬ (q ≡ target ks n)
        → cell columns (database b r columns ks (suc n)) q j ≡ cell columns (database b r columns ks n) q j
    unfolding database
    left q ne =
        row_other columns (target ks n) (build columns (fresh b r columns ks n)) (database b r columns ks n) fits
        (length-build columns (fresh b r columns ks n)) 0 q j l ne

  -- no later key writes a row of key i
  unseen : (i n s : ℕ) → i < n → n < count → s < length (ks.places i) → ¬ (get_or (ks.places i) s 0 ≡ target ks n)
  unfolding seen_before among
  unseen i n s l h m =
      let here : ℕ → Bool = λ t. eqb (get_or (ks.places i) t 0) (target ks n) in
      eqb-false (get_or (ks.places i) s 0) (target ks n)
      (none_holds here (length (ks.places i)) s
      (none_holds (λ k. among (ks.places k) (target ks n)) n i (good n h).fresh l) m)

  stays : (i s j : ℕ) → s < length (ks.places i) → j < columns → (n : ℕ) → i < n → n ≤ count
      → cell columns (database b r columns ks n) (get_or (ks.places i) s 0) j
      ≡ cell columns (database b r columns ks (suc i)) (get_or (ks.places i) s 0) j
  stays i s j m l zero p h = absurd (not-suc-le-zero p)
  stays i s j m l (suc n) p h =
      elim (dec_lt i n) [
        | yes k ↦ left n h j l (get_or (ks.places i) s 0) (unseen i n s k h m) ∙ stays i s j m l n k (omega arith)
        | no g ↦ same (omega arith)
      ]
    where
      same : n ≡ i
          → cell columns (database b r columns ks (suc n)) (get_or (ks.places i) s 0) j
          ≡ cell columns (database b r columns ks (suc i)) (get_or (ks.places i) s 0) j
      same e = rw e

  -- where key i has just been written, its rows are the others and the new one
  module _ (i : ℕ) (h : i < count) (j : ℕ) (l : j < columns) where
    apart : rows_sum columns (database b r columns ks (suc i)) (ks.places i) j
        ≡ others_sum columns (database b r columns ks i) (ks.places i) (ks.index i) j + fresh b r columns ks i j
    apart =
        let ps = ks.places i in
        let k = ks.index i in
        let new : ℕ → ℕ = λ s. cell columns (database b r columns ks (suc i)) (get_or ps s 0) j in
        let old : ℕ → ℕ = λ s. cell columns (database b r columns ks i) (get_or ps s 0) j in
        let each : (s : ℕ) → s < length ps → cond (eqb s k) 0 (new s) ≡ cond (eqb s k) 0 (old s) =
        λ s m. elim (ℕ_discrete s k) [
          | yes e ↦ at s (new s) (old s) e
          | no ne ↦ ap (cond (eqb s k) 0) (left i h j l (get_or ps s 0)
              (distinct r ps (good i h).placed s k m (good i h).among ne))
        ] in
        sum_apart (length ps) k new (good i h).among
        ∙ ap₂ ◌+◌ (sum_ext (length ps) (λ s. cond (eqb s k) 0 (new s)) (λ s. cond (eqb s k) 0 (old s)) each) (wrote i h j l)
      where
        at : (s x y : ℕ) → s ≡ ks.index i → cond (eqb s (ks.index i)) 0 x ≡ cond (eqb s (ks.index i)) 0 y
        at s x y e = rw (eq-eqb s (ks.index i) e)

  -- each key's rows and masks give its row
  pub key_sum : (i : ℕ) → i < count → (j : ℕ) → j < columns
      → Cong (2 ^ b) (rows_sum columns (database b r columns ks count) (ks.places i) j + ks.mask i j) (ks.element i j)
  key_sum i h j l =
      let ps = ks.places i in
      let others : ℕ = others_sum columns (database b r columns ks i) ps (ks.index i) j in
      let now : ℕ = rows_sum columns (database b r columns ks count) ps j in
      let then : ℕ = rows_sum columns (database b r columns ks (suc i)) ps j in
      let e : now ≡ then =
      sum_ext (length ps) (λ s. cell columns (database b r columns ks count) (get_or ps s 0) j)
      (λ s. cell columns (database b r columns ks (suc i)) (get_or ps s 0) j)
      (λ s m. stays i s j m l count h (omega arith)) in
      let f : now + ks.mask i j ≡ fresh b r columns ks i j + (others + ks.mask i j) = omega (arith, apart i h j l) in
      cong_trans (cong_eq f) (less_back b (ks.element i j) (others + ks.mask i j))

  -- and the row itself, where its elements are below 2^b
  pub key_row : (i : ℕ) → i < count → (j : ℕ) → j < columns → ks.element i j < 2 ^ b
      → (rows_sum columns (database b r columns ks count) (ks.places i) j + ks.mask i j) % 2 ^ b ≡ ks.element i j
  key_row i h j l small = (key_sum i h j l).same ∙ mod-eq_of_lt small
