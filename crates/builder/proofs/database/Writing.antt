-- One key's row, written into its place.
use Rattle.std.proofs.Common.{◌≡◌, ℕ, ◌+◌, ◌-◌, ◌%◌, ◌^◌, ◌<◌, ◌≤◌, List, get_or, sym, ap, ◌∙◌, ap₂, arith}
use borrow.Rule.Slice.PartMut.{put_mid}
use Rattle.laws.specs.Lists.{build, splice}
use Rattle.laws.proofs.Lists.{length-build, get_or-build, build_ext}
use Rattle.laws.proofs.Filling.{put_splice}
use Rattle.builder.specs.Keys.{Keys}
use Rattle.builder.specs.Database.{less, others_sum, target_row}
use Rattle.builder.proofs.database.Less.{less_wrapped, less-less}

-- a part of the words, lent and come back with a row less sums that were wrapped less masks
pub lent_row : (b columns at n : ℕ) (f : ℕ → ℕ) (words row sums masks made : List ℕ) → b ≤ 32 → n ≡ columns
    → sums ≡ build columns (λ j. f j % 2 ^ 32)
    → made ≡ build n (λ j. less b (less b (get_or row j 0) (get_or sums j 0)) (get_or masks j 0))
    → put_mid at (at + columns - at) words made
    ≡ splice at (build columns (λ j. less b (get_or row j 0) (f j + get_or masks j 0))) words
lent_row b columns at n f words row sums masks made h e hs hm =
    let size : at + columns - at ≡ columns = omega arith in
    let new : ℕ → ℕ = λ j. less b (get_or row j 0) (f j + get_or masks j 0) in
    let old : ℕ → ℕ = λ j. less b (less b (get_or row j 0) (get_or sums j 0)) (get_or masks j 0) in
    let each : (j : ℕ) → j < columns → old j ≡ new j =
    λ j l. ap (λ (x : ℕ). less b (less b (get_or row j 0) x) (get_or masks j 0))
    (ap (λ xs. get_or xs j 0) hs ∙ get_or-build columns (λ i. f i % 2 ^ 32) j 0 l)
    ∙ ap (λ (x : ℕ). less b x (get_or masks j 0)) (less_wrapped b (get_or row j 0) (f j) h)
    ∙ less-less b (get_or row j 0) (f j) (get_or masks j 0) in
    let made_is : made ≡ build columns new = hm ∙ ap (λ (k : ℕ). build k old) e ∙ build_ext columns old new each in
    rw (size, made_is) (put_splice at columns words (build columns new) (sym (length-build columns new)))

-- that row is key n's target row
pub row_made : (b columns : ℕ) (ks : Keys) (n : ℕ) (words ps row masks : List ℕ) → ps ≡ ks.places n
    → ((j : ℕ) → j < columns → get_or row j 0 ≡ ks.element n j)
    → ((j : ℕ) → j < columns → get_or masks j 0 ≡ ks.mask n j)
    → build columns (λ j. less b (get_or row j 0) (others_sum columns words ps (ks.index n) j + get_or masks j 0))
    ≡ target_row b columns ks words n
row_made b columns ks n words ps row masks hp hr hm =
    rw hp
    (build_ext columns
    (λ j. less b (get_or row j 0) (others_sum columns words (ks.places n) (ks.index n) j + get_or masks j 0))
    (λ j. less b (ks.element n j) (others_sum columns words (ks.places n) (ks.index n) j + ks.mask n j))
    (λ j l. ap₂ (λ (x y : ℕ). less b x (others_sum columns words (ks.places n) (ks.index n) j + y)) (hr j l) (hm j l)))
