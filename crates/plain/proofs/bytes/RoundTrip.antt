-- What the writer makes, the reader reads: dimensions and words.
use Rattle.std.proofs.Common.{◌≡◌, ℕ, ◌+◌, ◌*◌, ◌/◌, ◌%◌, ◌^◌, ◌<◌, ◌≤◌, Bool, false, not, ◌||◌, ltb, List, [], ◌∷◌, length, get_or, sym, ap, ◌∙◌, ap₂, mod-lt, mod-eq_of_lt, div-add-mod', arith, get_or-append-add, le-ltb, eq-eqb}
use Rattle.laws.specs.Refusals.{◌⇒◌, first, outside}
use Rattle.laws.specs.Lists.{build}
use Rattle.laws.specs.Sums.{sum}
use Rattle.laws.proofs.Refusals.{within}
use Rattle.laws.proofs.Lists.{get_d_part, length-build, get_or-build, build_ext, build-get_or, row-join}
use Rattle.laws.proofs.Sums.{sum_ext}
use Rattle.laws.proofs.Digits.{low_digits}
use Rattle.plain.specs.Matrix.{matrix_bad}
use Rattle.plain.specs.Bytes.{word_bytes, all_bytes, matrix_bytes, word_at, rows_of, columns_of, elements_of, length_bad, parsed_bad, from_bytes_number}
use Rattle.plain.proofs.matrix.Shapes.{sized}
use Rattle.plain.proofs.bytes.Words.{length_bytes}

-- a word from its four bytes
pub word_back : (x : ℕ) → x < 2 ^ 32 → sum 4 (λ i. x / 256 ^ i % 256 * 256 ^ i) ≡ x
word_back x h = let p : 0 < 256 = omega arith in low_digits 256 x 4 p ∙ mod-eq_of_lt h

module _ (xs : List ℕ) where
  -- byte i of word q
  pub byte_at : (q i : ℕ) → q < length xs → i < 4 → get_or (all_bytes xs) (q * 4 + i) 0 ≡ get_or xs q 0 / 256 ^ i % 256
  unfolding all_bytes
  byte_at q i hq hi =
      sym (get_d_part (q * 4) 4 (all_bytes xs) i 0 hi)
      ∙ ap (λ (l : List ℕ). get_or l i 0) (row-join 4 (λ k. word_bytes (get_or xs k 0)) (length xs) (λ k _. length-build 4 _) q hq)
      ∙ get_or-build 4 (λ k. get_or xs q 0 / 256 ^ k % 256) i 0 hi

  -- a byte is below 256
  pub byte_lt : (k : ℕ) → k < length (all_bytes xs) → get_or (all_bytes xs) k 0 < 256
  byte_lt k h =
      let n = length_bytes xs in
      let q : k / 4 < length xs = omega arith in
      let i : k % 4 < 4 = omega arith in
      let e : k / 4 * 4 + k % 4 ≡ k = div-add-mod' k 4 in
      let p : 0 < 256 = omega arith in
      let b : get_or (all_bytes xs) k 0 ≡ get_or xs (k / 4) 0 / 256 ^ (k % 4) % 256 = ap (λ (j : ℕ). get_or (all_bytes xs) j 0) (sym e) ∙ byte_at (k / 4) (k % 4) q i in
      rw b (mod-lt (get_or xs (k / 4) 0 / 256 ^ (k % 4)) p)

  -- word q is read as it was
  pub word_at_back : (q : ℕ) → q < length xs → get_or xs q 0 < 2 ^ 32 → word_at (all_bytes xs) q ≡ get_or xs q 0
  unfolding word_at
  word_at_back q hq h =
      sum_ext 4 (λ i. get_or (all_bytes xs) (q * 4 + i) 0 * 256 ^ i) (λ i. get_or xs q 0 / 256 ^ i % 256 * 256 ^ i)
      (λ i l. ap (λ (b : ℕ). b * 256 ^ i) (byte_at q i hq l))
      ∙ word_back (get_or xs q 0) h

pub length_matrix : (rows columns : ℕ) (words : List ℕ) → length (matrix_bytes rows columns words) ≡ 8 + 4 * length words
unfolding matrix_bytes
length_matrix rows columns words = let n = length_bytes (rows ∷ columns ∷ words) in omega arith

-- A matrix that the writer takes, and a room that holds it.
module _
    (rows columns : ℕ)
    (words : List ℕ)
    (room : ℕ)
    (fine : matrix_bad rows columns (length words) ≡ false)
    (small : (q : ℕ) → q < length words → get_or words q 0 < 2 ^ 32)
    (roomy : rows * columns ≤ room)
  where
    abbrev made : List ℕ
    made = matrix_bytes rows columns words

    rows_back : rows_of made ≡ rows
    unfolding matrix_bytes
    rows_back =
        let h = (sized rows columns (length words) fine).rows_most in
        word_at_back (rows ∷ columns ∷ words) 0 (omega arith) (omega (arith, h))

    columns_back : columns_of made ≡ columns
    unfolding matrix_bytes
    columns_back =
        let h = (sized rows columns (length words) fine).columns_most in
        word_at_back (rows ∷ columns ∷ words) 1 (omega arith) (omega (arith, h))

    area : rows_of made * columns_of made ≡ length words
    area = ap₂ ◌*◌ rows_back columns_back ∙ sym (sized rows columns (length words) fine).whole

    -- the words follow the dimensions
    third : (q : ℕ) → get_or (rows ∷ columns ∷ words) (2 + q) 0 ≡ get_or words q 0
    third q = get_or-append-add (rows ∷ columns ∷ []) words q 0

    words_back : elements_of made ≡ words
    unfolding elements_of matrix_bytes
    words_back =
        ap (λ (n : ℕ). build n (λ q. word_at made (2 + q))) area
        ∙ build_ext (length words) (λ q. word_at made (2 + q)) (λ q. get_or words q 0)
        (λ q h. word_at_back (rows ∷ columns ∷ words) (2 + q) (omega arith) (rw (third q) (small q h)) ∙ third q)
        ∙ build-get_or words 0

    length_fine : length_bad made ≡ false
    unfolding length_bad
    length_fine =
        let n = length_matrix rows columns words in
        let whole : length made ≡ 8 + 4 * (rows_of made * columns_of made) = n ∙ ap (λ (k : ℕ). 8 + 4 * k) (sym area) in
        ap not (eq-eqb _ _ whole)

    shape_fine : parsed_bad made room ≡ false
    unfolding parsed_bad
    shape_fine =
        let p = sized rows columns (length words) fine in
        let r = within 1 4096 rows p.rows_least p.rows_most in
        let c = within 1 4096 columns p.columns_least p.columns_most in
        ap₂ (λ (m n : ℕ). outside 1 4096 m || outside 1 4096 n || ltb room (m * n)) rows_back columns_back
        ∙ ap₂ ◌||◌ (ap₂ ◌||◌ r c) (le-ltb room (rows * columns) roomy)

    pub read_back : (from_bytes_number made room ≡ 0) × (rows_of made ≡ rows) × (columns_of made ≡ columns) × (elements_of made ≡ words)
    unfolding from_bytes_number
    read_back =
        (ap₂ (λ (s t : Bool). first (s ⇒ 11 ∷ t ⇒ 2 ∷ [])) length_fine shape_fine, rows_back, columns_back, words_back)
