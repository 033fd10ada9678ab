-- Unpacking what was packed gives each element modulo 2^b.
use Rattle.std.proofs.Common.{◌≡◌, ℕ, ◌+◌, ◌*◌, ◌/◌, ◌%◌, ◌^◌, ◌<◌, ◌≤◌, List, length, get_or, drop, sym, ap, ◌∙◌, le_of_eq, lt_of_lt_of_le, mod-lt, div-lt_iff_lt-mul, div-add-mod', arith, length-drop, length-take}
use Rattle.laws.specs.Lists.{build, join, part, row}
use Rattle.laws.proofs.Lists.{get_d_part, get_or-build, build_ext, join_ext, row-join, length-row, join-build}
use Rattle.arith.specs.Packing.{factor_of, slot_bits, words_of, word_of, slot, pack_row, packed, element_of, unpack_row, unpacked, cut}
use Rattle.arith.proofs.packing.Sizes.{factor_lo, wide, cover, length-packed}
use Rattle.arith.proofs.packing.Slots.{taken}

-- element i of a packed row is the element that was packed, cut to b bits
pub element_packed : (b : ℕ) (xs : List ℕ) (i : ℕ) → b ≤ 14 → i < length xs → element_of b (pack_row b xs) i ≡ get_or xs i 0 % 2 ^ b
unfolding element_of pack_row word_of
element_packed b xs i h l =
    let f = factor_of b in
    let p : 0 < f = omega (arith, factor_lo b) in
    let q = i / f in
    let s = i % f in
    let word : ℕ → ℕ = λ n. word_of b (slot_bits b) (part (n * f) f xs) in
    let mine = part (q * f) f xs in
    let whole : q * f + s ≡ i = div-add-mod' i f in
    let sl : s < f = mod-lt i p in
    let sm : s < length mine = omega (arith, length-take f (drop (q * f) xs), length-drop (q * f) xs) in
    let ql : q < words_of b (length xs) =
    (div-lt_iff_lt-mul {k = f} {x = i} {y = words_of b (length xs)} p).1 (lt_of_lt_of_le l (cover b (length xs))) in
    ap (λ (v : ℕ). slot b (slot_bits b) v s) (get_or-build (words_of b (length xs)) word q 0 ql)
    ∙ taken b (slot_bits b) (wide b h) (λ k. get_or mine k 0) (length mine) s sm
    ∙ ap (λ (v : ℕ). v % 2 ^ b) (get_d_part (q * f) f xs s 0 sl ∙ ap (λ (k : ℕ). get_or xs k 0) whole)

-- a row of a matrix, packed and unpacked again
row_again : (b rows k j : ℕ) (m : List ℕ) → b ≤ 14 → rows * k ≤ length m → j < rows
    → unpack_row b k (pack_row b (row k m j)) ≡ build k (λ i. get_or m (j * k + i) 0 % 2 ^ b)
unfolding unpack_row
row_again b rows k j m h l lt =
    build_ext k (element_of b (pack_row b (row k m j))) (λ i. get_or m (j * k + i) 0 % 2 ^ b)
    (λ i il.
    element_packed b (row k m j) i h (omega (arith, length-row k rows j m l lt))
    ∙ ap (λ (x : ℕ). x % 2 ^ b) (get_d_part (j * k) k m i 0 il))

-- a matrix, packed and unpacked again
pub unpacked-packed : (b rows k : ℕ) (m : List ℕ) → b ≤ 14 → length m ≡ rows * k → unpacked b rows k (packed b rows k m) ≡ cut b m
unfolding unpacked packed cut
unpacked-packed b rows k m h e =
    let row_of : ℕ → List ℕ = λ j. pack_row b (row k m j) in
    let fits : rows * k ≤ length m = le_of_eq (sym e) in
    let each : (j : ℕ) → j < rows → length (pack_row b (row k m j)) ≡ words_of b k =
    λ j l. length-packed b (row k m j) ∙ ap (words_of b) (length-row k rows j m fits l) in
    join_ext rows (λ j. unpack_row b k (row (words_of b k) (join rows row_of) j)) (λ j. build k (λ i. get_or m (j * k + i) 0 % 2 ^ b))
    (λ j l. ap (unpack_row b k) (row-join (words_of b k) row_of rows each j l) ∙ row_again b rows k j m h fits l)
    ∙ join-build k rows (λ i. get_or m i 0 % 2 ^ b)
    ∙ ap (λ (n : ℕ). build n (λ i. get_or m i 0 % 2 ^ b)) (sym e)
