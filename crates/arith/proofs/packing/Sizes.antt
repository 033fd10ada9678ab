-- Factor, slot width, and the words of a row.
use Rattle.std.proofs.Common.{◌≡◌, ℕ, suc, ◌+◌, ◌-◌, ◌*◌, ◌/◌, ◌%◌, ◌<◌, ◌≤◌, Bool, true, false, cond, leb, List, length, refl, sym, min, le_trans, mul-le-mul_right, div-lt_iff_lt-mul, mul-le-mul_left, div-mul-le_self, arith, leb-true}
use native.Mathlib.Nat.{lt-div-mul-add, div-eq_of_lt-le}
use Rattle.std.proofs.lemmas.Grind.{div_ceil_times}
use Rattle.laws.specs.Lists.{part}
use Rattle.laws.proofs.Lists.{room, length-build}
use Rattle.arith.specs.Packing.{factor_of, slot_bits, words_of, word_of, pack_row, element_of, unpack_row}

-- The three kinds of word, over the two tests that tell them apart.
kinds : (s t : Bool)
    → let f : ℕ = cond s 4 (cond t 3 2) in
    let w : ℕ = cond s 8 (cond t 10 16) in (2 ≤ f) × (f * w ≤ 32) × (0 < w)
kinds true t = (omega arith, omega arith, omega arith)
kinds false true = (omega arith, omega arith, omega arith)
kinds false false = (omega arith, omega arith, omega arith)

pub factor_lo : (b : ℕ) → 2 ≤ factor_of b
unfolding factor_of
factor_lo b = (kinds (leb b 8) (leb b 10)).0

fit : (b : ℕ) → factor_of b * slot_bits b ≤ 32
unfolding factor_of slot_bits
fit b = (kinds (leb b 8) (leb b 10)).1

slot_pos : (b : ℕ) → 0 < slot_bits b
unfolding slot_bits
slot_pos b = (kinds (leb b 8) (leb b 10)).2

-- a slot holds an element
pub wide : (b : ℕ) → b ≤ 14 → b ≤ slot_bits b
unfolding slot_bits
wide b h = by (leb b 8) (leb b 10) refl refl
  where
    by : (s t : Bool) → leb b 8 ≡ s → leb b 10 ≡ t → b ≤ cond s 8 (cond t 10 16)
    by true t p q = leb-true b 8 p
    by false true p q = leb-true b 10 q
    by false false p q = omega arith

-- Slot s of n, no more than a word has, lies inside the word.
module _ (b : ℕ) {w n : ℕ} (hw : w ≡ slot_bits b) (hn : n ≤ factor_of b) where
  pub in_word : {shift s : ℕ} → shift ≡ s * w → s < n → shift + w ≤ 32
  in_word {shift} {s} hs h =
      let all : n * w ≤ 32 = rw hw (le_trans (mul-le-mul_right (slot_bits b) hn) (fit b)) in
      omega (arith, room s n w h)

  pub shift_lt : {shift s : ℕ} → shift ≡ s * w → s < n → shift < 32
  shift_lt hs h = omega (arith, in_word hs h, slot_pos b)

-- Word q of a row of k elements starts inside the row.
pub starts : (b k q : ℕ) → q < words_of b k → q * factor_of b < k
unfolding words_of
starts b k q h =
    omega (arith, room q (words_of b k) (factor_of b) h, div-mul-le_self (k + (factor_of b - 1)) (factor_of b), factor_lo b)

-- The words of a row hold all its elements.
pub cover : (b k : ℕ) → k ≤ words_of b k * factor_of b
unfolding words_of
cover b k =
    let p : 0 < factor_of b = omega (arith, factor_lo b) in
    omega (arith, factor_lo b, lt-div-mul-add {a = k + (factor_of b - 1)} p)

-- A row takes at most as many words as elements.
pub words_le : (b k : ℕ) → words_of b k ≤ k
unfolding words_of
words_le b k =
    let p : 0 < factor_of b = omega (arith, factor_lo b) in
    let l : 1 ≤ factor_of b = p in
    let x : k + (factor_of b - 1) < suc k * factor_of b = omega (arith, mul-le-mul_left k l, factor_lo b) in
    let y : (k + (factor_of b - 1)) / factor_of b < suc k = (div-lt_iff_lt-mul {k = factor_of b} {x = k + (factor_of b - 1)} {y = suc k} p).1 x in
    omega arith

-- k / factor rounded up, as `div_ceil` says it
pub words_up : (b k : ℕ) → k / factor_of b + min 1 (k % factor_of b) ≡ words_of b k
unfolding words_of
words_up b k =
    let f = factor_of b in
    let p : 0 < f = omega (arith, factor_lo b) in
    let t = div_ceil_times k f p in
    sym (div-eq_of_lt-le f (omega (arith, t.1, p)) (omega (arith, t.0, p)))

pub length-packed : (b : ℕ) (xs : List ℕ) → length (pack_row b xs) ≡ words_of b (length xs)
unfolding pack_row
length-packed b xs = length-build (words_of b (length xs)) (λ q. word_of b (slot_bits b) (part (q * factor_of b) (factor_of b) xs))

pub length-unpacked : (b k : ℕ) (ws : List ℕ) → length (unpack_row b k ws) ≡ k
unfolding unpack_row
length-unpacked b k ws = length-build k (element_of b ws)
