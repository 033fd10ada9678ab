-- Bits put together and taken apart, over any width.
use mathlib.Core.Path.{◌≡◌, refl, ap, ◌∙◌}
use mathlib.Core.List.{List}
use Prim.Native.Nat.{ℕ, ◌+◌, ◌*◌, ◌/◌, ◌%◌, ◌^◌, ◌<◌, ◌≤◌}
use native.Mathlib.Nat.{add_comm, one-mul, mod-lt, mod-eq_of_lt, div-lt_iff_lt-mul, div-add-mod'}
use native.Mathlib.Numerals.{add-one}
use native.Mathlib.Omega.{arith}
use lib.Arith.{digits_div, digits_mod}
use lib.Bits.{bit_or, or_shifted_r}
use lib.ListN.{length, get_or}
use lib.Pow.{pow-lt, shl_exact}
use lib.Seq.{ext_get_or}
use Rattle.laws.specs.Sums.{sum}
use Rattle.laws.specs.Bits.{bit_of, gathered, carried}
use Rattle.laws.proofs.Lists.{room, length-build, get_or-build, build_ext}
use Rattle.laws.proofs.Sums.{sum_ext}
use Rattle.laws.proofs.Digits.{low_digits, together_lt, digit_together}

-- a one that is shifted stays inside its word, and so is not 0
pub one_shifted : (k : ℕ) → k < 32 → (1 * 2 ^ k) % 2 ^ 32 ≡ 2 ^ k
one_shifted k h = ap (λ (x : ℕ). x % 2 ^ 32) (one-mul (2 ^ k)) ∙ mod-eq_of_lt (pow-lt {j = 32} h)

pub bit_lt : (w : ℕ) (xs : List ℕ) (k : ℕ) → bit_of w xs k < 2
unfolding bit_of
bit_lt w xs k = mod-lt (get_or xs (k / w) 0 / 2 ^ (k % w)) (omega arith)

-- the bits of one number: bit i of number j
pub bit_at : (w : ℕ) (xs : List ℕ) (j i : ℕ) → i < w → bit_of w xs (j * w + i) ≡ get_or xs j 0 / 2 ^ i % 2
unfolding bit_of
bit_at w xs j i h = rw (digits_div j h, digits_mod j h)

-- no bits are gathered yet
pub gathered_none : (f : ℕ → ℕ) (at : ℕ) → 0 ≡ gathered 0 f at
unfolding gathered sum
gathered_none f at = refl

pub gathered_ext : (w : ℕ) (f g : ℕ → ℕ) (at : ℕ) → ((i : ℕ) → i < w → f (at + i) ≡ g (at + i)) → gathered w f at ≡ gathered w g at
unfolding gathered
gathered_ext w f g at h =
    sum_ext w (λ i. f (at + i) * 2 ^ i) (λ i. g (at + i) * 2 ^ i) (λ i l. ap (λ (x : ℕ). x * 2 ^ i) (h i l))

-- Gathering bits, each 0 or 1.
module _ (f : ℕ → ℕ) (small : (k : ℕ) → f k < 2) (at : ℕ) where
  pub gathered-lt : (w : ℕ) → gathered w f at < 2 ^ w
  unfolding gathered
  gathered-lt = together_lt 2 (λ i. f (at + i)) (λ i. small (at + i))

  -- `word | (bit << n)` gathers one bit more
  pub gathered_more : (n word bit : ℕ) → n < 32 → bit ≡ f (at + n) → word ≡ gathered n f at
      → bit_or word ((bit * 2 ^ n) % 2 ^ 32) ≡ gathered (n + 1) f at
  unfolding gathered sum
  gathered_more n word bit h hb hw =
      let k : 1 + n ≤ 32 = omega arith in
      rw (add-one n, hb, hw)
      (ap (bit_or (gathered n f at)) (shl_exact 1 n 32 (small (at + n)) k)
      ∙ or_shifted_r (f (at + n)) n (gathered n f at) (gathered-lt n)
      ∙ add_comm (f (at + n) * 2 ^ n) (gathered n f at))

  -- bit i of what was gathered
  pub bit_gathered : (w i : ℕ) → i < w → gathered w f at / 2 ^ i % 2 ≡ f (at + i)
  unfolding gathered
  bit_gathered = digit_together 2 (λ i. f (at + i)) (λ i. small (at + i))

-- gathering the bits of a number gives the number
pub gathered_bits : (w : ℕ) (xs : List ℕ) (j : ℕ) → get_or xs j 0 < 2 ^ w → gathered w (bit_of w xs) (j * w) ≡ get_or xs j 0
unfolding gathered
gathered_bits w xs j h =
    let x : ℕ = get_or xs j 0 in
    sum_ext w (λ i. bit_of w xs (j * w + i) * 2 ^ i) (λ i. x / 2 ^ i % 2 * 2 ^ i) (λ i l. ap (λ (b : ℕ). b * 2 ^ i) (bit_at w xs j i l))
    ∙ low_digits 2 x w (omega arith)
    ∙ mod-eq_of_lt h

-- Numbers of w bits each.
module _ (w n : ℕ) where
  pub length-carried : (f : ℕ → ℕ) → length (carried w n f) ≡ n
  unfolding carried
  length-carried f = length-build n (λ j. gathered w f (j * w))

  pub get_or-carried : (f : ℕ → ℕ) (j : ℕ) → j < n → get_or (carried w n f) j 0 ≡ gathered w f (j * w)
  unfolding carried
  get_or-carried f j h = get_or-build n (λ k. gathered w f (k * w)) j 0 h

  -- they depend on the bits that they carry, and on no other
  pub carried_ext : (f g : ℕ → ℕ) → ((k : ℕ) → k < n * w → f k ≡ g k) → carried w n f ≡ carried w n g
  unfolding carried
  carried_ext f g h =
      build_ext n (λ j. gathered w f (j * w)) (λ j. gathered w g (j * w))
      (λ j l. gathered_ext w f g (j * w) (λ i m. h (j * w + i) (omega (arith, room j n w l))))

  -- bit k of the numbers that carry f is f k
  pub bit_carried : (f : ℕ → ℕ) → ((k : ℕ) → f k < 2) → 0 < w → (k : ℕ) → k < n * w → bit_of w (carried w n f) k ≡ f k
  unfolding bit_of
  bit_carried f small pos k h =
      ap (λ (x : ℕ). x / 2 ^ (k % w) % 2) (get_or-carried f (k / w) ((div-lt_iff_lt-mul {k = w} {x = k} {y = n} pos).1 h))
      ∙ bit_gathered f small (k / w * w) w (k % w) (mod-lt k pos)
      ∙ ap f (div-add-mod' k w)

-- numbers below 2 ^ w are what carries their bits
pub carried_bits : (w : ℕ) (xs : List ℕ) → ((j : ℕ) → get_or xs j 0 < 2 ^ w) → carried w (length xs) (bit_of w xs) ≡ xs
carried_bits w xs small =
    ext_get_or 0 (carried w (length xs) (bit_of w xs)) xs (length-carried w (length xs) (bit_of w xs))
    (λ j l.
    let h : j < length xs = omega (arith, length-carried w (length xs) (bit_of w xs)) in
    get_or-carried w (length xs) (bit_of w xs) j h ∙ gathered_bits w xs j (small j))
