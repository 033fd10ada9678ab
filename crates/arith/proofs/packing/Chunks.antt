-- A loop over the chunks of f elements of a row, a word of the row for each: n of them came, and what is left begins at n * f.
use Rattle.std.proofs.Common.{◌≡◌, ℕ, ◌+◌, ◌-◌, ◌*◌, ◌<◌, ◌≤◌, min, List, ◌++◌, length, take, drop, sym, ap, ◌∙◌, zero-mul, mul-le-mul_right, arith, length-drop}
use Rattle.std.proofs.Math.Seq.{take-append_seam, drop-append_seam}
use Rattle.std.proofs.lemmas.List.{drop-drop}
use native.Mathlib.Decide.{dec_le, dec_lt}
use lib.ListN.{drop_of_length-le}
use Rattle.laws.specs.Lists.{part}
use Rattle.laws.proofs.Lists.{part_short}
use Rattle.arith.specs.Packing.{factor_of, words_of}
use Rattle.arith.proofs.packing.Sizes.{starts, cover}

-- nothing came yet
pub all_left : (f : ℕ) (xs : List ℕ) → xs ≡ drop (0 * f) xs
all_left f xs = rw (zero-mul f)

-- a chunk that came, as a loop's step tells it: the chunk, and what is left after it
pub record Came (f n : ℕ) (xs x next : List ℕ) : Type 0 where
  pub inside : n * f < length xs
  pub chunk : x ≡ part (n * f) f xs
  pub left : next ≡ drop ((n + 1) * f) xs

pub came : (f n : ℕ) (xs : List ℕ) {rest x next : List ℕ} → rest ≡ drop (n * f) xs
    → rest ≡ x ++ next → length x ≡ min f (length rest) → 0 < length rest → Came f n xs x next
came f n xs {rest} {x} {next} left cut long some =
    let l : length rest ≡ length xs - n * f = ap length left ∙ length-drop (n * f) xs in
    let e : length x ≡ min (n * f + f) (length xs) - n * f = omega arith in
    let moved = ap (drop (length x)) (sym cut ∙ left) ∙ drop-drop (length x) (n * f) xs in
    record {
      inside = omega arith;
      chunk = sym (take-append_seam x next)
          ∙ ap (take (length x)) (sym cut ∙ left)
          ∙ ap (λ (m : ℕ). part (n * f) m xs) e
          ∙ part_short (n * f) f xs (omega arith);
      left = sym (drop-append_seam x next) ∙ moved
          ∙ elim (dec_le (n * f + f) (length xs)) [
            | yes m ↦ let j : n * f + length x ≡ (n + 1) * f = omega arith in ap (λ (i : ℕ). drop i xs) j
            | no g ↦ drop_of_length-le xs (omega arith) ∙ sym (drop_of_length-le xs (omega arith))
          ];
    }

module _ (b k n : ℕ) where
  -- a chunk that starts inside the row has its word
  pub has_word : n * factor_of b < k → n < words_of b k
  has_word h =
      elim (dec_lt n (words_of b k)) [
        | yes l ↦ l
        | no g ↦ let m : words_of b k ≤ n = omega arith in absurd (omega (arith, cover b k, mul-le-mul_right (factor_of b) m))
      ]

  -- where no chunk is left, no word is
  pub no_word : k ≤ n * factor_of b → words_of b k ≤ n
  no_word h =
      elim (dec_lt n (words_of b k)) [
        | yes l ↦ absurd (omega (arith, starts b k n l))
        | no g ↦ omega arith
      ]
