-- A row, word by word: what one turn of a loop over its words does. f elements to a word.
use Rattle.std.proofs.Common.{◌≡◌, ℕ, ◌+◌, ◌-◌, ◌*◌, ◌%◌, ◌<◌, min, List, ◌++◌, length, get_or, drop, sym, ap, ◌∙◌, ap₂, refl, zero-mul, length-take, length-drop, arith}
use native.Mathlib.Nat.{min-eq_right}
use lib.Arith.{digits_div, digits_mod}
use borrow.Rule.Slice.PartMut.{put_mid}
use Rattle.laws.specs.Lists.{build, part}
use Rattle.laws.specs.Sums.{sum}
use Rattle.laws.proofs.Lists.{length_part, get_d_part, length-build, build_ext, build-add}
use Rattle.laws.proofs.Filling.{Filled, part_more}
use Rattle.laws.proofs.Sums.{sum_ext, sum-add, cong_wrap, wrap_add}
use Rattle.arith.specs.Packing.{factor_of, slot_bits, words_of, slot, slots, element_of}
use Rattle.arith.proofs.packing.Sizes.{starts, cover}

-- before the first word
pub none_done : (f k : ℕ) → min (0 * f) k ≡ 0
none_done f k = omega (arith, zero-mul f)

module _ (b : ℕ) where
  -- after the last word nothing is left of the row
  pub all_done : (k : ℕ) → min (words_of b k * factor_of b) k ≡ k
  all_done k = min-eq_right (cover b k)

  -- element q * f + s is slot s of word q
  element_at : (ws : List ℕ) (q s : ℕ) → s < factor_of b → element_of b ws (q * factor_of b + s) ≡ slot b (slot_bits b) (get_or ws q 0) s
  unfolding element_of
  element_at ws q s h = ap₂ (λ (i j : ℕ). slot b (slot_bits b) (get_or ws i 0) j) (digits_div q h) (digits_mod q h)

  -- one word more is unpacked: n elements, to the end of the word, or of the row
  pub unpacked_more : (k q n : ℕ) (ws old new ys : List ℕ) → q < words_of b k → n ≡ min (factor_of b) (k - q * factor_of b) → length old ≡ k
      → (let at = q * factor_of b in ys ≡ slots b (slot_bits b) (get_or ws q 0) (length (part at (at + n - at) new)))
      → Filled (build (min (q * factor_of b) k) (element_of b ws)) old new
      → (let at = q * factor_of b in Filled (build (min ((q + 1) * factor_of b) k) (element_of b ws)) old (put_mid at (at + n - at) new ys))
  unpacked_more k q n ws old new ys h hn ho hy p =
      let f = factor_of b in
      let g = element_of b ws in
      let inside : q * f < k = starts b k q h in
      let before : min (q * f) k ≡ q * f = omega arith in
      let behind : q * f + n ≡ min ((q + 1) * f) k = omega arith in
      let d : q * f + n - q * f ≡ n = omega arith in
      let lent : length (part (q * f) n new) ≡ n = length_part (q * f) n new (omega (arith, p.long)) in
      let shown : ys ≡ build n (λ i. g (q * f + i)) =
      rw (d, lent) at hy ∙ build_ext n (slot b (slot_bits b) (get_or ws q 0)) (λ i. g (q * f + i)) (λ i l. sym (element_at ws q i (omega arith))) in
      let whole : build (q * f) g ++ ys ≡ build (min ((q + 1) * f) k) g =
      ap (λ zs. build (q * f) g ++ zs) shown ∙ sym (build-add (q * f) n g) ∙ ap (λ (i : ℕ). build i g) behind in
      rw (← whole, d)
      (part_more (build (q * f) g) ys old new (q * f) n (length-build (q * f) g)
      (ap length shown ∙ length-build n (λ i. g (q * f + i))) (omega arith) (rw before at p))

  -- one word more is added to the row's sum
  pub summed_more : (M q : ℕ) (v ws xs : List ℕ) (acc x : ℕ) → q * factor_of b < length v → xs ≡ part (q * factor_of b) (factor_of b) v
      → x ≡ sum (length xs) (λ s. get_or xs s 0 * slot b (slot_bits b) (get_or ws q 0) s) % M
      → acc ≡ sum (min (q * factor_of b) (length v)) (λ i. get_or v i 0 * element_of b ws i) % M
      → (acc + x) % M ≡ sum (min ((q + 1) * factor_of b) (length v)) (λ i. get_or v i 0 * element_of b ws i) % M
  summed_more M q v ws xs acc x h hp hx ha =
      let f = factor_of b in
      let n = length xs in
      let g : ℕ → ℕ = λ i. get_or v i 0 * element_of b ws i in
      let t : ℕ → ℕ = λ s. get_or xs s 0 * slot b (slot_bits b) (get_or ws q 0) s in
      let long : n ≡ min f (length v - q * f) = ap length hp ∙ length-take f (drop (q * f) v) ∙ ap (min f) (length-drop (q * f) v) in
      let before : min (q * f) (length v) ≡ q * f = omega arith in
      let behind : q * f + n ≡ min ((q + 1) * f) (length v) = omega arith in
      let terms : sum n t ≡ sum n (λ i. g (q * f + i)) =
      sum_ext n t (λ i. g (q * f + i))
      (λ i l.
      ap₂ ◌*◌ (ap (λ ys. get_or ys i 0) hp ∙ get_d_part (q * f) f v i 0 (omega arith)) (sym (element_at ws q i (omega arith)))) in
      wrap_add (sum (q * f) g) acc ((acc + x) % M) (ha ∙ ap (λ (i : ℕ). sum i g % M) before)
      (cong_wrap (sum n (λ i. g (q * f + i))) (hx ∙ ap (λ (y : ℕ). y % M) terms))
      refl
      ∙ ap (λ (y : ℕ). y % M) (sym (sum-add (q * f) n g) ∙ ap (λ (i : ℕ). sum i g) behind)
