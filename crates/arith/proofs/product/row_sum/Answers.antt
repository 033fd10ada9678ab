use Rattle.std.proofs.Common.{◌≡◌, ℕ, ◌+◌, ◌*◌, ◌^◌, ◌≤◌, List, ◌∷◌, min, length, get_or, drop, sym, ap, ◌∙◌, inl, inr, arith, length-drop, mul-le-mul_right}
use lib.Seq.{get_or-drop}
use Rattle.std.proofs.lemmas.List.{drop-drop, length_push}
use Rattle.std.specs.Iterator.Adapters.{zip_first}
use Rattle.std.specs.Slice.Iter.{chunks_rest}
use Rattle.laws.specs.Sums.{sum}
use Rattle.arith.specs.Packing.{factor_of, words_of}
use Rattle.arith.specs.Product.{entry_of}
use Rattle.arith.proofs.packing.Chunks.{all_left, came}
use Rattle.arith.proofs.packing.Rows.{none_done, summed_more}
use Rattle.arith.proofs.packing.Sizes.{cover}
use Rattle.arith.proofs.product.row_sum.Goals as goal

-- the word that came is word n, and what is left begins after it
word_came : (n w : ℕ) (ws next : List ℕ) → drop n ws ≡ w ∷ next → (w ≡ get_or ws n 0) × (next ≡ drop (n + 1) ws)
word_came n w ws next p =
    let none : n + 0 ≡ n = omega arith in (
      ap (λ l. get_or l 0 0) (sym p) ∙ get_or-drop n ws 0 0 ∙ ap (λ (k : ℕ). get_or ws k 0) none,
      ap (drop 1) (sym p) ∙ drop-drop 1 n ws,
    )

pub loop-part-init : goal.loop-part-init
unfolding sum
loop-part-init c =
    let f = factor_of c.args.width.bits in
    let r : chunks_rest (zip_first c.into_iter-part-iterator.result) ≡ c.args.vector.now = cc in
    (cc, r ∙ all_left f c.args.vector.now, cc, rw (none_done f (length c.args.vector.now)))

pub loop-part-preserved : goal.loop-part-preserved
loop-part-preserved c =
    let h = c.in-Some.ensures.steps in
    let i = c.loop-part.invariant in
    let a = c.args in
    let b = a.width.bits in
    let n = length c.loop-part.yielded in
    let t = came (factor_of b) n a.vector.now i.1 h.0.1.0 (rw i.0 at h.0.1.1) h.0.1.2 in
    let w = word_came n c.in-Some.word.now a.words.now _ (sym i.2 ∙ h.1) in
    rw (length_push c.loop-part.yielded (c.in-Some.part, c.in-Some.word)) (
      h.0.0 ∙ i.0,
      t.left,
      w.1,
      summed_more b (2 ^ 32) n a.vector.now a.words.now c.in-Some.part.now c.loop-part.acc c.word_sum-acc.result t.inside t.chunk
          (rw w.0 at c.word_sum-acc.ensures) i.3,
    )

pub returns : goal.returns
unfolding entry_of
returns c =
    let i = c.loop-part.invariant in
    let v = c.args.vector.now in
    let b = c.args.width.bits in
    let f = factor_of b in
    let n = length c.loop-part.yielded in
    let e : min (n * f) (length v) ≡ length v =
    elim c.in-None.ensures.steps [
      | inl p ↦ omega (arith, ap length i.1, length-drop (n * f) v, p.1)
      | inr p ↦
          let m : words_of b (length v) ≤ n = omega (arith, ap length i.2, length-drop n c.args.words.now, p.1.0) in
          omega (arith, cover b (length v), mul-le-mul_right f m)
    ] in
    rw e at i.3
