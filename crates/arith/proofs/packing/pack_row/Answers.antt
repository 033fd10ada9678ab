use Rattle.std.proofs.Common.{◌≡◌, ◌*◌, ◌<◌, ◌≤◌, length, ap, ◌∙◌, arith, length-drop}
use Rattle.std.specs.Iterator.Adapters.{enumerate_count, enumerate_source}
use Rattle.std.specs.Slice.Iter.{chunks_rest}
use Rattle.laws.specs.Lists.{build}
use Rattle.laws.proofs.Lists.{length-build}
use Rattle.laws.proofs.Filling.{filled_none, filled_whole, next_word}
use Rattle.arith.specs.Packing.{factor_of, words_of, word_of, slot_bits, pack_row}
use Rattle.arith.proofs.packing.Chunks.{Came, all_left, came, has_word, no_word}
use Rattle.arith.proofs.packing.pack_row.Invariants.{word}
use Rattle.arith.proofs.packing.pack_row.Goals as goal

pub loop-q-init : goal.loop-q-init
unfolding build
loop-q-init c =
    let z : enumerate_count c.into_iter-q-iterator.result ≡ 0 = cc in
    let r : chunks_rest (enumerate_source c.into_iter-q-iterator.result) ≡ c.args.elements.now = cc in
    (cc, rw z (r ∙ all_left (factor_of c.args.width.bits) c.args.elements.now), omega arith, rw z (filled_none _))

pub pack_word-requires : goal.pack_word-requires
pack_word-requires c = omega (arith, c.in-Some.ensures.steps.0.1.1)

pub bounds-out-q : goal.bounds-out-q
bounds-out-q c =
    let h = c.in-Some.ensures.steps in
    let i = c.loop-q.invariant in
    let b = c.args.width.bits in
    let t = came (factor_of b) _ c.args.elements.now i.1 h.0.1.0 (rw i.0 at h.0.1.1) h.0.1.2 in
    omega (arith, has_word b (length c.args.elements.now) _ t.inside, h.1)

pub loop-q-preserved : goal.loop-q-preserved
loop-q-preserved c =
    let h = c.in-Some.ensures.steps in
    let i = c.loop-q.invariant in
    let a = c.args in
    let b = a.width.bits in
    let n = enumerate_count c.loop-q.q-iterator in
    let t : Came (factor_of b) n a.elements.now c.in-Some.part.now (chunks_rest (enumerate_source c.next.new.self)) =
    came (factor_of b) n a.elements.now i.1 h.0.1.0 (rw i.0 at h.0.1.1) h.0.1.2 in
    let l : n < words_of b (length a.elements.now) = has_word b (length a.elements.now) n t.inside in
    rw (h.1, h.2) (
      h.0.0 ∙ i.0,
      t.left,
      omega (arith, l),
      next_word (word b a.elements.now) n c.pack_word.result a.out.now c.loop-q.out
          (c.pack_word.ensures ∙ ap (word_of b (slot_bits b)) t.chunk) (omega (arith, l)) i.3,
    )

pub returns : goal.returns
unfolding pack_row
returns c =
    let i = c.loop-q.invariant in
    let a = c.args in
    let b = a.width.bits in
    let n = enumerate_count c.loop-q.q-iterator in
    let k = length a.elements.now in
    let done : k ≤ n * factor_of b = omega (arith, ap length i.1, length-drop (n * factor_of b) a.elements.now, c.in-None.ensures.steps) in
    let e : n ≡ words_of b k = omega (arith, no_word b k n done) in
    filled_whole (rw e at i.3) (omega (arith, length-build (words_of b k) (word b a.elements.now)))
