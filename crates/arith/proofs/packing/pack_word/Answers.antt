use Rattle.std.proofs.Common.{◌≡◌, length, get_or, refl, sym, zero-mul, arith}
use Rattle.laws.specs.Sums.{sum}
use Rattle.arith.specs.Packing.{word_of}
use Rattle.arith.proofs.packing.Sizes.{wide, in_word, shift_lt}
use Rattle.arith.proofs.packing.Slots.{fill}
use Rattle.arith.proofs.packing.pack_word.Goals as goal

pub loop-x-init : goal.loop-x-init
unfolding sum
loop-x-init c = (sym (zero-mul c.slot_bits-slot.result), refl)

pub overflow_shl-word : goal.overflow_shl-word
overflow_shl-word c = shift_lt c.args.width.bits c.slot_bits-slot.ensures c.requires c.loop-x.invariant.0 c.loop-x-test.true

pub overflow_add-shift : goal.overflow_add-shift
overflow_add-shift c =
    omega (arith, in_word c.args.width.bits c.slot_bits-slot.ensures c.requires c.loop-x.invariant.0 c.loop-x-test.true)

pub loop-x-preserved : goal.loop-x-preserved
loop-x-preserved c =
    let b = c.args.width.bits in
    let w = c.slot_bits-slot in
    let l = c.loop-x in (
      omega arith,
      fill b w.result (rw w.ensures (wide b c.args.width.most)) (λ i. get_or c.args.part.now i 0) l.x-index l.word
          c.greatest-low.result l.shift
          c.greatest-low.ensures l.invariant.0
          (in_word b w.ensures c.requires l.invariant.0 c.loop-x-test.true) l.invariant.1,
    )

pub returns : goal.returns
unfolding word_of
returns c =
    let e : c.loop-x.x-index ≡ length c.args.part.now = omega arith in
    rw (e, c.slot_bits-slot.ensures) at c.loop-x.invariant.1
