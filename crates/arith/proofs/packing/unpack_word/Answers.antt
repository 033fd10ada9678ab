use Rattle.std.proofs.Common.{◌≡◌, length, sym, zero-mul, arith}
use Rattle.laws.specs.Lists.{build}
use Rattle.laws.proofs.Lists.{length-build}
use Rattle.laws.proofs.Filling.{filled_none, filled_whole, next_word}
use Rattle.arith.specs.Packing.{slot}
use Rattle.arith.proofs.packing.Sizes.{in_word, shift_lt}
use Rattle.arith.proofs.packing.Slots.{read}
use Rattle.arith.proofs.packing.unpack_word.Goals as goal

pub loop-x-init : goal.loop-x-init
unfolding build
loop-x-init c = (sym (zero-mul c.slot_bits-slot.result), filled_none _)

pub overflow_shr-x : goal.overflow_shr-x
overflow_shr-x c = shift_lt c.args.width.bits c.slot_bits-slot.ensures c.requires c.loop-x.invariant.0 c.loop-x-test.true

pub overflow_add-shift : goal.overflow_add-shift
overflow_add-shift c =
    omega (arith, in_word c.args.width.bits c.slot_bits-slot.ensures c.requires c.loop-x.invariant.0 c.loop-x-test.true)

pub loop-x-preserved : goal.loop-x-preserved
loop-x-preserved c =
    let a = c.args in
    let b = a.width.bits in
    let w = c.slot_bits-slot.result in
    let l = c.loop-x in (
      omega arith,
      next_word (slot b w a.word) l.x-index _ a.part.now l.part
          (read b w a.word c.greatest-low.result l.shift l.x-index c.greatest-low.ensures l.invariant.0) (omega arith) l.invariant.1,
    )

pub returns : goal.returns
returns c =
    let a = c.args in
    let l = c.loop-x in
    let e : l.x-index ≡ length a.part.now = omega arith in
    rw c.slot_bits-slot.ensures at (filled_whole (rw e at l.invariant.1) (omega (arith, length-build (length a.part.now) (slot a.width.bits c.slot_bits-slot.result a.word))))
