use Rattle.std.proofs.Common.{◌≡◌, ◌∙◌, ℕ, ◌*◌, ◌%◌, ◌^◌, length, get_or, refl, sym, ap, add-one, zero-mul, arith}
use Rattle.laws.specs.Sums.{sum}
use Rattle.laws.proofs.Sums.{cong_wrap, wrap_add}
use Rattle.arith.specs.Packing.{slot}
use Rattle.arith.proofs.packing.Sizes.{in_word, shift_lt}
use Rattle.arith.proofs.packing.Slots.{read}
use Rattle.arith.proofs.product.word_sum.Goals as goal

pub loop-x-init : goal.loop-x-init
unfolding sum
loop-x-init c = (sym (zero-mul c.slot_bits-slot.result), refl)

pub overflow_shr-word : goal.overflow_shr-word
overflow_shr-word c = shift_lt c.args.width.bits c.slot_bits-slot.ensures c.requires c.loop-x.invariant.0 c.loop-x-test.true

pub overflow_add-shift : goal.overflow_add-shift
overflow_add-shift c =
    omega (arith, in_word c.args.width.bits c.slot_bits-slot.ensures c.requires c.loop-x.invariant.0 c.loop-x-test.true)

pub loop-x-preserved : goal.loop-x-preserved
unfolding sum
loop-x-preserved c =
    let a = c.args in
    let b = a.width.bits in
    let w = c.slot_bits-slot.result in
    let l = c.loop-x in
    let x = get_or a.part.now l.x-index 0 in
    let slot_read = read b w a.word c.greatest-low.result l.shift l.x-index c.greatest-low.ensures l.invariant.0 in (
      omega arith,
      rw (add-one l.x-index)
          (wrap_add (sum l.x-index (λ i. get_or a.part.now i 0 * slot b w a.word i)) l.acc _
          l.invariant.1
          (cong_wrap (x * slot b w a.word l.x-index) (c.wrapping_mul-acc.ensures ∙ ap (λ (y : ℕ). (x * y) % 2 ^ 32) slot_read))
          refl),
    )

pub returns : goal.returns
returns c =
    let e : c.loop-x.x-index ≡ length c.args.part.now = omega arith in
    rw (e, c.slot_bits-slot.ensures) at c.loop-x.invariant.1
