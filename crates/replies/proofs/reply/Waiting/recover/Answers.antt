-- Each element is the definition's, and the whole row is filled.
use Rattle.std.proofs.Common.{◌≡◌, ℕ, ◌+◌, ◌%◌, ◌^◌, ◌<◌, ◌≤◌, length, get_or, refl, ap, ◌∙◌, mod-lt, arith, pow_pos, pow_mono}
use Rattle.laws.specs.Lists.{build}
use Rattle.laws.proofs.Lists.{length-build}
use Rattle.laws.proofs.Filling.{filled_none, filled_whole, next_word}
use Rattle.laws.proofs.Sums.{cong_eq, cong_wrap, cong_add}
use Rattle.leaves.specs.Rounding.{rounded}
use Rattle.replies.specs.Reply.{less_word, recovered}
use Rattle.replies.proofs.reply.Waiting.recover.Invariants.{element}
use Rattle.replies.proofs.reply.Waiting.recover.Goals as goal

-- what is rounded has b bits
rounded-lt : (b u : ℕ) → rounded b u < 2 ^ b
unfolding rounded
rounded-lt b u = mod-lt _ (pow_pos b)

pub loop-j-init : goal.loop-j-init
unfolding build
loop-j-init c = filled_none _

pub overflow_add-x : goal.overflow_add-x
overflow_add-x c =
    let w = c.args.self.now in
    let b = w.table.b in
    let m : c.modulus-modulus.result ≡ 2 ^ b = c.modulus-modulus.ensures ∙ ap (λ b. 2 ^ b) c.width.ensures in
    let e : 2 ^ b ≤ 2 ^ 14 = pow_mono {j = 14} (omega (arith, c.width.ensures)) in
    let l : c.rounded.result < 2 ^ b = rw c.rounded.ensures (rounded-lt b _) in
    omega (arith, mod-lt (get_or w.masks.now c.loop-j.j 0) {m = c.modulus-modulus.result} (omega (arith, pow_pos b)))

pub loop-j-preserved : goal.loop-j-preserved
unfolding less_word
loop-j-preserved c =
    let w = c.args.self.now in
    let j = c.loop-j.j in
    let b = w.table.b in
    let mask = get_or w.masks.now j 0 in
    let f = element b w.secret.now w.response.now w.masks.now in
    let m : c.modulus-modulus.result ≡ 2 ^ b = c.modulus-modulus.ensures ∙ ap (λ b. 2 ^ b) c.width.ensures in
    let e : (c.rounded.result + mask % 2 ^ b) % 2 ^ b ≡ f j =
    (cong_add (cong_eq c.rounded.ensures) (cong_wrap mask refl)).same in
    next_word f j _ c.args.row.now c.loop-j.row (rw m e) (omega (arith, c.loop-j.invariant.long)) c.loop-j.invariant

pub returns : goal.returns
unfolding recovered
returns c =
    let w = c.args.self.now in
    let n = length w.response.now in
    let f = element w.table.b w.secret.now w.response.now w.masks.now in
    let e : c.loop-j.j ≡ n = omega (arith, c.loop-j.invariant.long) in
    filled_whole (rw e at c.loop-j.invariant) (omega (arith, length-build n f))
