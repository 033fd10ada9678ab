use Rattle.std.proofs.Common.{◌∙◌, ap, length, ◌*◌, arith}
use Rattle.laws.specs.Lists.{splice}
use Rattle.laws.proofs.Filling.{put_splice}
use Rattle.tickets.proofs.slots.put_digest.Goals as goal

pub returns : goal.returns
returns c =
    let a = c.args in
    let e = c.copy_from_slice.ensures.after in
    put_splice (a.slot.index * 32) _ a.digests.now _ (omega (arith, ap length e))
    ∙ ap (λ ys. splice (a.slot.index * 32) ys a.digests.now) e
