-- The words of slot s, zeroed, are a splice of as many zeros.
use Rattle.std.proofs.Common.{◌≡◌, ◌∙◌, ap, ℕ, ◌+◌, ◌*◌, ◌-◌, ◌≤◌, List, length, replicate, arith}
use Rattle.std.proofs.lemmas.List.{length-replicate}
use borrow.Rule.Slice.PartMut.{put_mid}
use Rattle.laws.specs.Lists.{part, splice}
use Rattle.laws.proofs.Lists.{room, row_lent, length_part}
use Rattle.laws.proofs.Filling.{put_splice}
use Rattle.pending.specs.Table.{wiped}
use Rattle.tickets.proofs.slots.close_slot.Goals as goal

-- the words that are wiped, of which there are as many as columns
wiped_is : (columns s : ℕ) (slab ys : List ℕ) → s * columns + columns ≤ length slab
    → ys ≡ replicate (length (part (s * columns) (s * columns + columns - s * columns) slab)) 0
    → put_mid (s * columns) (s * columns + columns - s * columns) slab ys ≡ wiped columns s slab
wiped_is columns s slab ys h e =
    let n : length (part (s * columns) (s * columns + columns - s * columns) slab) ≡ columns =
    ap length (row_lent columns s slab) ∙ length_part (s * columns) columns slab h in
    let made : ys ≡ replicate columns 0 = rw n at e in
    let d : s * columns + columns - s * columns ≡ length ys = omega (arith, ap length made, length-replicate {A = ℕ} columns 0) in
    put_splice (s * columns) (s * columns + columns - s * columns) slab ys d ∙ ap (λ zs. splice (s * columns) zs slab) made

pub returns-clause-slab_after : goal.returns-clause-slab_after
returns-clause-slab_after c =
    let a = c.args in
    wiped_is a.table.columns a.slot.index a.slab.now _ (omega (arith, c.requires, room a.slot.index 64 a.table.columns a.slot.within)) c.zero.ensures
