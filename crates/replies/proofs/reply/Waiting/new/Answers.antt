-- What was passed says that the ticket has a slot of the table, and that its secret lies within the slab.
use Rattle.std.proofs.Common.{◌≡◌, ◌∙◌, ◌*◌, true, length, sym, ap, arith, rules}
use Rattle.laws.proofs.Lists.{room, row_lent, length-row}
use Rattle.pending.specs.Table.{pending, slot_of}
use Rattle.pending.proofs.table.Slots.{slot_used}
use Rattle.replies.proofs.reply.Answers.{fits}
use Rattle.replies.proofs.reply.Waiting.new.Goals as goal
use Rattle.replies.proofs.reply.Waiting.new.Goals.{In_ok-slot}

slab_whole : (c : In_ok-slot) → length c.args.slab.now ≡ 64 * c.args.table.columns
slab_whole c = (fits _ _ _ _ (sym c.lent_bad.ensures ∙ c.if-lent_bad.false)).0

pub slice_bounds-secret-end : goal.slice_bounds-secret-end
slice_bounds-secret-end c =
    let s = c.in_ok-slot.slot in
    omega (arith, slab_whole (goal.at.slice_bounds-secret-end c).In_ok-slot, room s.index 64 c.args.table.columns s.within)

pub invariant_of-result-clause-taken : goal.invariant_of-result-clause-taken
invariant_of-result-clause-taken c =
    let t = c.args.table in
    let p : pending t c.args.ticket ≡ true = search rules in
    let e : c.in_ok-slot.slot.index ≡ slot_of t c.args.ticket = search rules in
    rw e (slot_used t c.args.ticket p)

pub invariant_of-result-clause-secret_whole : goal.invariant_of-result-clause-secret_whole
invariant_of-result-clause-secret_whole c =
    let k = (goal.at.invariant_of-result-clause-secret_whole c).In_ok-slot in
    let s = c.in_ok-slot.slot in
    let columns = c.args.table.columns in
    ap length (row_lent columns s.index c.args.slab.now)
    ∙ length-row columns 64 s.index c.args.slab.now (omega (arith, slab_whole k)) s.within
