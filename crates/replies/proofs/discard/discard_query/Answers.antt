-- On success the ticket is closed.
use Rattle.std.proofs.Common.{◌≡◌, length, sym, ap, ◌∙◌}
use Rattle.laws.proofs.Refusals.{written}
use Rattle.pending.proofs.table.Answers.{Closable, closed_is, wiped_is}
use Rattle.replies.specs.Discard.{discard_number}
use Rattle.client_answers.specs.Discard.{discarding_number}
use Rattle.replies.proofs.discard.Answers.{can_close}
use Rattle.replies.proofs.discard.discard_query.Goals as goal
use Rattle.replies.proofs.discard.discard_query.Goals.{In-Ok}

module _ (c : In-Ok) where
  none : discard_number c.args.table (length c.args.slab.now) c.args.ticket ≡ 0
  none = sym c.check-answer.ensures ∙ ap discarding_number c.in-Ok.is

  can : Closable c.args.table (length c.args.slab.now) c.args.ticket
  can = can_close _ _ _ none

pub returns-in-Ok-clause-table_value : goal.returns-in-Ok-clause-table_value
returns-in-Ok-clause-table_value c =
    let k = (goal.at.returns-in-Ok-clause-table_value c).In-Ok in
    c.close-table.ensures.value ∙ closed_is _ _ _ (can k) ∙ written _ _ _ (none k)

pub returns-in-Ok-clause-slab_after : goal.returns-in-Ok-clause-slab_after
returns-in-Ok-clause-slab_after c =
    let k = (goal.at.returns-in-Ok-clause-slab_after c).In-Ok in
    c.close-table.ensures.slab_after ∙ wiped_is _ _ _ (can k) ∙ written _ _ _ (none k)
