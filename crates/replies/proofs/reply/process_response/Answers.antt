-- The early refusals, or what the row of the ticket's slot is answered. Where that closes the ticket, no early refusal holds,
-- and so it is closed.
use Rattle.std.proofs.Common.{◌≡◌, true, cond, length, sym, refl, ap, ◌∙◌}
use Rattle.pending.specs.Table.{closed}
use Rattle.pending.specs.declared.table.Table.{Table}
use Rattle.pending.proofs.table.Answers.{Closable, closed_is, wiped_is}
use Rattle.replies.specs.Reply.{Received, received, slot_for, reply_number, closing, reply_said, reply_of}
use Rattle.replies.proofs.reply.Answers.{Told, none_early, can_close, early_told, lent, row_told}
use Rattle.replies.proofs.reply.process_response.Goals as goal
use Rattle.replies.proofs.reply.process_response.Goals.{Start, After-closes, Then-closes, in-Ok, in-Err}

-- what is lent to the call
abbrev lent_to : Start → Received
lent_to st =
    let a = st.args in
    received a.table a.slab.now a.ticket a.response.now a.masks.now a.value.now

pub answer-answer-requires : goal.answer-answer-requires
answer-answer-requires c =
    let a = lent_to (goal.at.answer-answer-requires c).Start in
    rw c.in-Ok.ensures.fields.0 (lent a (sym c.in-Ok.ensures.number)).2

-- what is answered
module _ (c : After-closes) where
  abbrev a : Received
  a = lent_to (goal.at.After-closes c).Start

  told : Told a c.match-new.answer c.match-new.value
  told =
      elim c.match-new.branch [
        | in-Ok w ↦
            let p = w.answer-answer.ensures in
            rw (w.answer-is, w.value-is)
            (row_told a (sym w.in-Ok.ensures.number) w.in-Ok.waiting w.in-Ok.ensures.fields _ _ p.number p.length p.value_after)
        | in-Err w ↦ rw (w.answer-is, w.value-is) (early_told a w.in-Err.reason w.in-Err.ensures.number)
      ]

  shuts : closing (reply_number a) ≡ c.closes.result
  shuts = sym (ap closing told.number_is) ∙ sym c.closes.ensures

  -- with the table that such a number leaves
  said : (t : Table) → t ≡ cond c.closes.result (closed a.table (slot_for a)) a.table
      → reply_said (record { answer = c.match-new.answer; table = t }) ≡ reply_of a
  said t e =
      let l : t ≡ (reply_of a).table = e ∙ ap (λ b. cond b (closed a.table (slot_for a)) a.table) (sym shuts) in
      λ i. record { number = told.number_is i; length = told.length_is i; table = l i }

module _ (c : Then-closes) where
  abbrev k : After-closes
  k = (goal.at.Then-closes c).After-closes

  shut : closing (reply_number (a k)) ≡ true
  shut = shuts k ∙ c.if-closes.true

  can : Closable c.args.table (length c.args.slab.now) c.args.ticket
  can = can_close (a k) (none_early (a k) shut)

pub returns-then-closes-clause-result_value : goal.returns-then-closes-clause-result_value
returns-then-closes-clause-result_value c =
    let t = (goal.at.returns-then-closes-clause-result_value c).Then-closes in
    said (k t) _ (rw c.if-closes.true (c.close-table.ensures.value ∙ closed_is _ _ _ (can t)))

pub returns-then-closes-clause-slab_after : goal.returns-then-closes-clause-slab_after
returns-then-closes-clause-slab_after c =
    let t = (goal.at.returns-then-closes-clause-slab_after c).Then-closes in
    rw (shut t) (c.close-table.ensures.slab_after ∙ wiped_is _ _ _ (can t))

pub returns-then-closes-clause-value_after : goal.returns-then-closes-clause-value_after
returns-then-closes-clause-value_after c = (told (goal.at.returns-then-closes-clause-value_after c).After-closes).value_is

pub returns-else-closes-clause-result_value : goal.returns-else-closes-clause-result_value
returns-else-closes-clause-result_value c =
    said (goal.at.returns-else-closes-clause-result_value c).After-closes _ (rw c.if-closes.false refl)

pub returns-else-closes-clause-slab_after : goal.returns-else-closes-clause-slab_after
returns-else-closes-clause-slab_after c =
    rw (shuts (goal.at.returns-else-closes-clause-slab_after c).After-closes, c.if-closes.false) refl

pub returns-else-closes-clause-value_after : goal.returns-else-closes-clause-value_after
returns-else-closes-clause-value_after c = (told (goal.at.returns-else-closes-clause-value_after c).After-closes).value_is
