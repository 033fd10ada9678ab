-- What the open was tested for says that its slot can be taken.
use Rattle.std.proofs.Common.{ℕ, arith, sym, ap, ◌∙◌}
use Rattle.pending.specs.Table.{taken}
use Rattle.pending.proofs.table.Slots.{some_free}
use Rattle.pending.proofs.table.Answers.{Takable, taken_is}
use Rattle.queries.proofs.open.Sizes.{limited}
use Rattle.queries.proofs.open.Opening.store.Goals as goal

pub returns-clause-value : goal.returns-clause-value
returns-clause-value c =
    let o = c.args.self.now in
    let can : Takable o.table o.digest =
    record { unheld = o.unheld; unfilled = some_free o.table (λ e. omega (arith, o.lowest, o.slot.within)); least = (limited _ o.formed).next_least; most = o.numbered } in
    c.take.ensures ∙ taken_is o.table o.digest can ∙ ap (λ (s : ℕ). taken o.table s o.digest) (sym o.lowest)
