use Rattle.std.proofs.Common.{◌∙◌, refl, sym}
use Rattle.pending.specs.Table.{fresh_number}
use Rattle.pending.proofs.table.fresh.Goals as goal

pub returns-clause-table_value : goal.returns-clause-table_value
unfolding fresh_number
returns-clause-table_value c =
    simp (sym c.width_bad.ensures ∙ c.if-width_bad.false, sym c.columns_bad.ensures ∙ c.if-columns_bad.false) refl
