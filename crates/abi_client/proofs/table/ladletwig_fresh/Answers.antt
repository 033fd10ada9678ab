-- The table that was made, or zeros.
use Rattle.std.proofs.Common.{◌≡◌, ◌∙◌, ℕ, Result, Ok, Err, IfOk, refl}
use Rattle.std.specs.Result.{result_unwrap_or}
use Rattle.client_answers.specs.declared.table.MakingRefusal.{MakingRefusal}
use Rattle.client_answers.specs.declared.table.MakingRefusal.TheVariants as making
use Rattle.client_answers.specs.Table.{making_number}
use Rattle.pending.specs.declared.table.Table.{Table}
use Rattle.pending.specs.Table.{fresh_number, fresh_table, fresh_after}
use Rattle.abi_client.proofs.table.ladletwig_fresh.Goals as goal

brought : (made : Result Table MakingRefusal) (b columns : ℕ) → making_number made ≡ fresh_number b columns
    → IfOk made (λ t. t ≡ fresh_after b columns) → result_unwrap_or made (fresh_table 0 0 0) ≡ fresh_after b columns
brought (Ok t) b columns e h = h
brought (Err making.Width) b columns e h = rw (← e) refl
brought (Err making.Shape) b columns e h = rw (← e) refl

pub returns-clause-table_value : goal.returns-clause-table_value
returns-clause-table_value c =
    let a = c.args in
    c.unwrap_or.ensures ∙ brought c.fresh-made.result a.b a.columns c.fresh-made.ensures.answer_value c.fresh-made.ensures.table_value
