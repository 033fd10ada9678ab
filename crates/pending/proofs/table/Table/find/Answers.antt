use Rattle.std.proofs.Common.{◌≡◌, ◌∙◌, sym, ℕ, ap, eqb, Option, Some, None, rules, tests}
use Rattle.std.specs.Option.{unwrap_or}
use Rattle.std.proofs.lemmas.Iterator.{YieldsList-from_slice}
use Rattle.std.proofs.lemmas.Iterator.Search.{position_from_yields_List}
use Rattle.laws.proofs.Search.{position-lowest}
use Rattle.pending.specs.Table.{slot_of}
use Rattle.pending.proofs.table.Table.find.Goals as goal
use Rattle.pending.proofs.table.Table.find.Goals.{After-position}

-- the place that was found, or 64
lowest_is : (c : After-position) → unwrap_or c.position.result 64 ≡ slot_of c.args.self.now c.args.number
lowest_is c =
    let a = c.args in
    ap (λ (o : Option ℕ). unwrap_or o 64) (position_from_yields_List (λ n. eqb n a.number) _ _ _ c.position.ensures.ran (YieldsList-from_slice a.self.now.numbers cc) (λ x b q k. search (rules, tests)))
    ∙ position-lowest (λ n. eqb n a.number) 0 a.self.now.numbers 64 (search rules)

pub returns : goal.returns
returns c =
    let found : c.position.result ≡ Some c.in_ok-index.index = search rules in
    sym (ap (λ (o : Option ℕ). unwrap_or o 64) found) ∙ lowest_is (goal.at.returns c).After-position

pub returns-in_err-index : goal.returns-in_err-index
returns-in_err-index c =
    let none : c.position.result ≡ None = search rules in
    let out : c.from_residual.result ≡ None = search rules in
    rw out (sym (lowest_is (goal.at.returns-in_err-index c).After-position) ∙ ap (λ (o : Option ℕ). unwrap_or o 64) none)
