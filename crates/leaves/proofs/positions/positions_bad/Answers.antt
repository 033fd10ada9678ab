use Rattle.std.proofs.Common.{◌≡◌, ◌∙◌, sym, ap, ◌||◌, leb, length, arith, rules, tests}
use Rattle.std.proofs.lemmas.Iterator.{YieldsList-from_slice}
use Rattle.std.proofs.lemmas.Iterator.Search.{any_from_yields_List}
use Rattle.laws.specs.Search.{some}
use Rattle.laws.proofs.Search.{list_any-some}
use Rattle.leaves.specs.Positions.{positions_bad}
use Rattle.leaves.proofs.positions.Distinct.{far, twice}
use Rattle.leaves.proofs.positions.positions_bad.Goals as goal

pub returns-then-any : goal.returns-then-any
unfolding positions_bad
returns-then-any c =
    let r = c.args.r in
    let ps = c.args.ps in
    let found : c.any.result ≡ some (length ps) (far r ps) =
    any_from_yields_List (leb r) _ _ _ c.any.ensures.ran (YieldsList-from_slice ps cc) (λ x b q k. search (rules, tests)) ∙ list_any-some (leb r) 0 ps in
    c.if-any.true ∙ sym (ap (λ b. b || some (length ps) (twice ps)) (sym found ∙ c.if-any.true))

pub returns-else-any : goal.returns-else-any
unfolding positions_bad
returns-else-any c =
    let r = c.args.r in
    let ps = c.args.ps in
    let found : c.any.result ≡ some (length ps) (far r ps) =
    any_from_yields_List (leb r) _ _ _ c.any.ensures.ran (YieldsList-from_slice ps cc) (λ x b q k. search (rules, tests)) ∙ list_any-some (leb r) 0 ps in
    let four : 4 ≡ length ps = omega arith in
    c.repeats.ensures ∙ ap (λ n. some n (twice ps)) four ∙ sym (ap (λ b. b || some (length ps) (twice ps)) (sym found ∙ c.if-any.false))
