-- Each position lies inside the query, so the test can be made there; and it is the one that `wraps` makes.
use Rattle.std.proofs.Common.{◌≡◌, ◌-◌, ◌<◌, nat_lt, length, get_or, rules, ap, ◌∙◌}
use Rattle.std.specs.List.{list_any}
use Rattle.std.proofs.lemmas.List.{get_or_default}
use Rattle.std.proofs.lemmas.Iterator.{YieldsList-from_slice}
use Rattle.std.proofs.lemmas.Iterator.Adapters.{serves_from_places}
use Rattle.std.proofs.lemmas.Iterator.Search.{any_from_yields_List}
use Rattle.laws.proofs.Search.{list_any-some, some_ext}
use Rattle.leaves.proofs.positions.Distinct.{below}
use Rattle.queries.specs.Open.{wraps}
use Rattle.queries.proofs.open.Marks.{over, over_is}
use Rattle.leaves.specs.Rounding.{delta}
use Rattle.queries.proofs.open.Opening.wraps_at.Goals as goal

pub any-requires-clause-callable : goal.any-requires-clause-callable
any-requires-clause-callable c =
    let a = c.args in
    serves_from_places (YieldsList-from_slice a.self.now.positions cc) (λ x q k. search rules)
    (λ x k h e.
    let inside : x.now < length a.query.now = rw (e ∙ get_or_default a.self.now.positions k x.now 0 h) (below (length a.query.now) a.self.now.positions (rw c.requires a.self.now.apart) k h) in
    search rules)

pub returns : goal.returns
unfolding wraps
returns c =
    let a = c.args in
    let e : c.any.result ≡ list_any (λ p. nat_lt (4294967295 - c.delta.result) (get_or a.query.now p 0)) a.self.now.positions =
    any_from_yields_List (λ p. nat_lt (4294967295 - c.delta.result) (get_or a.query.now p 0)) _ _ _ c.any.ensures.ran (YieldsList-from_slice a.self.now.positions cc) (λ x b q k. search rules) in
    let w = c.width.result in
    let d : c.delta.result ≡ delta a.self.now.table.b = c.delta.ensures ∙ ap delta c.width.ensures in
    e ∙ list_any-some _ 0 _ ∙ some_ext _ (over a.self.now.table.b a.self.now.positions a.query.now) _ (λ s h. rw d (over_is a.self.now.table.b (get_or a.query.now (get_or a.self.now.positions s 0) 0) (rw (← c.width.ensures) w.least) (rw (← c.width.ensures) w.most)))
