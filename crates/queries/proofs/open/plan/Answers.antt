-- What the tests say that were passed: n and R are within their limits, and next is a ticket's number.
use Rattle.std.proofs.Common.{[], ◌∷◌, eqb, sym, ◌∙◌, arith}
use Rattle.std.proofs.lemmas.Bool.{eqb-false}
use Rattle.laws.specs.Refusals.{◌⇒◌}
use Rattle.laws.proofs.Refusals.{all_clear}
use Rattle.pending.specs.Table.{digest_pending, full}
use Rattle.pending.proofs.table.Lengths.{next_fits}
use Rattle.queries.proofs.open.Sizes.{shaped}
use Rattle.queries.proofs.open.plan.Goals as goal

pub words_for_both-requires : goal.words_for_both-requires
words_for_both-requires c =
    let s = shaped _ _ _ _ _ _ _ _ _ (sym c.shape_bad.ensures ∙ c.if-shape_bad.false) in
    (omega (arith, s.n_most), s.r_most)

pub invariant_of-result-clause-n_in : goal.invariant_of-result-clause-n_in
invariant_of-result-clause-n_in c =
    let s = shaped _ _ _ _ _ _ _ _ _ (sym c.shape_bad.ensures ∙ c.if-shape_bad.false) in (s.n_least, s.n_most)

pub invariant_of-result-clause-r_in : goal.invariant_of-result-clause-r_in
invariant_of-result-clause-r_in c =
    let s = shaped _ _ _ _ _ _ _ _ _ (sym c.shape_bad.ensures ∙ c.if-shape_bad.false) in (s.r_least, s.r_most)

pub invariant_of-result-clause-numbered : goal.invariant_of-result-clause-numbered
invariant_of-result-clause-numbered c =
    let t = c.args.table in
    let tests = digest_pending t c.args.digest ⇒ 7 ∷ full t ⇒ 8 ∷ eqb t.next 4294967295 ⇒ 9 ∷ [] in
    let passed = all_clear tests tt (sym c.in_ok-slot.ensures.number) in
    omega (arith, eqb-false _ _ passed.1.1.0, next_fits t _ c.well_formed.0)
