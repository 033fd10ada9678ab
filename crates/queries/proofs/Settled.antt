-- Two results that a contract allows for one input coincide: the answer, the table and each lent buffer alike. It is said of the
-- contracts themselves, and p and q are what their clauses say of the two results.
use mathlib.Core.Path.{◌≡◌, ap, ◌∙⁻¹◌}
use Rattle.laws.specs.Uniqueness.{AllowsOne}
use Rattle.laws.proofs.Contracts.{past}
use Rattle.client_answers.proofs.Apart.{same_opening}
use Rattle.queries.specs.Open.{OpenLeft}
use Rattle.queries.proofs.«open».query_for_4_wise_xor_filter as query

pub query_for_4_wise_xor_filter_settled : AllowsOne query.Kinds.ps query.Kinds.r query.Reads.Post
query_for_4_wise_xor_filter_settled κs a x y v w p q =
    let e = p.0 ∙⁻¹ q.0 in
    let same : x.answer ≡ y.answer = same_opening (λ i. (e i).number) (λ i. (e i).ticket) (λ i. (e i).read) in (
      λ i. record { answer = same i; table = (e i).table },
      ap (λ (l : OpenLeft). past 1 (l.slab, past 8 (l.secret, (l.error, (l.query, tt))))) (p.1 ∙⁻¹ q.1),
    )
