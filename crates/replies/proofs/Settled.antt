-- Two results that a contract allows for one input coincide: the answer, the table and each lent buffer alike. It is said of the
-- contracts themselves, and p and q are what their clauses say of the two results.
use Rattle.std.proofs.Common.{◌≡◌, refl}
use mathlib.Core.Path.{◌∙⁻¹◌}
use Rattle.laws.specs.Uniqueness.{AllowsOne}
use Rattle.laws.proofs.Contracts.{◌&◌, skip}
use Rattle.client_answers.proofs.Apart.{same_replying, same_discarding}
use Rattle.replies.proofs.reply.process_response as response
use Rattle.replies.proofs.discard.discard_query as discard

pub process_response_settled : AllowsOne response.Kinds.ps response.Kinds.r response.Reads.Post
process_response_settled κs a x y v w p q =
    let e = p.0 ∙⁻¹ q.0 in
    let same : x.answer ≡ y.answer = same_replying (λ i. (e i).number) (λ i. (e i).length) in (
      λ i. record { answer = same i; table = (e i).table },
      skip 1 (p.1.0 ∙⁻¹ q.1.0 & skip 3 (p.1.1 ∙⁻¹ q.1.1 & refl)),
    )

pub discard_query_settled : AllowsOne discard.Kinds.ps discard.Kinds.r discard.Reads.Post
discard_query_settled κs a x y v w p q =
    let same : x.answer ≡ y.answer = same_discarding (p.0 ∙⁻¹ q.0) in (
      λ i. record { answer = same i; table = (p.1.0 ∙⁻¹ q.1.0) i },
      skip 1 (p.1.1 ∙⁻¹ q.1.1 & refl),
    )
