-- Two results that an entry's contract allows for one input coincide: the answer and each lent buffer alike. It is said of the
-- contracts themselves, and p and q are what their clauses say of the two results.
use mathlib.Core.Path.{refl, ap, ◌∙⁻¹◌}
use Rattle.laws.specs.Uniqueness.{AllowsOne}
use Rattle.laws.proofs.Contracts.{◌&◌, past, skip}
use Rattle.queries.specs.Open.{OpenSaid, OpenLeft}
use Rattle.replies.specs.Reply.{ReplySaid}
use Rattle.abi_client.proofs.table.ladletwig_fresh as fresh
use Rattle.abi_client.proofs.table.ladletwig_is_malformed as is-malformed
use Rattle.abi_client.proofs.«open».ladletwig_query_for_4_wise_xor_filter as query
use Rattle.abi_client.proofs.reply.ladletwig_process_response as reply
use Rattle.abi_client.proofs.discard.ladletwig_discard_query as discard

pub fresh_settled : AllowsOne fresh.Kinds.ps fresh.Kinds.r fresh.Reads.Post
fresh_settled κs a x y v w p q = (λ i. record { number = (p.0 ∙⁻¹ q.0) i; table = (p.1 ∙⁻¹ q.1) i }, refl)

pub is_malformed_settled : AllowsOne is-malformed.Kinds.ps is-malformed.Kinds.r is-malformed.Reads.Post
is_malformed_settled κs a x y v w p q = (p ∙⁻¹ q, refl)

pub query_for_4_wise_xor_filter_settled : AllowsOne query.Kinds.ps query.Kinds.r query.Reads.Post
query_for_4_wise_xor_filter_settled κs a x y v w p q = (
  ap (λ (s : OpenSaid). record { number = s.number; ticket = s.ticket; read = s.read; table = s.table }) (p.0 ∙⁻¹ q.0),
  ap (λ (l : OpenLeft). past 1 (l.slab, past 8 (l.secret, (l.error, (l.query, tt))))) (p.1 ∙⁻¹ q.1),
)

pub process_response_settled : AllowsOne reply.Kinds.ps reply.Kinds.r reply.Reads.Post
process_response_settled κs a x y v w p q = (
  ap (λ (s : ReplySaid). record { number = s.number; length = s.length; table = s.table }) (p.0 ∙⁻¹ q.0),
  skip 1 (p.1.0 ∙⁻¹ q.1.0 & skip 3 (p.1.1 ∙⁻¹ q.1.1 & refl)),
)

pub discard_query_settled : AllowsOne discard.Kinds.ps discard.Kinds.r discard.Reads.Post
discard_query_settled κs a x y v w p q =
    (λ i. record { number = (p.0 ∙⁻¹ q.0) i; table = (p.1.0 ∙⁻¹ q.1.0) i }, skip 1 (p.1.1 ∙⁻¹ q.1.1 & refl))
