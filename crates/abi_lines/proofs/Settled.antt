-- Two results that an entry's contract allows for one input coincide: the answer and each lent buffer alike. It is said of the
-- contracts themselves, and p and q are what their clauses say of the two results.
use mathlib.Core.Path.{refl, ◌∙⁻¹◌}
use Rattle.laws.specs.Uniqueness.{AllowsOne}
use Rattle.laws.proofs.Contracts.{◌&◌, skip}
use Rattle.abi_lines.proofs.lines.ladletwig_write_query_line as write
use Rattle.abi_lines.proofs.lines.ladletwig_read_response_line as read

pub write_query_line_settled : AllowsOne write.Kinds.ps write.Kinds.r write.Reads.Post
write_query_line_settled κs a x y v w p q =
    (λ i. record { number = (p.0 ∙⁻¹ q.0) i; length = (p.1.0 ∙⁻¹ q.1.0) i }, skip 2 (p.1.1 ∙⁻¹ q.1.1 & refl))

pub read_response_line_settled : AllowsOne read.Kinds.ps read.Kinds.r read.Reads.Post
read_response_line_settled κs a x y v w p q = (
  λ i. record { number = (p.0 ∙⁻¹ q.0) i; ticket = (p.1.0 ∙⁻¹ q.1.0) i; columns = (p.1.1.0 ∙⁻¹ q.1.1.0) i },
  skip 1 (p.1.1.1 ∙⁻¹ q.1.1.1 & refl),
)
