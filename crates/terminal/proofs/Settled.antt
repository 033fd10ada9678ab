-- Two results that a contract allows for one input coincide: the answer and the output alike. It is said of the contracts
-- themselves, and p and q are what their clauses say of the two results.
use mathlib.Core.Path.{refl, ◌∙⁻¹◌}
use Rattle.laws.specs.Uniqueness.{AllowsOne}
use Rattle.laws.proofs.Contracts.{◌&◌, skip}
use Rattle.answers.proofs.Apart.{same_writing, same_reading}
use Rattle.terminal.proofs.lines.write_query_line as query-line
use Rattle.terminal.proofs.lines.read_response_line as response-line

pub write_query_line_settled : AllowsOne query-line.Kinds.ps query-line.Kinds.r query-line.Reads.Post
write_query_line_settled κs a x y v w p q =
    (same_writing (p.0 ∙⁻¹ q.0) (p.1.0 ∙⁻¹ q.1.0), skip 2 (p.1.1 ∙⁻¹ q.1.1 & refl))

pub read_response_line_settled : AllowsOne response-line.Kinds.ps response-line.Kinds.r response-line.Reads.Post
read_response_line_settled κs a x y v w p q = (
  same_reading (p.0 ∙⁻¹ q.0) (p.1.0 ∙⁻¹ q.1.0) (p.1.1.0 ∙⁻¹ q.1.1.0),
  skip 1 (p.1.1.1 ∙⁻¹ q.1.1.1 & refl),
)
