-- Two results that a contract allows for one input coincide: the answer and the output alike. It is said of the contracts
-- themselves, and p and q are what their clauses say of the two results.
use mathlib.Core.Path.{refl, ◌∙⁻¹◌}
use Rattle.laws.specs.Uniqueness.{AllowsOne}
use Rattle.laws.proofs.Contracts.{◌&◌, skip}
use Rattle.answers.proofs.Apart.{same_writing, same_reading}
use Rattle.frames.proofs.lines.write_line as write-line
use Rattle.frames.proofs.lines.read_line as read-line

pub write_line_settled : AllowsOne write-line.Kinds.ps write-line.Kinds.r write-line.Reads.Post
write_line_settled κs a x y v w p q =
    (same_writing (p.0 ∙⁻¹ q.0) (p.1.0 ∙⁻¹ q.1.0), skip 3 (p.1.1 ∙⁻¹ q.1.1 & refl))

pub read_line_settled : AllowsOne read-line.Kinds.ps read-line.Kinds.r read-line.Reads.Post
read_line_settled κs a x y v w p q = (
  same_reading (p.0 ∙⁻¹ q.0) (p.1.0 ∙⁻¹ q.1.0) (p.1.1.0 ∙⁻¹ q.1.1.0),
  skip 2 (p.1.1.1 ∙⁻¹ q.1.1.1 & refl),
)
