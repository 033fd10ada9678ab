-- Two results that a contract allows for one input coincide: the table and the slab alike. It is said of the contracts
-- themselves, and p and q are what their clauses say of the two results.
use mathlib.Core.Path.{refl, ◌∙⁻¹◌}
use Rattle.laws.specs.Uniqueness.{AllowsOne}
use Rattle.laws.proofs.Contracts.{◌&◌, skip}
use Rattle.tickets.proofs.slots.take as taking
use Rattle.tickets.proofs.slots.close as closing

pub take_settled : AllowsOne taking.Kinds.ps taking.Kinds.r taking.Reads.Post
take_settled κs a x y v w p q = (p ∙⁻¹ q, refl)

pub close_settled : AllowsOne closing.Kinds.ps closing.Kinds.r closing.Reads.Post
close_settled κs a x y v w p q = (p.0 ∙⁻¹ q.0, skip 1 (p.1 ∙⁻¹ q.1 & refl))
