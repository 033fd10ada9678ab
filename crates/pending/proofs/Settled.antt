-- Two results that a contract allows for one input coincide: the answer and the table alike. It is said of the contracts
-- themselves, and p and q are what their clauses say of the two results.
use Rattle.std.proofs.Common.{◌≡◌, Result, Ok, Err, IfOk, refl, ap, arith}
use mathlib.Core.Path.{sym, ◌∙◌, ◌∙⁻¹◌}
use mathlib.Core.Bool.{true≢false}
use Rattle.std.specs.Option.{option_map}
use Rattle.laws.specs.Uniqueness.{AllowsOne, TellsOne}
use Rattle.laws.proofs.Contracts.{same_told}
use Rattle.client_answers.specs.declared.table.MakingRefusal.{MakingRefusal}
use Rattle.client_answers.specs.declared.table.MakingRefusal.TheVariants as making
use Rattle.client_answers.specs.Table.{making_number}
use Rattle.pending.specs.declared.table.Table.{Table}
use Rattle.pending.proofs.table.fresh as fresh
use Rattle.pending.proofs.table.Table.slab_bad as slab-bad
use Rattle.pending.proofs.table.Table.is_malformed as is-malformed
use Rattle.pending.proofs.table.Table.find as find
use Rattle.pending.proofs.table.Table.slot_of as slot_of
use Rattle.pending.proofs.table.Table.is_pending as is-pending
use Rattle.pending.proofs.table.Table.pending_slot as pending-slot
use Rattle.pending.proofs.table.Table.digest_pending as digest-pending
use Rattle.pending.proofs.table.Table.differs_at as differs_at

-- answers of one number, and of one table where they bring one, are one
same_making : (x y : Result Table MakingRefusal) (t : Table) → making_number x ≡ making_number y → IfOk x (λ u. u ≡ t)
    → IfOk y (λ u. u ≡ t) → x ≡ y
same_making (Ok u) (Ok v) t e p q = ap Ok (p ∙⁻¹ q)
same_making (Ok u) (Err making.Width) t e p q = absurd (omega arith)
same_making (Ok u) (Err making.Shape) t e p q = absurd (omega arith)
same_making (Err making.Width) (Ok v) t e p q = absurd (omega arith)
same_making (Err making.Shape) (Ok v) t e p q = absurd (omega arith)
same_making (Err making.Width) (Err making.Width) t e p q = refl
same_making (Err making.Width) (Err making.Shape) t e p q = absurd (omega arith)
same_making (Err making.Shape) (Err making.Width) t e p q = absurd (omega arith)
same_making (Err making.Shape) (Err making.Shape) t e p q = refl

pub fresh_settled : AllowsOne fresh.Kinds.ps fresh.Kinds.r fresh.Reads.Post
fresh_settled κs a x y v w p q = (same_making x y _ (p.0 ∙⁻¹ q.0) p.1 q.1, refl)

pub slab_bad_settled : AllowsOne slab-bad.Kinds.ps slab-bad.Kinds.r slab-bad.Reads.Post
slab_bad_settled κs a x y v w p q = (p ∙⁻¹ q, refl)

pub is_malformed_settled : AllowsOne is-malformed.Kinds.ps is-malformed.Kinds.r is-malformed.Reads.Post
is_malformed_settled κs a x y v w p q = (p ∙⁻¹ q, refl)

-- a slot is its index: that it is one of the 64 is a fact of its type
pub find_settled : TellsOne find.Kinds.ps find.Kinds.r find.Reads.Post (λ κs s. option_map (λ t. t.index) s)
find_settled κs a x y v w p q =
    (same_told (λ t. t.index) (λ e t f. omega (arith, e, f, t.within)) (λ t u f g. f ∙⁻¹ g) x y p q, refl)

pub slot_of_settled : AllowsOne slot_of.Kinds.ps slot_of.Kinds.r slot_of.Reads.Post
slot_of_settled κs a x y v w p q = (p ∙⁻¹ q, refl)

pub is_pending_settled : AllowsOne is-pending.Kinds.ps is-pending.Kinds.r is-pending.Reads.Post
is_pending_settled κs a x y v w p q = (p ∙⁻¹ q, refl)

pub pending_slot_settled : TellsOne pending-slot.Kinds.ps pending-slot.Kinds.r pending-slot.Reads.Post (λ κs s. option_map (λ t. t.index) s)
pending_slot_settled κs a x y v w p q =
    (same_told (λ t. t.index) (λ e t f. true≢false (sym f.0 ∙ e)) (λ t u f g. f.1 ∙⁻¹ g.1) x y p q, refl)

pub digest_pending_settled : AllowsOne digest-pending.Kinds.ps digest-pending.Kinds.r digest-pending.Reads.Post
digest_pending_settled κs a x y v w p q = (p ∙⁻¹ q, refl)

pub differs_at_settled : AllowsOne differs_at.Kinds.ps differs_at.Kinds.r differs_at.Reads.Post
differs_at_settled κs a x y v w p q = (p ∙⁻¹ q, refl)
