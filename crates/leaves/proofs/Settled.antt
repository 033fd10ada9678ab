-- Two results that a leaf's own contract allows for one input coincide: what is answered, and what is written, is a definition's
-- value.
use mathlib.Core.Path.{refl, sym, ◌∙◌, ◌∙⁻¹◌}
use mathlib.Core.Bool.{true≢false}
use Rattle.std.specs.Option.{option_map}
use denote.RattleType.{RattleType}
use denote.Struct.Field.{u8-field}
use mir.Syntax.{Dict}
use Rattle.std.specs.declared.clone.Clone.{Ghosts}
use denote.Param.Laws.{Laws, IsCopy}
use Rattle.laws.specs.Uniqueness.{AllowsOne, TellsOne}
use Rattle.laws.proofs.Contracts.{◌&◌, skip, same_told}
use Rattle.leaves.proofs.limits.out_of
use Rattle.leaves.proofs.limits.width_bad
use Rattle.leaves.proofs.limits.any_above
use Rattle.leaves.proofs.positions.positions_bad
use Rattle.leaves.proofs.digests.digest_differs
use Rattle.leaves.proofs.interval.Interval.new as interval
use Rattle.leaves.proofs.rounding.calculate_query_indicator as indicator
use Rattle.leaves.proofs.rounding.modulus
use Rattle.leaves.proofs.rounding.rounded
use Rattle.leaves.proofs.width.Width.new as width
use Rattle.leaves.proofs.width.Width.modulus as width_modulus
use Rattle.leaves.proofs.width.Width.greatest as width_greatest
use Rattle.leaves.proofs.width.Width.delta as width_delta
use Rattle.leaves.proofs.words.copy
use Rattle.leaves.proofs.words.wrapping_mul
use Rattle.leaves.proofs.words.zero

pub out_of_settled : AllowsOne out_of.Kinds.ps out_of.Kinds.r out_of.Reads.Post
out_of_settled κs a x y v w p q = (p ∙⁻¹ q, refl)

pub width_bad_settled : AllowsOne width_bad.Kinds.ps width_bad.Kinds.r width_bad.Reads.Post
width_bad_settled κs a x y v w p q = (p ∙⁻¹ q, refl)

pub any_above_settled : AllowsOne any_above.Kinds.ps any_above.Kinds.r any_above.Reads.Post
any_above_settled κs a x y v w p q = (p ∙⁻¹ q, refl)

pub positions_bad_settled : AllowsOne positions_bad.Kinds.ps positions_bad.Kinds.r positions_bad.Reads.Post
positions_bad_settled κs a x y v w p q = (p ∙⁻¹ q, refl)

pub digest_differs_settled : AllowsOne digest_differs.Kinds.ps digest_differs.Kinds.r digest_differs.Reads.Post
digest_differs_settled κs a x y v w p q = (p ∙⁻¹ q, refl)

pub calculate_query_indicator_settled : AllowsOne indicator.Kinds.ps indicator.Kinds.r indicator.Reads.Post
calculate_query_indicator_settled κs a x y v w p q = (p ∙⁻¹ q, refl)

pub modulus_settled : AllowsOne modulus.Kinds.ps modulus.Kinds.r modulus.Reads.Post
modulus_settled κs a x y v w p q = (p ∙⁻¹ q, refl)

pub rounded_settled : AllowsOne rounded.Kinds.ps rounded.Kinds.r rounded.Reads.Post
rounded_settled κs a x y v w p q = (p ∙⁻¹ q, refl)

pub wrapping_mul_settled : AllowsOne wrapping_mul.Kinds.ps wrapping_mul.Kinds.r wrapping_mul.Reads.Post
wrapping_mul_settled κs a x y v w p q = (p ∙⁻¹ q, refl)

pub zero_settled : AllowsOne zero.Kinds.ps zero.Kinds.r zero.Reads.Post
zero_settled κs a x y v w p q = (refl, p ∙⁻¹ q & refl)

-- of elements of every type at once
pub copy_settled : (T : RattleType) (t : Laws T) (c : IsCopy T) (g : Ghosts T.Denot) (d : Dict)
    → AllowsOne (copy.Kinds.ps T t c) (copy.Kinds.r T t c) (copy.Reads.Post T t c g d)
copy_settled T t c g d κs a x y v w p q = (refl, skip 1 (p ∙⁻¹ q & refl))

-- and of bytes
pub copy_bytes_settled : (t : Laws u8-field.row) (c : IsCopy u8-field.row) (g : Ghosts (u8-field.row).Denot) (d : Dict)
    → AllowsOne (copy.Kinds.ps u8-field.row t c) (copy.Kinds.r u8-field.row t c) (copy.Reads.Post u8-field.row t c g d)
copy_bytes_settled = copy_settled u8-field.row

pub width_modulus_settled : AllowsOne width_modulus.Kinds.ps width_modulus.Kinds.r width_modulus.Reads.Post
width_modulus_settled κs a x y v w p q = (p ∙⁻¹ q, refl)

pub width_greatest_settled : AllowsOne width_greatest.Kinds.ps width_greatest.Kinds.r width_greatest.Reads.Post
width_greatest_settled κs a x y v w p q = (p ∙⁻¹ q, refl)

pub width_delta_settled : AllowsOne width_delta.Kinds.ps width_delta.Kinds.r width_delta.Reads.Post
width_delta_settled κs a x y v w p q = (p ∙⁻¹ q, refl)

-- a width is its bits, and an interval its value: that they are within their limits is a fact of their types
pub width_settled : TellsOne width.Kinds.ps width.Kinds.r width.Reads.Post (λ κs w. option_map (λ t. t.bits) w)
width_settled κs a x y v w p q =
    (same_told (λ t. t.bits) (λ e t f. true≢false (sym e ∙ f.1)) (λ t u f g. f.0 ∙⁻¹ g.0) x y p q, refl)

pub interval_settled : TellsOne interval.Kinds.ps interval.Kinds.r interval.Reads.Post (λ κs i. option_map (λ t. t.value) i)
interval_settled κs a x y v w p q =
    (same_told (λ t. t.value) (λ e t f. true≢false (sym e ∙ f.1)) (λ t u f g. f.0 ∙⁻¹ g.0) x y p q, refl)
