-- Both characters are digits.
use Rattle.std.proofs.Common.{◌≡◌, ℕ, ◌+◌, ◌*◌, ◌<◌, eqb, Option, Some, None, is_none, IfSome, sym, ◌∙◌, ap₂, arith, ne_eqb}
use Rattle.std.specs.Option.{IsSome}
use Rattle.frames.proofs.lines.Digits.{named_at}
use Rattle.frames.proofs.lines.Unhex.{byte_at}
use Rattle.frames.proofs.lines.Text.byte.Goals as goal

-- a digit is told, and as what it is
told : (o : Option ℕ) (v : ℕ) → is_none o ≡ eqb v 16 → v < 16 → IsSome o
told None v e h = let f = e ∙ ne_eqb v 16 (λ g. omega arith) in cc
told (Some d) v e h = cc

as_it_is : (o : Option ℕ) (d v : ℕ) → o ≡ Some d → IfSome o (λ d. (d ≡ v) × (d < 16)) → d ≡ v
as_it_is o d v e h = (rw e at h).0

pub unwrap-high-requires : goal.unwrap-high-requires
unwrap-high-requires c =
    let s = c.args.self.now in
    told _ _ c.digit_value.ensures.none (named_at s.line.now s.fine (c.args.i * 2) (omega arith)).small

pub unwrap-low-requires : goal.unwrap-low-requires
unwrap-low-requires c =
    let s = c.args.self.now in
    told _ _ c.digit_value-2.ensures.none (named_at s.line.now s.fine (c.args.i * 2 + 1) (omega arith)).small

pub returns : goal.returns
returns c =
    let high = as_it_is _ _ _ c.unwrap-high.ensures c.digit_value.ensures.some in
    let low = as_it_is _ _ _ c.unwrap-low.ensures c.digit_value-2.ensures.some in
    ap₂ (λ (x y : ℕ). x * 16 + y) high low ∙ sym (byte_at c.args.self.now.line.now c.args.i (omega arith))
