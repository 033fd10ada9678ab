-- Two stores fill two places.
use Rattle.std.proofs.Common.{◌≡◌, ℕ, List, [], ◌∷◌, length, set, refl, ◌∙◌, ap₂, arith}
use Rattle.frames.proofs.lines.put_byte_digits.Goals as goal

both : (xs : List ℕ) (a b : ℕ) → length xs ≡ 2 → set (set xs 0 a) 1 b ≡ a ∷ b ∷ []
both [] a b h = absurd (omega arith)
both (x ∷ []) a b h = absurd (omega arith)
both (x ∷ y ∷ []) a b h = refl
both (x ∷ y ∷ z ∷ xs) a b h = absurd (omega arith)

pub returns : goal.returns
returns c =
    both c.args.part.now _ _ c.requires
    ∙ ap₂ (λ (a b : ℕ). a ∷ b ∷ []) c.digit_of.ensures c.digit_of-2.ensures
