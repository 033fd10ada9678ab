-- The four bytes from 1 + 4q on, as a word.
use mathlib.Core.Path.{◌≡◌, ap, ◌∙◌}
use mathlib.Core.List.{List, [], ◌∷◌}
use Prim.Native.Nat.{ℕ, ◌+◌, ◌*◌}
use native.Mathlib.Omega.{arith}
use lib.ListN.{get_or, drop}
use lib.Seq.{get_or-drop}
use Rattle.laws.specs.Sums.{sum}
use Rattle.plain.specs.Bytes.{word_at}
use Rattle.frames.specs.Lines.{unhex}
use Rattle.frames.proofs.lines.Text.word.Goals as goal

-- a word after the first byte
after_first : (xs : List ℕ) (q x0 x1 x2 x3 : ℕ) → let at : ℕ = 1 + q * 4 in
    x0 ≡ get_or xs at 0 → x1 ≡ get_or xs (at + 1) 0 → x2 ≡ get_or xs (at + 2) 0 → x3 ≡ get_or xs (at + 3) 0
    → word_at (x0 ∷ x1 ∷ x2 ∷ x3 ∷ []) 0 ≡ word_at (drop 1 xs) q
unfolding word_at sum
after_first xs q x0 x1 x2 x3 e0 e1 e2 e3 = omega (arith, at 0, at 1, at 2, at 3, ap (λ (k : ℕ). get_or xs k 0) zeroth)
  where
    at : (i : ℕ) → get_or (drop 1 xs) (q * 4 + i) 0 ≡ get_or xs (1 + q * 4 + i) 0
    at i = get_or-drop 1 xs (q * 4 + i) 0 ∙ ap (λ (k : ℕ). get_or xs k 0) (omega arith)

    zeroth : 1 + q * 4 + 0 ≡ 1 + q * 4
    zeroth = omega arith

pub returns : goal.returns
returns c =
    c.word_of.ensures
    ∙ after_first (unhex c.args.self.now.line.now) c.args.q _ _ _ _ c.byte.ensures c.byte-2.ensures c.byte-3.ensures c.byte-4.ensures
