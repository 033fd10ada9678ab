-- Kind, numbers, words, and then LF.
use mathlib.Core.Path.{◌≡◌, refl, sym, ap, ap₂, ◌∙◌}
use mathlib.Core.List.{List, [], ◌∷◌, ◌++◌}
use Prim.Native.Nat.{ℕ, ◌+◌, ◌*◌, ◌-◌, ◌≤◌}
use native.Mathlib.Omega.{arith}
use lib.ListN.{length, set, drop, length-append}
use borrow.Rule.Slice.PartMut.{put_mid}
use Rattle.laws.specs.Lists.{join}
use Rattle.laws.proofs.Filling.{Filled, filled_none, part_more, one_more}
use Rattle.plain.specs.Bytes.{all_bytes}
use Rattle.frames.specs.Lines.{hex, frame, line_length}
use Rattle.frames.proofs.lines.Hex.{digits, length-hex_words}
use Rattle.frames.proofs.lines.Frame.{frame_parts}
use Rattle.frames.proofs.lines.put_frame.Goals as goal

-- four parts, one after the other
filled : (kind ticket : ℕ) (words old xs ys zs : List ℕ) → line_length (length words) ≤ length old
    → xs ≡ digits kind → ys ≡ hex (all_bytes (ticket ∷ 1 ∷ length words ∷ [])) → zs ≡ hex (all_bytes words)
    → let end = 26 + 8 * length words in
    Filled (frame kind ticket words) old (set (put_mid 26 (end - 26) (put_mid 2 24 (xs ++ drop 2 old) ys) zs) end 10)
unfolding hex join
filled kind ticket words old xs ys zs fits hx hy hz =
    let end = 26 + 8 * length words in
    let nx : length xs ≡ 2 = ap length hx in
    let ny : length ys ≡ 24 = ap length hy ∙ length-hex_words (ticket ∷ 1 ∷ length words ∷ []) in
    let nz : length zs ≡ end - 26 = omega (arith, ap length hz ∙ length-hex_words words) in
    let nxy : length (xs ++ ys) ≡ 26 = omega (arith, length-append xs ys) in
    let nxyz : length ((xs ++ ys) ++ zs) ≡ end = omega (arith, length-append (xs ++ ys) zs) in
    let one = part_more [] xs old old 0 2 refl nx (omega arith) (filled_none old) in
    let two = part_more xs ys old _ 2 24 nx ny (omega arith) one in
    let three = part_more (xs ++ ys) zs old _ 26 (end - 26) nxy nz (omega arith) two in
    let parts = ap₂ (λ (front rest : List ℕ). (front ++ rest) ++ (10 ∷ [])) (ap₂ ◌++◌ hx hy) hz ∙ sym (frame_parts kind ticket words) in
    rw parts at (one_more ((xs ++ ys) ++ zs) 10 old _ end nxyz (omega arith) three)

pub returns : goal.returns
returns c =
    let a = c.args in
    (filled a.kind a.ticket a.words.now a.out.now _ _ _ c.requires.1
    c.put_byte_digits.ensures c.put_words_digits.ensures c.put_words_digits-2.ensures).laid_is
