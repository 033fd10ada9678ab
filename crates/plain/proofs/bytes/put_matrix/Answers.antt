-- The dimensions' bytes, and then those of the words.
use Rattle.std.proofs.Common.{◌≡◌, ℕ, ◌+◌, ◌-◌, ◌*◌, ◌≤◌, List, [], ◌∷◌, ◌++◌, length, sym, refl, ap, ◌∙◌, ap₂, drop, arith}
use borrow.Rule.Slice.PartMut.{put_mid}
use Rattle.laws.specs.Lists.{laid}
use Rattle.laws.proofs.Filling.{filled_none, part_more}
use Rattle.plain.specs.Bytes.{all_bytes, matrix_bytes}
use Rattle.plain.proofs.bytes.Words.{length_bytes, bytes_append}
use Rattle.plain.proofs.bytes.put_matrix.Goals as goal

-- two parts, one after the other
both : (rows columns : ℕ) (words old ys zs : List ℕ) → 8 + 4 * length words ≤ length old
    → ys ≡ all_bytes (rows ∷ columns ∷ []) → zs ≡ all_bytes words
    → put_mid 8 (8 + 4 * length words - 8) (ys ++ drop 8 old) zs ≡ laid (matrix_bytes rows columns words) old
unfolding matrix_bytes
both rows columns words old ys zs fits hy hz =
    let n : length ys ≡ 8 = ap length hy ∙ length_bytes (rows ∷ columns ∷ []) in
    let m : length zs ≡ 8 + 4 * length words - 8 = omega (arith, ap length hz ∙ length_bytes words) in
    let low = part_more [] ys old old 0 8 refl n (omega arith) (filled_none old) in
    let all = part_more ys zs old (ys ++ drop 8 old) 8 (8 + 4 * length words - 8) n m (omega arith) low in
    all.laid_is
    ∙ ap (λ (xs : List ℕ). laid xs old) (ap₂ ◌++◌ hy hz ∙ sym (bytes_append (rows ∷ columns ∷ []) words))

pub returns : goal.returns
returns c =
    let x = c.args.matrix.now in
    both x.rows x.columns x.words.now c.args.out.now _ _ (omega (arith, c.requires, x.whole)) c.put_words.ensures c.put_words-2.ensures
