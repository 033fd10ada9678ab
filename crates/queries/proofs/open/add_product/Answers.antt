use Rattle.std.proofs.Common.{◌≡◌, ℕ, ◌+◌, ◌-◌, ◌*◌, ◌<◌, ◌≤◌, List, ◌∷◌, ◌++◌, length, get_or, take, drop, sym, ap, ◌∙◌, inl, inr, arith, zero-mul, length-drop}
use native.Mathlib.Decide.{dec_lt}
use lib.Seq.{get_or-drop}
use Rattle.std.proofs.lemmas.List.{drop-drop, drop_at, take_at, length_push}
use Rattle.laws.specs.Lists.{row}
use Rattle.laws.proofs.Lists.{room}
use Rattle.queries.proofs.open.Noise.{none_added, row_added, all_added}
use Rattle.queries.proofs.open.add_product.Goals as goal

-- what a turn takes from the words and the rows that are left: word n, and row n
module _ (n r : ℕ) (s m : List ℕ) where
  pub record Taken (x : ℕ) (words ys left : List ℕ) : Type 0 where
    pub inside : n < length s
    pub word : x ≡ get_or s n 0
    pub words_left : words ≡ drop (n + 1) s
    pub row_is : ys ≡ row r m n
    pub rows_left : left ≡ drop ((n + 1) * r) m

  took : (x : ℕ) (words ys left : List ℕ) → drop n s ≡ x ∷ words → drop (n * r) m ≡ ys ++ left → length ys ≡ r → Taken x words ys left
  took x words ys left p q long =
      let next : n * r + r ≡ (n + 1) * r = omega arith in
      let none : n + 0 ≡ n = omega arith in
      record {
        inside = omega (arith, ap length p, length-drop n s);
        word = ap (λ l. get_or l 0 0) (sym p) ∙ get_or-drop n s 0 0 ∙ ap (λ (k : ℕ). get_or s k 0) none;
        words_left = ap (drop 1) (sym p) ∙ drop-drop 1 n s;
        row_is = sym (take_at ys left r long) ∙ ap (take r) (sym q);
        rows_left = sym (drop_at ys left r long) ∙ ap (drop r) (sym q) ∙ drop-drop r (n * r) m ∙ ap (λ (k : ℕ). drop k m) next;
      }

-- less than a row is left: all rows came
all_came : (n r k : ℕ) → n ≤ k → k * r - n * r < r → n ≡ k
all_came n r k h e = elim (dec_lt n k) [ yes l ↦ absurd (omega (arith, room n k r l)) | no g ↦ omega arith ]

pub loop-x-init : goal.loop-x-init
loop-x-init c =
    let a = c.args in (
      omega arith,
      cc,
      cc,
      rw (zero-mul (length a.error.now)) (cc),
      none_added a.secret.now a.matrix.now a.error.now (λ j. omega (arith, c.type_inv.error j)),
    )

pub loop-x-preserved : goal.loop-x-preserved
loop-x-preserved c =
    let a = c.args in
    let i = c.loop-x.invariant in
    let n = length c.loop-x.yielded in
    let r = length a.error.now in
    let h = c.in-Some.ensures.steps in
    let t = took n r a.secret.now a.matrix.now _ _ _ _ (sym i.1 ∙ h.0) (sym i.3 ∙ h.1.1.0) (h.1.1.1 ∙ i.2) in
    rw (length_push c.loop-x.yielded (c.in-Some.x, c.in-Some.row)) (
      omega (arith, t.inside),
      t.words_left,
      h.1.0 ∙ i.2,
      t.rows_left,
      (rw t.word at c.add_row.ensures)
          ∙ row_added a.secret.now a.matrix.now a.error.now r n _ _ i.4 t.row_is,
    )

pub returns : goal.returns
returns c =
    let a = c.args in
    let i = c.loop-x.invariant in
    let n = length c.loop-x.yielded in
    let r = length a.error.now in
    let k = length a.secret.now in
    let e : n ≡ k =
    elim c.in-None.ensures.steps [
      | inl p ↦ omega (arith, ap length i.1, length-drop n a.secret.now, p.1.0)
      | inr p ↦ all_came n r k i.0 (omega (arith, ap length i.3, length-drop (n * r) a.matrix.now, p.1.1.0, i.2))
    ] in
    (rw e at i.4) ∙ all_added a.secret.now a.matrix.now a.error.now k r
