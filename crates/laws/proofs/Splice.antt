-- One list written over a part of another: its length, its elements, and its rows, where the part is a row.
use mathlib.Core.Path.{◌≡◌, sym, ap, ◌∙◌}
use mathlib.Core.List.{List, ◌++◌, append_assoc}
use Prim.Native.Nat.{ℕ, ◌+◌, ◌*◌, ◌<◌, ◌≤◌}
use native.Mathlib.Nat.{le_dest}
use native.Mathlib.Omega.{arith}
use native.Mathlib.Decide.{dec_lt}
use lib.ListN.{length, get_or, take, drop, length-append, length-drop, take-append-drop, get_or-append}
use lib.Seq.{get_or-append-add, get_or-take, get_or-drop, length-take-le, take-append-le, drop-append-le, drop-append-add, drop-drop, take_at, drop_at}
use lib.Arith.{digits_lt}
use Rattle.laws.specs.Lists.{part, row, splice}
use Rattle.laws.proofs.Lists.{room}

module _ {A : Type 0} (at : ℕ) (ys xs : List A) (fits : at + length ys ≤ length xs) where
  front : length (take at xs) ≡ at
  front = length-take-le at xs (omega arith)

  pub length-splice : length (splice at ys xs) ≡ length xs
  unfolding splice
  length-splice =
      omega (
        arith,
        front,
        length-append (take at xs) (ys ++ drop (at + length ys) xs),
        length-append ys (drop (at + length ys) xs),
        length-drop (at + length ys) xs,
      )

  -- past the front
  past : (d : A) (i : ℕ) → get_or (splice at ys xs) (at + i) d ≡ get_or (ys ++ drop (at + length ys) xs) i d
  unfolding splice
  past d i =
      ap (λ (k : ℕ). get_or (take at xs ++ (ys ++ drop (at + length ys) xs)) (k + i) d) (sym front)
      ∙ get_or-append-add (take at xs) (ys ++ drop (at + length ys) xs) i d

  pub splice_in : (d : A) (i : ℕ) → i < length ys → get_or (splice at ys xs) (at + i) d ≡ get_or ys i d
  splice_in d i h = past d i ∙ get_or-append ys (drop (at + length ys) xs) d i h

  pub splice_before : (d : A) (i : ℕ) → i < at → get_or (splice at ys xs) i d ≡ get_or xs i d
  unfolding splice
  splice_before d i h =
      get_or-append (take at xs) (ys ++ drop (at + length ys) xs) d i (omega (arith, front)) ∙ get_or-take at xs i d h

  pub splice_after : (d : A) (i : ℕ) → at + length ys ≤ i → get_or (splice at ys xs) i d ≡ get_or xs i d
  splice_after d i h =
      let w = le_dest {n = at + length ys} {m = i} h in
      let e : at + (length ys + w.0) ≡ i = omega (arith, w.1) in
      rw (← e)
      (past d (length ys + w.0)
      ∙ get_or-append-add ys (drop (at + length ys) xs) w.0 d
      ∙ get_or-drop (at + length ys) xs w.0 d
      ∙ ap (λ (k : ℕ). get_or xs k d) (omega arith))

  -- what lies past the part that was written over
  drop_past : (i : ℕ) → drop (at + length ys + i) (splice at ys xs) ≡ drop (at + length ys + i) xs
  unfolding splice
  drop_past i =
      let n : length (take at xs ++ ys) ≡ at + length ys = omega (arith, front, length-append (take at xs) ys) in
      ap (drop (at + length ys + i)) (sym (append_assoc (take at xs) ys (drop (at + length ys) xs)))
      ∙ ap (λ (j : ℕ). drop (j + i) (take at xs ++ ys ++ drop (at + length ys) xs)) (sym n)
      ∙ drop-append-add (take at xs ++ ys) (drop (at + length ys) xs) i
      ∙ drop-drop i (at + length ys) xs

-- a part of the first of two lists
part_front : {A : Type 0} (at n : ℕ) (xs ys : List A) → at + n ≤ length xs → part at n (xs ++ ys) ≡ part at n xs
part_front at n xs ys h =
    ap (take n) (drop-append-le at xs ys (omega arith))
    ∙ take-append-le n (drop at xs) ys (omega (arith, length-drop at xs))

-- row k of a matrix of c columns, written over
module _ {A : Type 0} (c k : ℕ) (ys xs : List A) (fits : k * c + c ≤ length xs) (full : length ys ≡ c) where
  inside : k * c + length ys ≤ length xs
  inside = omega arith

  pub row_same : (d : A) (j : ℕ) → j < c → get_or (splice (k * c) ys xs) (k * c + j) d ≡ get_or ys j d
  row_same d j h = splice_in (k * c) ys xs inside d j (omega arith)

  pub row_other : (d : A) (q j : ℕ) → j < c → ¬ (q ≡ k) → get_or (splice (k * c) ys xs) (q * c + j) d ≡ get_or xs (q * c + j) d
  row_other d q j h n =
      elim (dec_lt q k) [
        | yes l ↦ splice_before (k * c) ys xs inside d (q * c + j) (digits_lt l h)
        | no g ↦ after (omega arith)
      ]
    where
      after : k < q → get_or (splice (k * c) ys xs) (q * c + j) d ≡ get_or xs (q * c + j) d
      after l = splice_after (k * c) ys xs inside d (q * c + j) (omega (arith, room k q c l))

  -- the row is what was written, and each other row is as it was
  pub row_replaced : row c (splice (k * c) ys xs) k ≡ ys
  unfolding splice
  row_replaced =
      ap (take c) (drop_at (take (k * c) xs) (ys ++ drop (k * c + length ys) xs) (k * c) (front (k * c) ys xs inside))
      ∙ take_at ys (drop (k * c + length ys) xs) c full

  pub row_kept : (q : ℕ) → ¬ (q ≡ k) → row c (splice (k * c) ys xs) q ≡ row c xs q
  unfolding splice
  row_kept q n = elim (dec_lt q k) [ yes l ↦ before l | no g ↦ after (omega arith) ]
    where
      before : q < k → row c (splice (k * c) ys xs) q ≡ row c xs q
      before l =
          let h : q * c + c ≤ length (take (k * c) xs) = omega (arith, front (k * c) ys xs inside, room q k c l) in
          part_front (q * c) c (take (k * c) xs) (ys ++ drop (k * c + length ys) xs) h
          ∙ sym (part_front (q * c) c (take (k * c) xs) (drop (k * c) xs) h)
          ∙ ap (λ l. row c l q) (take-append-drop (k * c) xs)

      after : k < q → row c (splice (k * c) ys xs) q ≡ row c xs q
      after l =
          let w = le_dest {n = k * c + length ys} {m = q * c} (omega (arith, room k q c l)) in
          ap (take c) (rw (← w.1) (drop_past (k * c) ys xs inside w.0))
