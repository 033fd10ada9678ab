-- The invariant of loops that fill a buffer from its start, a word or a row at a time, and what each store makes of it.
use mathlib.Core.Path.{◌≡◌, refl, sym, ap, ap₂, ◌∙◌}
use mathlib.Core.List.{List, [], ◌∷◌, ◌++◌, append_assoc, append-nil}
use Prim.Native.Nat.{ℕ, ◌+◌, ◌*◌, ◌-◌, ◌<◌, ◌≤◌}
use native.Mathlib.Nat.{add-zero}
use native.Mathlib.Numerals.{add-one}
use native.Mathlib.Omega.{arith}
use lib.ListN.{length, get_or, set, take, drop, length-append, length-drop, drop_of_length-le}
use lib.Seq.{set_split, drop-drop, take_at, drop-append-add, get_or-append-add, get_or-drop}
use borrow.Rule.Slice.PartMut.{put_mid}
use Rattle.laws.specs.Lists.{build, join, splice, laid}
use Rattle.laws.proofs.Lists.{room, length-build, length-join}

-- a store is a splice of one element
set-splice : {A : Type 0} (xs : List A) (n : ℕ) (x : A) → n < length xs → set xs n x ≡ splice n (x ∷ []) xs
unfolding splice
set-splice xs n x h = set_split xs n x h ∙ ap (λ (i : ℕ). take n xs ++ (x ∷ drop i xs)) (sym (add-one n))

-- a part that was lent and came back is a splice
pub put_splice : {A : Type 0} (a d : ℕ) (xs ys : List A) → d ≡ length ys → put_mid a d xs ys ≡ splice a ys xs
unfolding splice
put_splice a d xs ys h =
    ap (λ l. take a xs ++ (ys ++ l)) (drop-drop d a xs ∙ ap (λ (i : ℕ). drop (a + i) xs) h)

-- xs stands at the start of a buffer, whose rest is as it was
pub record Filled {A : Type 0} (xs old new : List A) : Type 0 where
  pub long : length new ≡ length old
  pub laid_is : new ≡ laid xs old

module _ {A : Type 0} where
  -- nothing is written yet
  pub filled_none : (old : List A) → Filled [] old old
  unfolding laid
  filled_none old = record { long = refl; laid_is = refl }

  -- nothing is left of what the buffer held
  pub laid_whole : (xs old : List A) → length old ≤ length xs → laid xs old ≡ xs
  unfolding laid
  laid_whole xs old h = ap (λ l. xs ++ l) (drop_of_length-le old h) ∙ append-nil xs

  pub filled_whole : {xs old new : List A} → Filled xs old new → length old ≤ length xs → new ≡ xs
  filled_whole {xs} {old} p h = p.laid_is ∙ laid_whole xs old h

  -- the first element past what was written is as it was
  pub filled_next : (xs old new : List A) (n : ℕ) (d : A) → Filled xs old new → length xs ≡ n → get_or new n d ≡ get_or old n d
  unfolding laid
  filled_next xs old new n d p h =
      rw (← h)
      (ap (λ l. get_or l (length xs) d) p.laid_is
      ∙ ap (λ (k : ℕ). get_or (xs ++ drop (length xs) old) k d) (sym (add-zero (length xs)))
      ∙ get_or-append-add xs (drop (length xs) old) 0 d
      ∙ get_or-drop (length xs) old 0 d
      ∙ ap (λ (k : ℕ). get_or old k d) (add-zero (length xs)))

  -- what was written is read back from the start
  pub take-laid : (xs old : List A) (n : ℕ) → length xs ≡ n → take n (laid xs old) ≡ xs
  unfolding laid
  take-laid xs old n h = take_at xs (drop (length xs) old) n h

  length-laid : (xs old : List A) → length xs ≤ length old → length (laid xs old) ≡ length old
  unfolding laid
  length-laid xs old h = omega (arith, length-append xs (drop (length xs) old), length-drop (length xs) old)

  -- what is spliced in where the written start ends makes that start longer
  laid_more : (xs ys old : List A) (n : ℕ) → length xs ≡ n → splice n ys (laid xs old) ≡ laid (xs ++ ys) old
  unfolding laid splice
  laid_more xs ys old n h =
      ap₂ (λ front rest. front ++ (ys ++ rest)) (take_at xs (drop (length xs) old) n h) rest
      ∙ sym (append_assoc xs ys (drop (length (xs ++ ys)) old))
    where
      rest : drop (n + length ys) (xs ++ drop (length xs) old) ≡ drop (length (xs ++ ys)) old
      rest =
          ap (λ (i : ℕ). drop (i + length ys) (xs ++ drop (length xs) old)) (sym h)
          ∙ drop-append-add xs (drop (length xs) old) (length ys)
          ∙ drop-drop (length ys) (length xs) old
          ∙ ap (λ (i : ℕ). drop i old) (sym (length-append xs ys))

  filled_more : (xs ys old new made : List A) (n : ℕ) → length xs ≡ n → n + length ys ≤ length old
      → Filled xs old new → made ≡ splice n ys new → Filled (xs ++ ys) old made
  filled_more xs ys old new made n hn h p e =
      let q : made ≡ laid (xs ++ ys) old = e ∙ ap (splice n ys) p.laid_is ∙ laid_more xs ys old n hn in
      record {
        long = ap length q ∙ length-laid (xs ++ ys) old (omega (arith, length-append xs ys));
        laid_is = q;
      }

  -- one element more, at the end of any list
  pub one_more : (xs : List A) (x : A) (old new : List A) (n : ℕ) → length xs ≡ n → n < length old → Filled xs old new
      → Filled (xs ++ (x ∷ [])) old (set new n x)
  one_more xs x old new n hn h p =
      filled_more xs (x ∷ []) old new (set new n x) n hn (omega arith) p (set-splice new n x (omega (arith, p.long)))

  -- one word more
  pub word_more : (f : ℕ → A) (n : ℕ) (old new : List A) → n < length old → Filled (build n f) old new
      → Filled (build (n + 1) f) old (set new n (f n))
  unfolding build
  word_more f n old new h p = rw (add-one n) (one_more (build n f) (f n) old new n (length-build n f) h p)

  -- the same of a word that is proved to be the next
  pub next_word : (f : ℕ → A) (n : ℕ) (x : A) (old new : List A) → x ≡ f n → n < length old → Filled (build n f) old new
      → Filled (build (n + 1) f) old (set new n x)
  next_word f n x old new e h p = rw e (word_more f n old new h p)

  -- a part more, lent from where the written start ends
  pub part_more : (xs ys old new : List A) (a d : ℕ) → length xs ≡ a → length ys ≡ d → a + d ≤ length old → Filled xs old new
      → Filled (xs ++ ys) old (put_mid a d new ys)
  part_more xs ys old new a d ha hd h p =
      filled_more xs ys old new (put_mid a d new ys) a ha (omega arith) p (put_splice a d new ys (sym hd))

-- one row more, of n rows of k elements that f makes
pub row_more : {A : Type 0} (n k : ℕ) (f : ℕ → List A) → ((j : ℕ) → j < n → length (f j) ≡ k)
    → (old new ys : List A) → n * k ≤ length old → (j : ℕ) → j < n → ys ≡ f j → Filled (join j f) old new
    → Filled (join (j + 1) f) old (put_mid (j * k) (j * k + k - j * k) new ys)
unfolding join
row_more n k f each old new ys fits j h hy p =
    let d : j * k + k - j * k ≡ k = omega arith in
    rw (add-one j, d, ← hy)
    (part_more (join j f) ys old new (j * k) k (length-join k f j (λ i l. each i (omega arith))) (ap length hy ∙ each j h)
    (omega (arith, room j n k h)) p)
