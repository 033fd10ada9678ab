-- Lists made index by index and block by block: lengths, elements, parts.
use mathlib.Core.Path.{◌≡◌, refl, sym, ap, ap₂, ◌∙◌}
use mathlib.Core.List.{List, [], ◌∷◌, ◌++◌, append_assoc, append-nil}
use Prim.Native.Nat.{ℕ, zero, suc, ◌+◌, ◌*◌, ◌-◌, ◌<◌, ◌≤◌, min}
use native.Mathlib.Nat.{add-zero, add-suc, suc-mul, zero-mul, not-suc-le-zero, mul-le-mul_right}
use native.Mathlib.Numerals.{add-one}
use native.Mathlib.Omega.{arith}
use native.Mathlib.Decide.{dec_le, dec_lt}
use lib.ListN.{length, get_or, take, drop, replicate, length-append, length-take, length-drop, get_or-append}
use Rattle.std.specs.Prelude.{slice_index_or}
use Rattle.std.specs.Simd.{first_chunks}
use lib.Seq.{drop-drop, get_or_at, get_or-take, get_or-drop, ext_get_or, take-append-le, drop-append-le, drop_at, take_all}
use Rattle.laws.specs.Lists.{build, join, part, row}

-- the last of n blocks of k ends inside them
pub room : (j n k : ℕ) → j < n → j * k + k ≤ n * k
room j n k h = rw (← suc-mul j k) (mul-le-mul_right k h)

pub length_part : {A : Type 0} (at n : ℕ) (xs : List A) → at + n ≤ length xs → length (part at n xs) ≡ n
length_part at n xs h = omega (arith, length-take n (drop at xs), length-drop at xs)

pub get_d_part : {A : Type 0} (at n : ℕ) (xs : List A) (i : ℕ) (d : A) → i < n → get_or (part at n xs) i d ≡ get_or xs (at + i) d
get_d_part at n xs i d h = get_or-take n (drop at xs) i d h ∙ get_or-drop at xs i d

-- the same everywhere, past the end too
pub get_or_uniform : {A : Type 0} (n i : ℕ) (d : A) → get_or (replicate n d) i d ≡ d
get_or_uniform zero i d = refl
get_or_uniform (suc n) zero d = refl
get_or_uniform (suc n) (suc i) d = get_or_uniform n i d

-- row j, lent from where it starts to where it ends
pub row_lent : {A : Type 0} (k j : ℕ) (m : List A) → part (j * k) (j * k + k - j * k) m ≡ row k m j
row_lent k j m = let e : j * k + k - j * k ≡ k = omega arith in rw e

pub length-row : {A : Type 0} (k n j : ℕ) (m : List A) → n * k ≤ length m → j < n → length (row k m j) ≡ k
length-row k n j m h l = length_part (j * k) k m (omega (arith, room j n k l))

-- a list cut into n chunks of k has row s as its chunk s
pub chunk_row : {A : Type 0} (k n s : ℕ) (xs : List A) → s < n → slice_index_or (first_chunks k n xs) s [] ≡ row k xs s
chunk_row k zero s xs h = absurd (omega arith)
chunk_row k (suc n) zero xs h = sym (ap (λ m. take k (drop m xs)) (zero-mul k))
chunk_row k (suc n) (suc s) xs h =
    chunk_row k n s (drop k xs) (omega arith)
    ∙ ap (take k) (drop-drop (s * k) k xs ∙ ap (λ m. drop m xs) (omega arith))

-- a part that runs past the end is what is left
pub part_short : {A : Type 0} (at n : ℕ) (xs : List A) → at ≤ length xs → part at (min (at + n) (length xs) - at) xs ≡ part at n xs
part_short at n xs h = elim (dec_le (at + n) (length xs)) [ yes l ↦ whole l | no g ↦ short (omega arith) ]
  where
    whole : at + n ≤ length xs → part at (min (at + n) (length xs) - at) xs ≡ part at n xs
    whole l = let e : min (at + n) (length xs) - at ≡ n = omega arith in rw e

    short : length xs < at + n → part at (min (at + n) (length xs) - at) xs ≡ part at n xs
    short g =
        take_all (min (at + n) (length xs) - at) (drop at xs) (omega (arith, length-drop at xs))
        ∙ sym (take_all n (drop at xs) (omega (arith, length-drop at xs)))

pub length-build : {A : Type 0} (n : ℕ) (f : ℕ → A) → length (build n f) ≡ n
unfolding build
length-build zero f = refl
length-build (suc n) f = length-append (build n f) (f n ∷ []) ∙ ap (λ (k : ℕ). k + 1) (length-build n f) ∙ add-one n

pub get_or-build : {A : Type 0} (n : ℕ) (f : ℕ → A) (i : ℕ) (d : A) → i < n → get_or (build n f) i d ≡ f i
unfolding build
get_or-build zero f i d h = absurd (not-suc-le-zero h)
get_or-build (suc n) f i d h = elim (dec_lt i n) [ yes l ↦ before l (get_or-build n f i d l) | no g ↦ at (omega arith) ]
  where
    before : i < n → get_or (build n f) i d ≡ f i → get_or (build n f ++ (f n ∷ [])) i d ≡ f i
    before l ih =
        let k : i < length (build n f) = rw (length-build n f) l in
        get_or-append (build n f) (f n ∷ []) d i k ∙ ih

    at : n ≡ i → get_or (build n f ++ (f n ∷ [])) i d ≡ f i
    at e = get_or_at (build n f) (f n) [] d i (length-build n f ∙ e) ∙ ap f e

pub build_ext : {A : Type 0} (n : ℕ) (f g : ℕ → A) → ((i : ℕ) → i < n → f i ≡ g i) → build n f ≡ build n g
unfolding build
build_ext zero f g h = refl
build_ext (suc n) f g h =
    ap₂ (λ xs x. xs ++ (x ∷ [])) (build_ext n f g (λ i l. h i (omega arith))) (h n (omega arith))

-- a list, element by element
pub build-get_or : {A : Type 0} (xs : List A) (d : A) → build (length xs) (λ i. get_or xs i d) ≡ xs
build-get_or xs d =
    let n = length-build (length xs) (λ i. get_or xs i d) in
    ext_get_or d (build (length xs) (λ i. get_or xs i d)) xs n
    (λ i h. get_or-build (length xs) (λ i. get_or xs i d) i d (rw n at h))

-- a list whose elements are these
pub build-from : {A : Type 0} (n : ℕ) (f : ℕ → A) (xs : List A) (d : A) → length xs ≡ n → ((i : ℕ) → i < n → get_or xs i d ≡ f i)
    → xs ≡ build n f
build-from n f xs d len h =
    sym (build-get_or xs d)
    ∙ ap (λ (k : ℕ). build k (λ i. get_or xs i d)) len
    ∙ build_ext n (λ i. get_or xs i d) f h

-- m elements, and then n more
pub build-add : {A : Type 0} (m n : ℕ) (f : ℕ → A) → build (m + n) f ≡ build m f ++ build n (λ i. f (m + i))
unfolding build
build-add m zero f = rw add-zero (sym (append-nil (build m f)))
build-add m (suc n) f =
    rw add-suc
    (ap (λ xs. xs ++ (f (m + n) ∷ [])) (build-add m n f)
    ∙ append_assoc (build m f) (build n (λ i. f (m + i))) (f (m + n) ∷ []))

pub join_ext : {A : Type 0} (n : ℕ) (f g : ℕ → List A) → ((j : ℕ) → j < n → f j ≡ g j) → join n f ≡ join n g
unfolding join
join_ext zero f g h = refl
join_ext (suc n) f g h = ap₂ ◌++◌ (join_ext n f g (λ j l. h j (omega arith))) (h n (omega arith))

-- m blocks, and then n more
pub join-add : {A : Type 0} (m n : ℕ) (f : ℕ → List A) → join (m + n) f ≡ join m f ++ join n (λ i. f (m + i))
unfolding join
join-add m zero f = rw add-zero (sym (append-nil (join m f)))
join-add m (suc n) f =
    rw add-suc
    (ap (λ xs. xs ++ f (m + n)) (join-add m n f) ∙ append_assoc (join m f) (join n (λ i. f (m + i))) (f (m + n)))

-- n blocks, each of k elements
module _ {A : Type 0} (k : ℕ) (f : ℕ → List A) where
  pub length-join : (n : ℕ) → ((j : ℕ) → j < n → length (f j) ≡ k) → length (join n f) ≡ n * k
  unfolding join
  length-join zero h = sym (zero-mul k)
  length-join (suc n) h =
      length-append (join n f) (f n)
      ∙ ap₂ ◌+◌ (length-join n (λ j l. h j (omega arith))) (h n (omega arith))
      ∙ sym (suc-mul n k)

  -- row j of the blocks is block j
  pub row-join : (n : ℕ) → ((j : ℕ) → j < n → length (f j) ≡ k) → (j : ℕ) → j < n → row k (join n f) j ≡ f j
  unfolding join
  row-join zero h j l = absurd (not-suc-le-zero l)
  row-join (suc n) h j l =
      elim (dec_lt j n) [ yes m ↦ before m (row-join n (λ i q. h i (omega arith)) j m) | no g ↦ last (omega arith) ]
    where
      len : length (join n f) ≡ n * k
      len = length-join n (λ i q. h i (omega arith))

      before : j < n → row k (join n f) j ≡ f j → row k (join n f ++ f n) j ≡ f j
      before m ih =
          let r : j * k + k ≤ n * k = room j n k m in
          ap (take k) (drop-append-le (j * k) (join n f) (f n) (omega (arith, len)))
          ∙ take-append-le k (drop (j * k) (join n f)) (f n) (omega (arith, len, length-drop (j * k) (join n f)))
          ∙ ih

      last : n ≡ j → row k (join n f ++ f n) j ≡ f j
      last e =
          ap (λ (i : ℕ). row k (join n f ++ f n) i) (sym e)
          ∙ ap (take k) (drop_at (join n f) (f n) (n * k) len)
          ∙ take_all k (f n) (omega (arith, h n (omega arith)))
          ∙ ap f e

-- blocks of k elements, each made index by index, are one list made so
pub join-build : {A : Type 0} (k n : ℕ) (f : ℕ → A) → join n (λ j. build k (λ i. f (j * k + i))) ≡ build (n * k) f
unfolding join build
join-build k zero f = rw (zero-mul k)
join-build k (suc n) f =
    rw (suc-mul n k) (ap (λ xs. xs ++ build k (λ i. f (n * k + i))) (join-build k n f) ∙ sym (build-add (n * k) k f))

-- a part, made index by index
pub build-part : {A : Type 0} (at n : ℕ) (xs : List A) (d : A) → at + n ≤ length xs → build n (λ i. get_or xs (at + i) d) ≡ part at n xs
build-part at n xs d h =
    let len = length-build n (λ i. get_or xs (at + i) d) in
    ext_get_or d (build n (λ i. get_or xs (at + i) d)) (part at n xs) (len ∙ sym (length_part at n xs h))
    (λ i l.
    let k : i < n = omega arith in
    get_or-build n (λ j. get_or xs (at + j) d) i d k ∙ sym (get_d_part at n xs i d k))
