-- The record byte by byte. What stands before its padding says each byte: the padding is zero, as is what lies past it.
use mathlib.Core.Path.{◌≡◌, refl, sym, ap, ◌∙◌}
use mathlib.Core.List.{List, [], ◌∷◌, ◌++◌}
use Prim.Native.Nat.{ℕ, ◌+◌, ◌-◌, ◌/◌, ◌%◌, ◌^◌, ◌<◌, ◌≤◌}
use native.Mathlib.Omega.{arith}
use native.Mathlib.Decide.{dec_lt}
use lib.ListN.{length, get_or, drop, replicate, get_or-append, get_or-eq_default, length-append, length-replicate, get_or-replicate}
use lib.Seq.{get_or-append-add, get_or-drop}
use Rattle.laws.specs.Lists.{laid}
use Rattle.laws.specs.Bits.{bit_of, gathered}
use Rattle.laws.proofs.Bits.{gathered_ext}
use Rattle.rows.specs.Codec.{bytes_in, record_of}

-- digest, value and marker
abbrev pub marked : List ℕ → List ℕ → List ℕ
marked digest value = digest ++ (value ++ (129 ∷ []))

-- index i of what stands after n elements
after_first : (xs ys : List ℕ) (n i m : ℕ) → length xs ≡ n → n + i ≡ m → get_or (xs ++ ys) m 0 ≡ get_or ys i 0
after_first xs ys n i m h e =
    let k : length xs + i ≡ m = omega arith in
    ap (λ (p : ℕ). get_or (xs ++ ys) p 0) (sym k) ∙ get_or-append-add xs ys i 0

module _ (digest value : List ℕ) (h : length digest ≡ 32) where
  pub byte_digest : (m : ℕ) → m < 32 → get_or (marked digest value) m 0 ≡ get_or digest m 0
  byte_digest m l = get_or-append digest (value ++ (129 ∷ [])) 0 m (omega arith)

  byte_after : (i m : ℕ) → 32 + i ≡ m → get_or (marked digest value) m 0 ≡ get_or (value ++ (129 ∷ [])) i 0
  byte_after i m e = after_first digest (value ++ (129 ∷ [])) 32 i m h e

  pub byte_value : (i m : ℕ) → 32 + i ≡ m → i < length value → get_or (marked digest value) m 0 ≡ get_or value i 0
  byte_value i m e l = byte_after i m e ∙ get_or-append value (129 ∷ []) 0 i l

  pub byte_marker : (m : ℕ) → 32 + length value ≡ m → get_or (marked digest value) m 0 ≡ 129
  byte_marker m e = byte_after (length value) m e ∙ after_first value (129 ∷ []) (length value) 0 (length value) refl (omega arith)

  pub length_marked : length (marked digest value) ≡ 33 + length value
  length_marked = omega (arith, length-append digest (value ++ (129 ∷ [])), length-append value (129 ∷ []))

  pub byte_past : (m : ℕ) → 33 + length value ≤ m → get_or (marked digest value) m 0 ≡ 0
  byte_past m l = get_or-eq_default (marked digest value) 0 (omega (arith, length_marked))

-- n zeros, and nothing, read alike
zeros : (n m : ℕ) → ◌≡◌ {A = ℕ} (get_or (replicate n 0) m 0) 0
zeros n m =
    elim (dec_lt m n) [
      | yes l ↦ get_or-replicate n m 0 0 l
      | no g ↦ get_or-eq_default (replicate n 0) 0 (omega (arith, length-replicate {A = ℕ} n 0))
    ]

-- zeros under a list, or nothing
padded : (xs : List ℕ) (n m : ℕ) → get_or (laid xs (replicate n 0)) m 0 ≡ get_or xs m 0
unfolding laid
padded xs n m =
    elim (dec_lt m (length xs)) [
      | yes l ↦ get_or-append xs (drop (length xs) (replicate n 0)) 0 m l
      | no g ↦ past (omega arith)
    ]
  where
    past : length xs ≤ m → get_or (xs ++ drop (length xs) (replicate n 0)) m 0 ≡ get_or xs m 0
    past l =
        let i : ℕ = m - length xs in
        after_first xs (drop (length xs) (replicate n 0)) (length xs) i m refl (omega arith)
        ∙ get_or-drop (length xs) (replicate n 0) i 0
        ∙ zeros n (length xs + i)
        ∙ sym (get_or-eq_default xs 0 l)

module _ (b columns : ℕ) (digest value : List ℕ) where
  pub record_byte : (m : ℕ) → get_or (record_of b columns digest value) m 0 ≡ get_or (marked digest value) m 0
  unfolding record_of
  record_byte m = padded (marked digest value) (bytes_in b columns) m

  -- what the padded record gathers is what the record gathers
  pub record_gathered : (w at : ℕ) → gathered w (bit_of 8 (marked digest value)) at ≡ gathered w (bit_of 8 (record_of b columns digest value)) at
  unfolding bit_of
  record_gathered w at =
      gathered_ext w (bit_of 8 (marked digest value)) (bit_of 8 (record_of b columns digest value)) at
      (λ i l. ap (λ (x : ℕ). x / 2 ^ ((at + i) % 8) % 2) (sym (record_byte ((at + i) / 8))))
