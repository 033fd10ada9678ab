-- The bytes of a row, and the search for the last of them that is not zero.
use mathlib.Core.Path.{◌≡◌, sym, ap, ◌∙◌}
use mathlib.Core.Bool.{Bool, true, false, cond}
use mathlib.Core.List.{List, ◌++◌}
use Prim.Native.Nat.{ℕ, zero, suc, ◌*◌, ◌-◌, ◌<◌, ◌≤◌}
use native.Mathlib.Omega.{arith}
use native.Mathlib.Decide.{dec_lt}
use lib.Dec.{eqb}
use lib.ListN.{length, get_or, drop}
use borrow.Author.Tests.{eq-eqb, ne_eqb}
use Rattle.laws.specs.Lists.{build, laid}
use Rattle.laws.specs.Bits.{bit_of, gathered}
use Rattle.laws.proofs.Lists.{build-get_or, build_ext}
use Rattle.laws.proofs.Bits.{length-carried, get_or-carried}
use Rattle.rows.specs.Codec.{bytes_in, record_of, row_of, bytes_of, last_nonzero}

-- a list that has f i at each place i
pub built : (xs : List ℕ) (n : ℕ) (f : ℕ → ℕ) → length xs ≡ n → ((i : ℕ) → i < n → get_or xs i 0 ≡ f i) → xs ≡ build n f
built xs n f h here =
    sym (build-get_or xs 0) ∙ ap (λ m. build m (λ i. get_or xs i 0)) h ∙ build_ext n (λ i. get_or xs i 0) f here

-- the start of an output, which was lent and holds ys now
pub front : (n : ℕ) (ys old : List ℕ) → length ys ≡ n → ys ++ drop n old ≡ laid ys old
unfolding laid
front n ys old h = ap (λ k. ys ++ drop k old) (sym h)

-- a row that is written has its columns
pub length_row : (b columns : ℕ) (digest value : List ℕ) → length (row_of b columns digest value) ≡ columns
unfolding row_of
length_row b columns digest value = length-carried b columns (bit_of 8 (record_of b columns digest value))

module _ (b columns : ℕ) (row : List ℕ) where
  pub length_bytes : length (bytes_of b columns row) ≡ bytes_in b columns
  unfolding bytes_of
  length_bytes = length-carried 8 (bytes_in b columns) (bit_of b row)

  pub byte_is : (m : ℕ) → m < bytes_in b columns → get_or (bytes_of b columns row) m 0 ≡ gathered 8 (bit_of b row) (m * 8)
  unfolding bytes_of
  byte_is m h = get_or-carried 8 (bytes_in b columns) (bit_of b row) m h

-- The last of the first n bytes that is not zero.
module _ (xs : List ℕ) where
  pub last_le : (n : ℕ) → last_nonzero n xs ≤ n - 1
  unfolding last_nonzero
  last_le zero = omega arith
  last_le (suc n) = by (eqb (get_or xs n 0) 0) (last_le n)
    where
      by : (t : Bool) → last_nonzero n xs ≤ n - 1 → cond t (last_nonzero n xs) n ≤ suc n - 1
      by true h = omega arith
      by false h = omega arith

  -- all from e on are zero
  pub last_below : (n e : ℕ) → 0 < e → ((m : ℕ) → e ≤ m → m < n → get_or xs m 0 ≡ 0) → last_nonzero n xs < e
  unfolding last_nonzero
  last_below zero e h zeros = h
  last_below (suc n) e h zeros =
      elim (dec_lt n e) [
        | yes k ↦ omega (arith, last_le (suc n))
        | no g ↦ rw (eq-eqb (get_or xs n 0) 0 (zeros n (omega arith) (omega arith))) (last_below n e h (λ m a b. zeros m a (omega arith)))
      ]

  -- all past e are zero, and the one at e is not
  pub last_at : (n e : ℕ) → e < n → (get_or xs e 0 ≡ 0 → ⊥) → ((m : ℕ) → e < m → m < n → get_or xs m 0 ≡ 0) → last_nonzero n xs ≡ e
  unfolding last_nonzero
  last_at zero e l here zeros = absurd (omega arith)
  last_at (suc n) e l here zeros =
      elim (dec_lt e n) [
        | yes k ↦ rw (eq-eqb (get_or xs n 0) 0 (zeros n k (omega arith))) (last_at n e k here (λ m a b. zeros m a (omega arith)))
        | no g ↦ let same : e ≡ n = omega arith in rw (ne_eqb (get_or xs n 0) 0 (rw same at here)) (sym same)
      ]
