-- A number by its digits, to any base.
use mathlib.Core.Path.{◌≡◌, sym, ap, ◌∙◌}
use Prim.Native.Nat.{ℕ, zero, suc, ◌+◌, ◌*◌, ◌-◌, ◌/◌, ◌%◌, ◌^◌, ◌<◌}
use native.Mathlib.Nat.{add_comm, zero-add, mod-one, mod-eq_of_lt, div-eq_of_lt, add-mul-div_right, add-mul-mod_self_right, one-le-pow, pow-zero, pow-succ', not-suc-le-zero}
use native.Mathlib.Omega.{arith}
use native.Mathlib.Decide.{dec_lt}
use lib.Arith.{mod-mul, digits_lt}
use lib.Pow.{pow-add}
use Rattle.laws.specs.Sums.{sum}

-- the low n digits of a number, each by its weight
pub low_digits : (base x n : ℕ) → 0 < base → sum n (λ i. x / base ^ i % base * base ^ i) ≡ x % base ^ n
unfolding sum
low_digits base x zero h = sym (ap (λ (d : ℕ). x % d) (pow-zero base) ∙ mod-one x)
low_digits base x (suc n) h =
    ap (λ (s : ℕ). s + x / base ^ n % base * base ^ n) (low_digits base x n h)
    ∙ add_comm (x % base ^ n) (x / base ^ n % base * base ^ n)
    ∙ sym (mod-mul x h (one-le-pow n base h))
    ∙ ap (λ (d : ℕ). x % d) (sym (pow-succ' base n))

-- A number put together from digits.
module _ (base : ℕ) (f : ℕ → ℕ) (small : (i : ℕ) → f i < base) where
  pub together_lt : (n : ℕ) → sum n (λ i. f i * base ^ i) < base ^ n
  unfolding sum
  together_lt zero = one-le-pow 0 base (omega (arith, small 0))
  together_lt (suc n) =
      rw (add_comm (sum n (λ i. f i * base ^ i)), pow-succ' base n) (digits_lt (small n) (together_lt n))

  -- digit i of it
  pub digit_together : (n i : ℕ) → i < n → sum n (λ k. f k * base ^ k) / base ^ i % base ≡ f i
  unfolding sum
  digit_together zero i l = absurd (not-suc-le-zero l)
  digit_together (suc n) i l = elim (dec_lt i n) [ yes k ↦ below k (digit_together n i k) | no g ↦ top (omega arith) ]
    where
      c : ℕ
      c = f n

      low : ℕ
      low = sum n (λ k. f k * base ^ k)

      positive : (k : ℕ) → 0 < base ^ k
      positive k = one-le-pow k base (omega (arith, small 0))

      above : i < n → c * base ^ n ≡ c * base ^ (n - i - 1) * base * base ^ i
      above k =
          let e : n ≡ (n - i - 1) + suc i = omega arith in
          ap (λ (m : ℕ). c * base ^ m) e
          ∙ ap (λ (m : ℕ). c * m) (pow-add base (n - i - 1) (suc i) ∙ ap (λ (m : ℕ). base ^ (n - i - 1) * m) (pow-succ' base i))
          ∙ omega arith

      below : i < n → low / base ^ i % base ≡ f i → (low + c * base ^ n) / base ^ i % base ≡ f i
      below k ih =
          ap (λ (m : ℕ). (low + m) / base ^ i % base) (above k)
          ∙ ap (λ (m : ℕ). m % base) (add-mul-div_right low (c * base ^ (n - i - 1) * base) (positive i))
          ∙ add-mul-mod_self_right (low / base ^ i) (c * base ^ (n - i - 1)) base
          ∙ ih

      top : n ≡ i → (low + c * base ^ n) / base ^ i % base ≡ f i
      top e =
          ap (λ (m : ℕ). (low + c * base ^ n) / base ^ m % base) (sym e)
          ∙ ap (λ (m : ℕ). m % base) (add-mul-div_right low c (positive n))
          ∙ ap (λ (m : ℕ). (m + c) % base) (div-eq_of_lt (together_lt n))
          ∙ ap (λ (m : ℕ). m % base) (zero-add c)
          ∙ mod-eq_of_lt (small n)
          ∙ ap f e
