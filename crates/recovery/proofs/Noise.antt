-- A noise in its parts above and below 0, which are sums of numbers.
use mathlib.Core.Path.{◌≡◌, refl, sym}
use mathlib.Core.Bool.{Bool, true, false, cond}
use Prim.Native.Nat.{ℕ, zero, suc, ◌+◌, ◌-◌, ◌*◌, ◌^◌, ◌≤◌, ◌<◌}
use native.Mathlib.Nat.{zero-mul}
use native.Mathlib.Omega.{arith}
use lib.Dec.{ltb, ltb→lt, lt→ltb, leb→le, le→leb}
use lib.IntN.{ℤ, pos, negsuc, neg_ℤ, sub_ℕ, ◌+ℤ◌, ◌*ℤ◌}
use lib.Signed.{◌<ℤ◌, ◌≤ℤ◌}
use borrow.Author.Tests.{ltb-true, ltb-false}
use Rattle.laws.specs.Sums.{sum, Cong}
use Rattle.laws.proofs.Sums.{sum_plus, cong_eq, cong_trans, cong_mul_right, cong_sum, mod_in}
use Rattle.recovery.specs.Noise.{signed, sum_ℤ, noise, Quiet}

-- a word's part above 0 and its part below, where 2^32 - 1 is -1
unfoldable pub plus : ℕ → ℕ
plus w = cond (ltb w (2 ^ 31)) w 0

unfoldable pub minus : ℕ → ℕ
minus w = cond (ltb w (2 ^ 31)) 0 (2 ^ 32 - w)

-- the noise's
abbrev pub above : ℕ → (ℕ → ℕ) → (ℕ → ℕ) → ℕ
above n e d = sum n (λ i. plus (e i) * d i)

abbrev pub below : ℕ → (ℕ → ℕ) → (ℕ → ℕ) → ℕ
below n e d = sum n (λ i. minus (e i) * d i)

-- z is p less m
abbrev pub Diff : ℤ → ℕ → ℕ → Type 0
Diff (pos k) p m = p ≡ k + m
Diff (negsuc k) p m = p + suc k ≡ m

diff_sub : (a b p m : ℕ) → p + b ≡ a + m → Diff (sub_ℕ a b) p m
diff_sub a b p m e = go (ltb a b) refl
  where
    go : (t : Bool) → ltb a b ≡ t → Diff (cond t (negsuc (b - suc a)) (pos (a - b))) p m
    go true h = let l = ltb-true a b h in omega arith
    go false h = let l = ltb-false a b h in omega arith

diff_neg : (k : ℕ) → Diff (neg_ℤ (pos k)) 0 k
diff_neg zero = refl
diff_neg (suc k) = omega arith

diff_add : (y z : ℤ) (p m q n : ℕ) → Diff y p m → Diff z q n → Diff (y +ℤ z) (p + q) (m + n)
diff_add (pos a) (pos b) p m q n e f = omega arith
diff_add (pos a) (negsuc b) p m q n e f = diff_sub a (suc b) (p + q) (m + n) (omega arith)
diff_add (negsuc a) (pos b) p m q n e f = diff_sub b (suc a) (p + q) (m + n) (omega arith)
diff_add (negsuc a) (negsuc b) p m q n e f = omega arith

diff_mul : (w d : ℕ) → w < 2 ^ 32 → Diff (signed w *ℤ pos d) (plus w * d) (minus w * d)
unfolding signed plus minus
diff_mul w d l = go (ltb w (2 ^ 31)) refl
  where
    neg : (k : ℕ) → 0 < k → Diff (neg_ℤ (pos k) *ℤ pos d) (0 * d) (k * d)
    neg zero h = absurd (omega arith)
    neg (suc k) h = rw (zero-mul d) (diff_neg (suc k * d))

    go : (t : Bool) → ltb w (2 ^ 31) ≡ t
        → Diff (cond t (pos w) (neg_ℤ (pos (2 ^ 32 - w))) *ℤ pos d) (cond t w 0 * d) (cond t 0 (2 ^ 32 - w) * d)
    go true h = omega arith
    go false h = neg (2 ^ 32 - w) (omega arith)

-- the word and its part below 0 make its part above, modulo 2^32
pub word_parts : (w : ℕ) → w < 2 ^ 32 → Cong (2 ^ 32) (w + minus w) (plus w)
unfolding plus minus
word_parts w l = go (ltb w (2 ^ 31)) refl
  where
    go : (t : Bool) → ltb w (2 ^ 31) ≡ t → Cong (2 ^ 32) (w + cond t 0 (2 ^ 32 - w)) (cond t w 0)
    go true h = mod_in (2 ^ 32) (w + 0) w 0 0 (omega arith)
    go false h = mod_in (2 ^ 32) (w + (2 ^ 32 - w)) 0 0 1 (omega arith)

-- a difference above -h and at most h
pub record Small (h p m : ℕ) : Type 0 where
  pub low : m < p + h
  pub high : p ≤ m + h

-- what a bound below or above says of the parts, and what says it
module _ (z : ℤ) (p m : ℕ) (d : Diff z p m) where
  lower : (h : ℕ) → neg_ℤ (pos h) <ℤ z → m < p + h
  lower h l = by_sign h z d l
    where
      by_sign : (h : ℕ) (z : ℤ) → Diff z p m → neg_ℤ (pos h) <ℤ z → m < p + h
      by_sign zero (pos k) e l = let a = ltb→lt 0 k l.lt in omega arith
      by_sign zero (negsuc k) e l = absurd l.lt
      by_sign (suc h) (pos k) e l = omega arith
      by_sign (suc h) (negsuc k) e l = let a = ltb→lt k h l.lt in omega arith

  raise : (h : ℕ) → m < p + h → neg_ℤ (pos h) <ℤ z
  raise h l = by_sign h z d l
    where
      by_sign : (h : ℕ) (z : ℤ) → Diff z p m → m < p + h → neg_ℤ (pos h) <ℤ z
      by_sign zero (pos k) e l = record { lt = lt→ltb 0 k (omega arith) }
      by_sign zero (negsuc k) e l = absurd (omega arith)
      by_sign (suc h) (pos k) e l = record { lt = tt }
      by_sign (suc h) (negsuc k) e l = record { lt = lt→ltb k h (omega arith) }

  upper : (h : ℕ) → z ≤ℤ pos h → p ≤ m + h
  upper h l = by_sign z d l
    where
      by_sign : (z : ℤ) → Diff z p m → z ≤ℤ pos h → p ≤ m + h
      by_sign (pos k) e l = let a = leb→le k h l.le in omega arith
      by_sign (negsuc k) e l = omega arith

  limit : (h : ℕ) → p ≤ m + h → z ≤ℤ pos h
  limit h l = by_sign z d l
    where
      by_sign : (z : ℤ) → Diff z p m → p ≤ m + h → z ≤ℤ pos h
      by_sign (pos k) e l = record { le = le→leb k h (omega arith) }
      by_sign (negsuc k) e l = record { le = tt }

  -- quiet is small in its parts, and the other way round
  pub quiet_parts : (b : ℕ) → Quiet b z → Small (2 ^ (31 - b)) p m
  quiet_parts b q = record { low = lower (2 ^ (31 - b)) q.above; high = upper (2 ^ (31 - b)) q.most }

  pub parts_quiet : (b : ℕ) → Small (2 ^ (31 - b)) p m → Quiet b z
  parts_quiet b s = record { above = raise (2 ^ (31 - b)) s.low; most = limit (2 ^ (31 - b)) s.high }

-- a word's noise has its parts
pub word_diff : (w : ℕ) → Diff (signed w) (plus w) (minus w)
unfolding signed plus minus
word_diff w = go (ltb w (2 ^ 31))
  where
    go : (t : Bool) → Diff (cond t (pos w) (neg_ℤ (pos (2 ^ 32 - w)))) (cond t w 0) (cond t 0 (2 ^ 32 - w))
    go true = omega arith
    go false = diff_neg (2 ^ 32 - w)

-- Errors that are words.
module _ (e d : ℕ → ℕ) where
  diff_sum : (n : ℕ) → ((i : ℕ) → i < n → e i < 2 ^ 32) → Diff (noise n e d) (above n e d) (below n e d)
  unfolding sum_ℤ sum
  diff_sum zero h = refl
  diff_sum (suc n) h =
      diff_add (noise n e d) (signed (e n) *ℤ pos (d n)) (above n e d) (below n e d) (plus (e n) * d n) (minus (e n) * d n)
      (diff_sum n (λ i l. h i (omega arith)))
      (diff_mul (e n) (d n) (h n (omega arith)))

  module _ (n : ℕ) (words : (i : ℕ) → i < n → e i < 2 ^ 32) where
    -- a quiet noise is small in its parts
    pub quiet_small : (b : ℕ) → Quiet b (noise n e d) → Small (2 ^ (31 - b)) (above n e d) (below n e d)
    quiet_small b q =
        quiet_parts (noise n e d) (above n e d) (below n e d) (diff_sum n words) b q

    -- the errors times the entries, as words, are the one part less the other
    pub noise_parts : Cong (2 ^ 32) (sum n (λ i. e i * d i) + below n e d) (above n e d)
    noise_parts =
        cong_trans (cong_eq (sym (sum_plus n (λ i. e i * d i) (λ i. minus (e i) * d i))))
        (cong_sum n (λ i. e i * d i + minus (e i) * d i) (λ i. plus (e i) * d i)
        (λ i l. cong_trans (cong_eq (omega arith)) (cong_mul_right (d i) (word_parts (e i) (words i l)))))
