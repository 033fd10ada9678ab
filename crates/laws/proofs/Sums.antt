-- Laws of sums, exactly and modulo M.
use mathlib.Core.Path.{◌≡◌, refl, sym, ap, ap₂, ◌∙◌}
use mathlib.Core.Bool.{cond}
use Prim.Native.Nat.{ℕ, zero, suc, ◌+◌, ◌*◌, ◌/◌, ◌%◌, ◌<◌}
use native.Mathlib.Nat.{add-zero, add-suc, add-mod, mod-mod, mul-zero, zero-mul, mul_comm, div-add-mod', add-mul-mod_self_right, not-suc-le-zero}
use native.Mathlib.Decide.{dec_lt}
use native.Mathlib.Omega.{arith}
use lib.Dec.{eqb}
use borrow.Author.Tests.{eq-eqb, ne_eqb}
use Rattle.laws.specs.Sums.{sum, Cong}

pub sum_ext : (n : ℕ) (f g : ℕ → ℕ) → ((i : ℕ) → i < n → f i ≡ g i) → sum n f ≡ sum n g
unfolding sum
sum_ext zero f g h = refl
sum_ext (suc n) f g h = ap₂ ◌+◌ (sum_ext n f g (λ i l. h i (omega arith))) (h n (omega arith))

-- m terms, and then n more
pub sum-add : (m n : ℕ) (f : ℕ → ℕ) → sum (m + n) f ≡ sum m f + sum n (λ i. f (m + i))
unfolding sum
sum-add m zero f = rw (add-zero m) (sym (add-zero (sum m f)))
sum-add m (suc n) f = let ih = sum-add m n f in rw (add-suc m n) (omega arith)

sum-zero : (n : ℕ) → sum n (λ i. 0) ≡ 0
unfolding sum
sum-zero zero = refl
sum-zero (suc n) = let e = sum-zero n in omega arith

-- term by term
pub sum_plus : (n : ℕ) (f g : ℕ → ℕ) → sum n (λ i. f i + g i) ≡ sum n f + sum n g
unfolding sum
sum_plus zero f g = refl
sum_plus (suc n) f g = let e = sum_plus n f g in omega arith

pub sum-mul : (n c : ℕ) (f : ℕ → ℕ) → sum n (λ i. c * f i) ≡ c * sum n f
unfolding sum
sum-mul zero c f = sym (mul-zero c)
sum-mul (suc n) c f = let e = sum-mul n c f in omega arith

pub sum-mul_right : (n c : ℕ) (f : ℕ → ℕ) → sum n (λ i. f i * c) ≡ sum n f * c
unfolding sum
sum-mul_right zero c f = sym (zero-mul c)
sum-mul_right (suc n) c f = let e = sum-mul_right n c f in omega arith

-- a sum of sums, the other way round
pub sum_swap : (n m : ℕ) (f : ℕ → ℕ → ℕ) → sum n (λ i. sum m (f i)) ≡ sum m (λ j. sum n (λ i. f i j))
unfolding sum
sum_swap zero m f = sym (sum-zero m)
sum_swap (suc n) m f =
    ap (λ (x : ℕ). x + sum m (f n)) (sum_swap n m f) ∙ sym (sum_plus m (λ j. sum n (λ i. f i j)) (f n))

-- the terms but that at k, and then that one
pub sum_apart : (n k : ℕ) (f : ℕ → ℕ) → k < n → sum n f ≡ sum n (λ s. cond (eqb s k) 0 (f s)) + f k
unfolding sum
sum_apart zero k f h = absurd (not-suc-le-zero h)
sum_apart (suc n) k f h = elim (dec_lt k n) [ yes l ↦ before l (sum_apart n k f l) | no g ↦ last (omega arith) ]
  where
    before : k < n → sum n f ≡ sum n (λ s. cond (eqb s k) 0 (f s)) + f k
        → sum n f + f n ≡ sum n (λ s. cond (eqb s k) 0 (f s)) + cond (eqb n k) 0 (f n) + f k
    before l ih =
        let ne : ¬ (n ≡ k) = λ e. omega arith in
        rw (ne_eqb n k ne) (omega arith)

    last : n ≡ k → sum n f + f n ≡ sum n (λ s. cond (eqb s k) 0 (f s)) + cond (eqb n k) 0 (f n) + f k
    last e =
        let same : sum n f ≡ sum n (λ s. cond (eqb s k) 0 (f s)) =
        sum_ext n f (λ s. cond (eqb s k) 0 (f s))
        (λ s l. let ne : ¬ (s ≡ k) = λ p. omega arith in rw (ne_eqb s k ne)) in
        rw (eq-eqb n k e, ← same, ← e) (omega arith)

pub cong_eq : {M a b : ℕ} → a ≡ b → Cong M a b
cong_eq {M} h = record { same = ap (λ (x : ℕ). x % M) h }

pub cong_sym : {M a b : ℕ} → Cong M a b → Cong M b a
cong_sym h = record { same = sym h.same }

pub cong_trans : {M a b c : ℕ} → Cong M a b → Cong M b c → Cong M a c
cong_trans h k = record { same = h.same ∙ k.same }

-- a number that was wrapped
pub cong_wrap : {M x : ℕ} (a : ℕ) → x ≡ a % M → Cong M x a
cong_wrap {M} {x} a e = record { same = ap (λ (y : ℕ). y % M) e ∙ mod-mod a M }

pub cong_add : {M a b c d : ℕ} → Cong M a b → Cong M c d → Cong M (a + c) (b + d)
cong_add {M} {a} {b} {c} {d} h k = record {
  same = add-mod a c M ∙ ap₂ (λ (x y : ℕ). (x + y) % M) h.same k.same ∙ sym (add-mod b d M);
}

-- a congruence as an exact equation, and back
pub mod_out : {M a b : ℕ} → Cong M a b → a + b / M * M ≡ b + a / M * M
mod_out {M} {a} {b} h = let p = div-add-mod' a M in let q = div-add-mod' b M in let e = h.same in omega arith

pub mod_in : (M a b k l : ℕ) → a + k * M ≡ b + l * M → Cong M a b
mod_in M a b k l h = record {
  same = sym (add-mul-mod_self_right a k M) ∙ ap (λ (x : ℕ). x % M) h ∙ add-mul-mod_self_right b l M;
}

pub cong_mul : {M a b : ℕ} (c : ℕ) → Cong M a b → Cong M (c * a) (c * b)
cong_mul {M} {a} {b} c h =
    let e = ap (λ (x : ℕ). c * x) (mod_out h) in
    mod_in M (c * a) (c * b) (c * (b / M)) (c * (a / M)) (omega arith)

pub cong_mul_right : {M a b : ℕ} (c : ℕ) → Cong M a b → Cong M (a * c) (b * c)
cong_mul_right {M} {a} {b} c h = rw (mul_comm a c, mul_comm b c) (cong_mul c h)

pub cong_sum : {M : ℕ} (n : ℕ) (f g : ℕ → ℕ) → ((i : ℕ) → i < n → Cong M (f i) (g i)) → Cong M (sum n f) (sum n g)
unfolding sum
cong_sum zero f g h = cong_eq refl
cong_sum (suc n) f g h = cong_add (cong_sum n f g (λ i l. h i (omega arith))) (h n (omega arith))

-- a running sum, wrapped at each addition, is the whole sum wrapped
pub wrap_add : {M x y : ℕ} (a acc r : ℕ) → acc ≡ a % M → Cong M x y → r ≡ (acc + x) % M → r ≡ (a + y) % M
wrap_add a acc r ha hx hr = hr ∙ (cong_add (cong_wrap a ha) hx).same
