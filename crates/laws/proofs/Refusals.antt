-- What a test that did not hold says, and what a buffer holds after an answer.
use mathlib.Core.Path.{◌≡◌, refl, sym, ap₂, ◌∙◌}
use mathlib.Core.Bool.{Bool, true, false, ◌||◌}
use mathlib.Core.List.{List, [], ◌∷◌, ◌++◌}
use Prim.Native.Nat.{ℕ, zero, suc, ◌<◌, ◌≤◌}
use native.Mathlib.Nat.{not-suc-le-zero}
use native.Mathlib.Decide.{ℕ_discrete}
use native.Mathlib.Omega.{arith}
use lib.Dec.{ltb, eqb}
use borrow.Author.Tests.{ltb-false, le-ltb, eq-eqb, ne_eqb}
use Rattle.laws.specs.Refusals.{Test, ◌⇒◌, first, after, outside}

pub neither : (s t : Bool) → (s || t) ≡ false → (s ≡ false) × (t ≡ false)
neither true t e = let z : ◌≡◌ {A = ℕ} 0 1 = cc in absurd (omega arith)
neither false t e = (refl, e)

pub inside : (lo hi x : ℕ) → outside lo hi x ≡ false → (lo ≤ x) × (x ≤ hi)
inside lo hi x e =
    let p = neither (ltb x lo) (ltb hi x) e in
    (ltb-false x lo p.0, ltb-false hi x p.1)

pub within : (lo hi x : ℕ) → lo ≤ x → x ≤ hi → outside lo hi x ≡ false
within lo hi x h k = ap₂ ◌||◌ (le-ltb x lo h) (le-ltb hi x k)

-- two equations that hold together are one test
pub same_test : (a b c d : ℕ) → (a ≡ b → c ≡ d) → (c ≡ d → a ≡ b) → eqb a b ≡ eqb c d
same_test a b c d p q =
    elim (ℕ_discrete a b) [
      | yes e ↦ eq-eqb a b e ∙ sym (eq-eqb c d (p e))
      | no n ↦ ne_eqb a b n ∙ sym (ne_eqb c d (λ f. n (q f)))
    ]

-- a refusal: the tests after the one that holds don't matter
pub refused_before : (ts us : List Test) → 0 < first ts → first (ts ++ us) ≡ first ts
refused_before [] us h = absurd (not-suc-le-zero h)
refused_before ((true ⇒ n) ∷ ts) us h = refl
refused_before ((false ⇒ n) ∷ ts) us h = refused_before ts us h

-- no refusal: the first test does not hold, nor does a later one
pub passed : (t : Bool) (n : ℕ) (ts : List Test) → first (t ⇒ suc n ∷ ts) ≡ 0 → (t ≡ false) × (first ts ≡ 0)
passed true n ts e = absurd (omega arith)
passed false n ts e = (refl, e)

-- every test has a number, which is not 0; and no test holds
abbrev pub Numbered : List Test → Type 0
Numbered [] = Unit
Numbered ((t ⇒ zero) ∷ ts) = ⊥
Numbered ((t ⇒ suc n) ∷ ts) = Numbered ts

abbrev pub Clear : List Test → Type 0
Clear [] = Unit
Clear ((t ⇒ n) ∷ ts) = (t ≡ false) × Clear ts

-- success: no test holds, and then those after them decide
pub all_clear : (ts : List Test) → Numbered ts → first ts ≡ 0 → Clear ts
all_clear [] h e = tt
all_clear ((t ⇒ zero) ∷ ts) h e = absurd h
all_clear ((t ⇒ suc n) ∷ ts) h e = let p = passed t n ts e in (p.0, all_clear ts h p.1)

pub clear_before : (ts us : List Test) → Clear ts → first (ts ++ us) ≡ first us
clear_before [] us h = refl
clear_before ((t ⇒ n) ∷ ts) us h = rw h.0 (clear_before ts us h.1)

-- no test has the number k, so the answer is not k
abbrev pub Without : ℕ → List Test → Type 0
Without k [] = Unit
Without k ((t ⇒ n) ∷ ts) = (eqb n k ≡ false) × Without k ts

pub not_answered : (k : ℕ) (ts : List Test) → Without (suc k) ts → eqb (first ts) (suc k) ≡ false
not_answered k [] h = ne_eqb 0 (suc k) (λ e. omega arith)
not_answered k ((true ⇒ n) ∷ ts) h = h.0
not_answered k ((false ⇒ n) ∷ ts) h = not_answered k ts h.1

-- what a buffer holds: on a refusal what it held, on success what was written
pub kept : {A : Type 0} (n : ℕ) (new old : A) → 0 < n → old ≡ after n new old
kept zero new old h = absurd (not-suc-le-zero h)
kept (suc n) new old h = refl

pub written : {A : Type 0} (n : ℕ) (new old : A) → n ≡ 0 → new ≡ after n new old
written n new old e = rw e
