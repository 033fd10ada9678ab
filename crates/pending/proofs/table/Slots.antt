-- Which slot has a number. A slot that is taken or closed holds what was put, and each other slot keeps its number and digest.
use mathlib.Core.Path.{◌≡◌, sym, ap, ◌∙◌}
use mathlib.Core.Bool.{true, false, not, ◌&&◌, and-eq-true_iff, and-false}
use mathlib.Core.List.{List}
use Prim.Native.Nat.{ℕ, ◌+◌, ◌<◌}
use native.Mathlib.Decide.{ℕ_discrete}
use native.Mathlib.Omega.{arith}
use lib.Dec.{ltb, eqb}
use lib.ListN.{length, replicate, length-replicate}
use lib.Seq.{get_or-set_same, get_or-set_other}
use borrow.Author.Tests.{ltb-true, lt-ltb, le-ltb, eqb-true, eq-eqb, ne_eqb, not-false}
use Rattle.laws.specs.Search.{some}
use Rattle.laws.proofs.Search.{lowest_holds, lowest-le, some-lowest}
use Rattle.laws.proofs.Splice.{row_replaced, row_kept}
use Rattle.pending.specs.Table.{Sized, number_at, digest_at, used, slot_of, pending, full, taken, closed}
use Rattle.pending.specs.declared.table.Table.{Table}
use Rattle.pending.proofs.table.Tests.{numbered, put}

-- where some slot has a number, the lowest such slot has it
found : (t : Table) (number : ℕ) → some 64 (numbered t number) ≡ true
    → (slot_of t number < 64) × (number_at t (slot_of t number) ≡ number)
found t number e =
    let l = ltb-true (slot_of t number) 64 (sym (some-lowest (numbered t number) 64) ∙ e) in
    (l, eqb-true _ _ (lowest_holds (numbered t number) 64 l))

pub slot_pending : (t : Table) (ticket : ℕ) → pending t ticket ≡ true
    → (slot_of t ticket < 64) × (number_at t (slot_of t ticket) ≡ ticket)
unfolding pending
slot_pending t ticket e =
    found t ticket ((and-eq-true_iff (not (eqb ticket 0)) (some 64 (numbered t ticket))).0 e).1

pub slot_used : (t : Table) (ticket : ℕ) → pending t ticket ≡ true → used t (slot_of t ticket) ≡ true
unfolding pending
slot_used t ticket e =
    rw (slot_pending t ticket e).1 ((and-eq-true_iff (not (eqb ticket 0)) (some 64 (numbered t ticket))).0 e).0

-- a ticket that is not 0 is pending exactly where one of the 64 slots has it
module _ (t : Table) (ticket : ℕ) where
  pub pending_found : ¬ (ticket ≡ 0) → slot_of t ticket < 64 → pending t ticket ≡ true
  unfolding pending
  pending_found n l = simp (ne_eqb ticket 0 n, some-lowest (numbered t ticket) 64, lt-ltb (slot_of t ticket) 64 l)

  pub pending_none : slot_of t ticket ≡ 64 → pending t ticket ≡ false
  unfolding pending
  pending_none e =
      ap (λ b. not (eqb ticket 0) && b) (some-lowest (numbered t ticket) 64 ∙ le-ltb (slot_of t ticket) 64 (omega arith))
      ∙ and-false (not (eqb ticket 0))

pub slot_free : (t : Table) → full t ≡ false → (slot_of t 0 < 64) × (number_at t (slot_of t 0) ≡ 0)
unfolding full
slot_free t e = found t 0 (not-false _ e)

-- a table is full exactly where its lowest free slot is none of the 64
module _ (t : Table) where
  full_is : full t ≡ not (ltb (slot_of t 0) 64)
  unfolding full
  full_is = ap not (some-lowest (numbered t 0) 64)

  pub none_free : slot_of t 0 ≡ 64 → full t ≡ true
  none_free e = full_is ∙ ap not (le-ltb (slot_of t 0) 64 (omega arith))

  pub some_free : ¬ (slot_of t 0 ≡ 64) → full t ≡ false
  some_free ne =
      let l : slot_of t 0 < 64 = omega (arith, lowest-le (numbered t 0) 64) in full_is ∙ ap not (lt-ltb (slot_of t 0) 64 l)

  pub full_test : full t ≡ eqb (slot_of t 0) 64
  full_test =
      elim (ℕ_discrete (slot_of t 0) 64) [
        | yes e ↦ none_free e ∙ sym (eq-eqb (slot_of t 0) 64 e)
        | no ne ↦ some_free ne ∙ sym (ne_eqb (slot_of t 0) 64 ne)
      ]

-- slot q holds in t what it holds in u
pub record Kept (t u : Table) (q : ℕ) : Type 0 where
  pub number : number_at t q ≡ number_at u q
  pub digest : digest_at t q ≡ digest_at u q

module _ (t : Table) (s next number : ℕ) (digest : List ℕ) (l : s < 64) (z : Sized t) where
  pub number_here : number_at (put t s next number digest) s ≡ number
  number_here = get_or-set_same t.numbers s number 0 (omega arith)

  pub number_other : (q : ℕ) → ¬ (q ≡ s) → number_at (put t s next number digest) q ≡ number_at t q
  number_other q ne = get_or-set_other t.numbers s q number 0 ne

  pub digest_here : length digest ≡ 32 → digest_at (put t s next number digest) s ≡ digest
  digest_here d = row_replaced 32 s digest t.digests (omega arith) d

  pub put_others : length digest ≡ 32 → (q : ℕ) → ¬ (q ≡ s) → Kept (put t s next number digest) t q
  put_others d q ne = record {
    number = number_other q ne;
    digest = row_kept 32 s digest t.digests (omega arith) d q ne;
  }

pub taken_others : (t : Table) (s : ℕ) (digest : List ℕ) → s < 64 → Sized t → length digest ≡ 32
    → (q : ℕ) → ¬ (q ≡ s) → Kept (taken t s digest) t q
taken_others t s digest = put_others t s (t.next + 1) t.next digest

pub closed_others : (t : Table) (s : ℕ) → s < 64 → Sized t → (q : ℕ) → ¬ (q ≡ s) → Kept (closed t s) t q
closed_others t s l z = put_others t s t.next 0 (replicate 32 0) l z (length-replicate {A = ℕ} 32 0)
