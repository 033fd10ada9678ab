-- An event writes no slot but those that it touches, and a slot that it touches has no ticket then but one that it opened.
use mathlib.Core.Path.{◌≡◌, refl, sym, ◌∙◌}
use mathlib.Core.Bool.{Bool, true, false, true≢false, or-false}
use mathlib.Core.List.{List}
use Prim.Native.Nat.{ℕ, ◌+◌, ◌*◌, ◌<◌}
use native.Mathlib.Omega.{arith}
use lib.ListN.{length, replicate, length-replicate}
use borrow.Author.Tests.{eqb-true, eqb-false, eq-eqb}
use Rattle.laws.specs.Lists.{row, splice}
use Rattle.laws.proofs.Refusals.{neither}
use Rattle.laws.proofs.Splice.{row_kept}
use Rattle.pending.specs.Table.{number_at, slot_of}
use Rattle.queries.specs.Open.{stored_secret}
use Rattle.pending.proofs.table.Slots.{Kept, slot_pending, number_here, taken_others, closed_others}
use Rattle.runs.specs.Run.{Lent, State, asking}
use Rattle.runs.proofs.Steps.{Does, still, takes, closes, then}
use Rattle.runs.proofs.Healthy.{Healthy, length_stored, slot_fits, does_healthy}

-- slot q holds in u what it holds in s: number, digest and secret
pub record Same (columns : ℕ) (u s : State) (q : ℕ) : Type 0 where
  pub table : Kept u.table s.table q
  pub secret : row columns u.slab q ≡ row columns s.slab q

module _ {b columns : ℕ} where
  -- a row of the slab is written over, and each other one is as it was
  other_row : {s : State} → Healthy b columns s → (at : ℕ) (ys : List ℕ) → at < 64 → length ys ≡ s.table.columns → (q : ℕ)
      → ¬ (q ≡ at) → row columns (splice (at * s.table.columns) ys s.slab) q ≡ row columns s.slab q
  other_row {s} h at ys below e q ne =
      rw (← h.columns) (row_kept s.table.columns at ys s.slab (slot_fits s h at below) e q ne)

  module _ {l : Lent} where
    pub does_others : {s u : State} {o a f d : ℕ → ℕ} {p : ℕ → Bool} → Does l s u o a f d p → Healthy b columns s
        → (q : ℕ) → p q ≡ false → Same columns u s q
    does_others still h q e = record { table = record { number = refl; digest = refl }; secret = refl }
    does_others (takes {s} a whole ready) h q e =
        let ne = eqb-false q (slot_of s.table 0) e in
        record {
          table = taken_others s.table (slot_of s.table 0) a.digest ready.free h.sized whole q ne;
          secret = other_row h (slot_of s.table 0) (stored_secret (asking l s a)) ready.free (length_stored (asking l s a)) q ne;
        }
    does_others (closes {s} ticket _ _ _ was _) h q e =
        let ne = eqb-false q (slot_of s.table ticket) e in
        let below = (slot_pending s.table ticket was).0 in
        record {
          table = closed_others s.table (slot_of s.table ticket) below h.sized q ne;
          secret = other_row h (slot_of s.table ticket) (replicate s.table.columns 0) below
              (length-replicate {A = ℕ} s.table.columns 0) q ne;
        }
    does_others (then {p} {p'} x y) h q e =
        let n = neither (p q) (p' q) e in
        let first = does_others x h q n.0 in
        let second = does_others y (does_healthy x h) q n.1 in
        record {
          table = record {
            number = second.table.number ∙ first.table.number;
            digest = second.table.digest ∙ first.table.digest;
          };
          secret = second.secret ∙ first.secret;
        }

    -- a touched slot that has ticket t has it because t was opened
    pub does_opened : {s u : State} {o a f d : ℕ → ℕ} {p : ℕ → Bool} → Does l s u o a f d p → Healthy b columns s
        → (q t : ℕ) → p q ≡ true → 0 < t → number_at u.table q ≡ t → 0 < o t
    does_opened still h q t e pos has = absurd (true≢false (sym e))
    does_opened (takes {s} a whole ready) h q t e pos has =
        let slot = slot_of s.table 0 in
        let here = number_here s.table slot (s.table.next + 1) s.table.next a.digest ready.free h.sized in
        let is : s.table.next ≡ t = sym here ∙ rw (eqb-true q slot e) at has in
        rw (eq-eqb s.table.next t is) (omega arith)
    does_opened (closes {s} ticket _ _ _ was _) h q t e pos has =
        let slot = slot_of s.table ticket in
        let here = number_here s.table slot s.table.next 0 (replicate 32 0) (slot_pending s.table ticket was).0 h.sized in
        let is : 0 ≡ t = sym here ∙ rw (eqb-true q slot e) at has in
        absurd (omega arith)
    does_opened (then {u} {v} {o} {o'} {p} {p'} x y) h q t e pos has =
        let mid = does_healthy x h in
        by_test (p' q) refl (does_others y mid q) (λ g. does_opened y mid q t g pos has) (λ g k. does_opened x h q t g pos k)
      where
        by_test : (z : Bool) → p' q ≡ z → (p' q ≡ false → Same columns v u q) → (p' q ≡ true → 0 < o' t)
            → (p q ≡ true → number_at u.table q ≡ t → 0 < o t)
            → 0 < o t + o' t
        by_test true g kept second first = omega (arith, second g)
        by_test false g kept second first =
            omega (arith, first (rw (g, or-false (p q)) at e) (sym (kept g).table.number ∙ has))
