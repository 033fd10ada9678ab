-- Each ticket of a run that was opened is answered, closed by a refusal, discarded or pending, and only one of these.
use mathlib.Core.Path.{◌≡◌, refl, sym, ap}
use mathlib.Core.Bool.{Bool, true, false, not, ◌&&◌, ◌||◌}
use mathlib.Core.List.{List}
use Prim.Native.Nat.{ℕ, ◌+◌, ◌*◌, ◌<◌}
use native.Mathlib.Decide.{dec_lt, ℕ_discrete}
use native.Mathlib.Omega.{arith}
use lib.Dec.{ltb, eqb}
use lib.ListN.{length}
use borrow.Author.Tests.{lt-ltb, le-ltb, eq-eqb, ne_eqb, eqb-true}
use Rattle.laws.proofs.Refusals.{same_test, written}
use Rattle.pending.specs.Table.{pending, fresh_table, fresh_number}
use Rattle.client.proofs.Calls.{fresh_table_pending}
use Rattle.pending.proofs.table.Pending.{pending_below, taken-pending, closed-pending}
use Rattle.runs.specs.Run.{Lent, State, Event, start, Typed}
use Rattle.runs.specs.Groups.{one, Grouped}
use Rattle.runs.proofs.Steps.{Does, still, takes, closes, then, does_all}
use Rattle.runs.proofs.Healthy.{Healthy, start_healthy, does_healthy}

-- one test more, that does not hold with the other; and one less, that holds with the other alone
one_more : (p y : Bool) → (p ≡ true → y ≡ false) → one (p || y) ≡ one p + one y
one_more true y f = rw (f refl)
one_more false y f = omega arith

one_less : (p y : Bool) → (y ≡ true → p ≡ true) → one p ≡ one y + one (p && not y)
one_less p true f = rw (f refl)
one_less true false f = refl
one_less false false f = refl

-- the tickets below one more number
below_more : (t n : ℕ) → one (eqb n t) + one (ltb t n) ≡ one (ltb t (n + 1))
below_more t n =
    elim (ℕ_discrete n t) [
      | yes e ↦ rw (eq-eqb n t e, le-ltb t n (omega arith), lt-ltb t (n + 1) (omega arith))
      | no ne ↦ rw (ne_eqb n t ne) (elim (dec_lt t n) [
        | yes l ↦ rw (lt-ltb t n l, lt-ltb t (n + 1) (omega arith))
        | no g ↦ rw (le-ltb t n (omega arith), le-ltb t (n + 1) (omega arith))
      ])
    ]

module _ {l : Lent} (t : ℕ) where
  -- the tickets opened are those from next before to next after
  pub does_range : {s u : State} {o a f d : ℕ → ℕ} {p : ℕ → Bool} → Does l s u o a f d p
      → o t + one (ltb t s.table.next) ≡ one (ltb t u.table.next)
  does_range still = omega arith
  does_range (takes {s} a whole ready) = below_more t s.table.next
  does_range (closes ticket _ _ _ was _) = omega arith
  does_range (then x y) = omega (arith, does_range x, does_range y)

  -- what was pending or is opened is answered, failed, discarded or pending
  does_groups : {b columns : ℕ} {s u : State} {o a f d : ℕ → ℕ} {p : ℕ → Bool} → Healthy b columns s → Does l s u o a f d p
      → one (pending s.table t) + o t ≡ a t + f t + d t + one (pending u.table t)
  does_groups h still = omega arith
  does_groups h (takes {s} a whole ready) =
      let new = same_test t s.table.next s.table.next t sym sym in
      let more = one_more (pending s.table t) (eqb t s.table.next)
      (λ p. ne_eqb t s.table.next (λ e. omega (arith, pending_below s.table t h.formed p))) in
      rw (taken-pending s.table a.digest t h.sized h.formed ready.unfilled, more, new) (omega arith)
  does_groups h (closes {s} ticket a f d was split) =
      let less = one_less (pending s.table t) (eqb t ticket) (λ e. rw (eqb-true t ticket e) was) in
      rw (closed-pending s.table ticket t h.sized h.formed was)
      (omega (arith, less, split t, ap one (same_test t ticket ticket t sym sym)))
  does_groups h (then x y) = omega (arith, does_groups h x, does_groups (does_healthy x h) y)

pub grouped : (l : Lent) (b columns : ℕ) (slab : List ℕ) (es : List Event) → fresh_number b columns ≡ 0
    → length slab ≡ 64 * columns → Typed es → (t : ℕ) → 0 < t → Grouped l (start b columns slab) es t
grouped l b columns slab es made whole typed t pos =
    let h = start_healthy b columns slab made whole in
    let does = does_all l (start b columns slab) es typed in
    let next : (start b columns slab).table.next ≡ 1 =
    rw (← written (fresh_number b columns) (fresh_table b columns 1) (fresh_table 0 0 0) made) refl in
    record {
      once = omega (arith, does_range t does, ap one (le-ltb t (start b columns slab).table.next (omega arith)));
      groups = omega (arith, does_groups t h does, ap one (fresh_table_pending b columns t));
    }
