-- A ticket's slot holds, as long as the ticket is pending, the digest and the secret of the open that gave it: a late line is
-- never decoded with a newer query's secret.
use mathlib.Core.Path.{◌≡◌, refl, sym, ap, ◌∙◌}
use mathlib.Core.Bool.{Bool, true, false}
use mathlib.Core.List.{List}
use Prim.Native.Nat.{ℕ, ◌+◌, ◌*◌, ◌<◌}
use native.Mathlib.Decide.{dec_lt}
use native.Mathlib.Omega.{arith}
use lib.Dec.{ltb}
use lib.ListN.{length}
use borrow.Author.Tests.{lt-ltb, le-ltb, eq-eqb, ne_eqb, eqb-false}
use Rattle.laws.specs.Lists.{row, splice}
use Rattle.laws.proofs.Search.{some_holds}
use Rattle.laws.proofs.Splice.{row_replaced}
use Rattle.pending.specs.declared.table.Table.{Table}
use Rattle.pending.specs.Table.{number_at, digest_at, malformed, slot_of, pending}
use Rattle.queries.specs.Open.{stored_secret, open_number}
use Rattle.queries.proofs.open.Answers.{succeeded}
use Rattle.pending.proofs.table.Tests.{numbered}
use Rattle.pending.proofs.table.Slots.{slot_pending, number_here, digest_here}
use Rattle.pending.proofs.table.Formed.{formed, one_slot}
use Rattle.pending.proofs.table.Pending.{pending_set}
use Rattle.runs.specs.Run.{Lent, State, Ask, Event, opens, asking, step, run, Typed}
use Rattle.runs.specs.Groups.{one}
use Rattle.runs.proofs.Steps.{Does, does_all, took}
use Rattle.runs.proofs.Healthy.{Healthy, length_stored, slot_fits, step_healthy}
use Rattle.runs.proofs.Touched.{does_others, does_opened}
use Rattle.runs.proofs.Groups.{does_range}

-- where a slot has a ticket, the ticket is pending and the slot is its own
has_pending : (u : Table) (t p : ℕ) → ¬ (t ≡ 0) → p < 64 → number_at u p ≡ t → pending u t ≡ true
unfolding pending
has_pending u t p ne l e = rw (ne_eqb t 0 ne) (some_holds (numbered u t) 64 p l (eq-eqb (number_at u p) t e))

own : (u : Table) (t p : ℕ) → malformed u ≡ false → pending u t ≡ true → p < 64 → number_at u p ≡ t → p ≡ slot_of u t
own u t p well w l e =
    let q = slot_pending u t w in
    one_slot u (formed u well) p (slot_of u t) l q.0 (λ z. pending_set u t w (sym q.1 ∙ z)) (e ∙ sym q.1)

module _ (columns t : ℕ) (pos : 0 < t) (digest key : List ℕ) where
  -- what slot p holds
  abbrev Holds : State → ℕ → Type 0
  Holds u p = (digest_at u.table p ≡ digest) × (row columns u.slab p ≡ key)

  -- t was given, and its slot holds what it was given for
  record Given (u : State) : Type 0 where
    before : t < u.table.next
    holds : pending u.table t ≡ true → Holds u (slot_of u.table t)

  given_still : {l : Lent} {b : ℕ} {u v : State} {o a f d : ℕ → ℕ} {p : ℕ → Bool} → Does l u v o a f d p → Healthy b columns u
      → Given u → Given v
  given_still {u} {v} {o} {p} does h g = record { before = later; holds = still_holds }
    where
      moved : o t + 1 ≡ one (ltb t v.table.next)
      moved = omega (arith, does_range t does, ap one (lt-ltb t u.table.next g.before))

      later : t < v.table.next
      later =
          elim (dec_lt t v.table.next) [
            | yes l ↦ l
            | no l ↦ absurd (omega (arith, moved, ap one (le-ltb t v.table.next (omega arith))))
          ]

      -- t is not given again, so that its slot is not one that was touched
      untouched : (q : ℕ) → number_at v.table q ≡ t → (z : Bool) → p q ≡ z → p q ≡ false
      untouched q has true e =
          absurd (omega (arith, moved, does_opened does h q t e pos has, ap one (lt-ltb t v.table.next later)))
      untouched q has false e = e

      still_holds : pending v.table t ≡ true → Holds v (slot_of v.table t)
      still_holds w =
          let p = slot_of v.table t in
          let q = slot_pending v.table t w in
          let same = does_others does h p (untouched p q.1 _ refl) in
          let has : number_at u.table p ≡ t = sym same.table.number ∙ q.1 in
          let was = has_pending u.table t p (pending_set v.table t w) q.0 has in
          let held = rw (← own u.table t p h.formed was q.0 has) at (g.holds was) in
          (same.table.digest ∙ held.0, same.secret ∙ held.1)

-- an open that succeeded
module _ (l : Lent) {b columns : ℕ} (s : State) (a : Ask) (h : Healthy b columns s) (whole : length a.digest ≡ 32)
    (done : open_number (asking l s a) ≡ 0) where
  -- the next number is a ticket
  pub next_ticket : 0 < s.table.next
  next_ticket =
      elim (dec_lt 0 s.table.next) [
        | yes l ↦ l
        | no g ↦ absurd (eqb-false s.table.next 0 (formed s.table h.formed).next_set (omega arith))
      ]

  opened_healthy : Healthy b columns (step l s (opens a))
  opened_healthy = step_healthy l s (opens a) whole h

  -- the slot that was taken holds the digest and the secret
  opened_given : Given columns s.table.next next_ticket a.digest (stored_secret (asking l s a)) (step l s (opens a))
  opened_given = rw done record { before = omega arith; holds = holds }
    where
      slot : ℕ
      slot = slot_of s.table 0

      free : slot < 64
      free = (succeeded (asking l s a) done).ready.free

      stored : row columns (splice (slot * s.table.columns) (stored_secret (asking l s a)) s.slab) slot ≡ stored_secret (asking l s a)
      stored =
          rw (← h.columns)
          (row_replaced s.table.columns slot (stored_secret (asking l s a)) s.slab (slot_fits s h slot free)
          (length_stored (asking l s a)))

      holds : pending (took l s a).table s.table.next ≡ true
          → Holds columns s.table.next next_ticket a.digest (stored_secret (asking l s a)) (took l s a)
          (slot_of (took l s a).table s.table.next)
      holds w =
          let well : Healthy b columns (took l s a) = rw done at opened_healthy in
          let has = number_here s.table slot (s.table.next + 1) s.table.next a.digest free h.sized in
          rw (← own (took l s a).table s.table.next slot well.formed w free has) (
            digest_here s.table slot (s.table.next + 1) s.table.next a.digest free h.sized whole,
            stored,
          )

  pub held : (es : List Event) → Typed es
      → let u = run l (step l s (opens a)) es in
      let slot = slot_of u.table s.table.next in
      pending u.table s.table.next ≡ true
      → (digest_at u.table slot ≡ a.digest) × (row columns u.slab slot ≡ stored_secret (asking l s a))
  held es typed =
      (given_still columns s.table.next next_ticket a.digest (stored_secret (asking l s a))
      (does_all l (step l s (opens a)) es typed) opened_healthy opened_given).holds
