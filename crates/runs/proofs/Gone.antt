-- A reply to a ticket that is not pending, never or no longer, is refused and changes nothing: of any table, over any slab.
use mathlib.Core.Path.{◌≡◌, refl, sym, ap, ◌∙◌}
use mathlib.Core.Bool.{Bool, true, false, true≢false, not}
use mathlib.Core.List.{List, ◌∷◌}
use Prim.Native.Nat.{ℕ, ◌<◌, ◌≤◌}
use native.Mathlib.Decide.{dec_lt}
use native.Mathlib.Omega.{arith}
use lib.Dec.{eqb}
use lib.ListN.{length}
use borrow.Author.Tests.{eq-eqb}
use Rattle.laws.specs.Refusals.{Test, ◌⇒◌, first}
use Rattle.laws.proofs.Refusals.{not_answered, kept}
use Rattle.rows.specs.Codec.{value_room_of}
use Rattle.pending.specs.Table.{malformed, pending}
use Rattle.replies.specs.Reply.{lent_bad, slot_for, row_for, row_tests, reply_number, closing}
use Rattle.replies.proofs.reply.Answers.{none_early, waiting}
use Rattle.runs.specs.Run.{Lent, State, Tell, Event, telling, Brings}
use Rattle.runs.specs.Said.{said, Refused}
use Rattle.runs.proofs.Healthy.{Healthy, lent_good}
use Rattle.runs.proofs.Brings.{told}

module _ (s : State) (a : Tell) (gone : pending s.table a.ticket ≡ false) where
  -- what closes a ticket closes one that is pending; and 0 does
  stays_open : closing (reply_number (telling s a)) ≡ false
  stays_open = by_test (closing (reply_number (telling s a))) refl
    where
      by_test : (b : Bool) → closing (reply_number (telling s a)) ≡ b → b ≡ false
      by_test true e = absurd (true≢false (sym (waiting (telling s a) (none_early (telling s a) e)) ∙ gone))
      by_test false e = refl

  refused : 0 < reply_number (telling s a)
  refused =
      elim (dec_lt 0 (reply_number (telling s a))) [
        | yes l ↦ l
        | no g ↦ absurd (zero_closes (omega arith))
      ]
    where
      zero_closes : ¬ (reply_number (telling s a) ≡ 0)
      zero_closes e = true≢false (sym (ap closing e) ∙ stays_open)

  module _ (l : Lent) (e : Event) (brings : Brings e a) where
    pub gone_refused : Refused l s e a.value
    gone_refused =
        let t = told l s e a brings in
        record {
          number = rw t.number refused;
          length = t.length ∙ sym (kept _ _ _ refused);
          value = t.value ∙ sym (kept _ _ _ refused);
          state = t.state ∙ rw stays_open;
        }

    -- with buffers of the right size by 10
    pub gone_ten : {b columns : ℕ} → Healthy b columns s → length a.masks ≡ columns → value_room_of b columns ≤ length a.value
        → (said l s e).number ≡ 10
    unfolding reply_number
    gone_ten {b} {columns} h wide roomy =
        (told l s e a brings).number ∙ rw (h.formed, lent_good b columns h a.masks a.value wide roomy, gone)

-- 10 is given for a ticket that is not pending, and for nothing else
module _ (s : State) (a : Tell) where
  ten_gone : reply_number (telling s a) ≡ 10 → pending s.table a.ticket ≡ false
  unfolding reply_number
  ten_gone =
      by_tests (malformed s.table) (lent_bad s.table (length s.slab) (length a.masks) (length a.value))
      (pending s.table a.ticket)
    where
      -- the tests after it, none of which has that number
      later : List Test
      later =
          not (eqb (length a.response) s.table.columns) ⇒ 12
          ∷ row_tests s.table (slot_for (telling s a)) (row_for (telling s a))

      by_tests : (bad lent waits : Bool) → first (bad ⇒ 18 ∷ lent ⇒ 2 ∷ not waits ⇒ 10 ∷ later) ≡ 10 → waits ≡ false
      by_tests true lent waits e = absurd (omega arith)
      by_tests false true waits e = absurd (omega arith)
      by_tests false false true e =
          absurd (true≢false (sym (eq-eqb (first later) 10 e) ∙ not_answered 9 later (refl, (refl, (refl, (refl, tt))))))
      by_tests false false false e = refl

  pub ten_only : (l : Lent) (e : Event) → Brings e a → (said l s e).number ≡ 10 → pending s.table a.ticket ≡ false
  ten_only l e brings ten = ten_gone (sym (told l s e a brings).number ∙ ten)
