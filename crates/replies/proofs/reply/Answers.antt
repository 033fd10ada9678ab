-- The answers of a reply: refused before a row is recovered, or by what the row says.
use Rattle.std.proofs.Common.{◌≡◌, ℕ, ◌*◌, ◌<◌, ◌≤◌, true, false, not, ◌||◌, eqb, ltb, List, [], ◌∷◌, length, Result, Err, sym, refl, ◌∙◌, true≢false, arith, ltb-false, ne_eqb, eqb-true}
use native.Mathlib.Decide.{dec_lt}
use borrow.Author.Tests.{not-false}
use Rattle.laws.specs.Refusals.{Test, ◌⇒◌, first, after}
use Rattle.laws.specs.Lists.{row, laid}
use Rattle.laws.proofs.Refusals.{neither, refused_before, Clear, all_clear, clear_before, not_answered, kept}
use Rattle.rows.specs.Codec.{value_room_of, value_length, value_of}
use Rattle.pending.specs.declared.table.Table.{Table}
use Rattle.client_answers.specs.declared.reply.ReplyingRefusal.{ReplyingRefusal}
use Rattle.pending.specs.Table.{malformed, pending}
use Rattle.replies.specs.declared.reply.Waiting.{Waiting}
use Rattle.replies.specs.Reply.{Received, lent_bad, recovered, slot_for, row_for, row_tests, row_number_of, reply_number, closing}
use Rattle.replies.specs.Reply.{reply_length, reply_value}
use Rattle.client_answers.specs.Reply.{replying_refusal, replying_refuses, replying_number, replying_length}
use Rattle.pending.proofs.table.Answers.{Closable}

-- what is lent has the table's lengths
pub fits : (t : Table) (slab masks value : ℕ) → lent_bad t slab masks value ≡ false
    → (slab ≡ 64 * t.columns) × (masks ≡ t.columns) × (value_room_of t.b t.columns ≤ value)
unfolding lent_bad
fits t slab masks value e =
    let p = neither (not (eqb slab (64 * t.columns)) || not (eqb masks t.columns)) (ltb value (value_room_of t.b t.columns)) e in
    let q = neither (not (eqb slab (64 * t.columns))) (not (eqb masks t.columns)) p.0 in
    (eqb-true _ _ (not-false _ q.0), eqb-true _ _ (not-false _ q.1), ltb-false _ _ p.1)

-- what an answer says, and what the value buffer holds
pub record Told (a : Received) (r : Result ℕ ReplyingRefusal) (value : List ℕ) : Type 0 where
  pub number_is : replying_number r ≡ reply_number a
  pub length_is : replying_length r ≡ reply_length a
  pub value_is : value ≡ reply_value a

module _ (a : Received) where
  -- a waiting ticket has what was lent for it
  abbrev pub Holds : Waiting → Type 0
  Holds w =
      (w.table ≡ a.table)
      × (w.slot.index ≡ slot_for a)
      × (w.secret.now ≡ row a.table.columns a.slab (slot_for a))
      × (w.response.now ≡ a.response)
      × (w.masks.now ≡ a.masks)

  -- the tests that need no row
  abbrev pub early : List Test
  early =
      malformed a.table ⇒ 18
      ∷ lent_bad a.table (length a.slab) (length a.masks) (length a.value) ⇒ 2
      ∷ not (pending a.table a.ticket) ⇒ 10
      ∷ not (eqb (length a.response) a.table.columns) ⇒ 12
      ∷ []

  abbrev late : List Test
  late = row_tests a.table (slot_for a) (row_for a)

  -- an early one holds
  module _ (refused : 0 < first early) where
    early_number : reply_number a ≡ first early
    unfolding reply_number
    early_number = refused_before early late refused

    -- none of their numbers closes the ticket
    early_open : closing (reply_number a) ≡ false
    early_open =
        let none : ¬ (first early ≡ 0) = λ e. omega arith in
        rw (
          early_number,
          ne_eqb (first early) 0 none,
          not_answered 12 early (refl, (refl, (refl, (refl, tt)))),
          not_answered 13 early (refl, (refl, (refl, (refl, tt)))),
        )

  -- an answer that closes the ticket is none of theirs
  pub none_early : closing (reply_number a) ≡ true → first early ≡ 0
  none_early e =
      elim (dec_lt 0 (first early)) [
        | yes h ↦ absurd (true≢false (sym e ∙ early_open h))
        | no g ↦ omega arith
      ]

  -- what is refused by one of them is refused
  pub early_told : (reason : ReplyingRefusal) → replying_refusal reason ≡ first early → Told a (Err reason) a.value
  early_told reason e =
      let refused : 0 < first early = rw (← e) (replying_refuses reason) in
      let number : reply_number a ≡ first early = early_number refused in
      let pos : 0 < reply_number a = rw number refused in
      record { number_is = e ∙ sym number; length_is = kept _ _ _ pos; value_is = kept _ _ _ pos }

  -- no early one holds
  module _ (none : first early ≡ 0) where
    clear : Clear early
    clear = all_clear early tt none

    pub lent : (length a.slab ≡ 64 * a.table.columns)
        × (length a.masks ≡ a.table.columns)
        × (value_room_of a.table.b a.table.columns ≤ length a.value)
    lent = fits _ _ _ _ clear.1.0

    pub waiting : pending a.table a.ticket ≡ true
    waiting = not-false _ clear.1.1.0

    pub can_close : Closable a.table (length a.slab) a.ticket
    can_close = record { waiting = waiting; whole = lent.0 }

    row_number : reply_number a ≡ row_number_of a.table (slot_for a) (row_for a)
    unfolding reply_number row_number_of
    row_number = clear_before early late clear

    -- what is answered for the row of a waiting ticket
    module _ (w : Waiting) (is : Holds w) where
      abbrev row_of : List ℕ
      row_of = recovered w.table.b w.secret.now w.response.now w.masks.now

      pub row_told : (r : Result ℕ ReplyingRefusal) (value : List ℕ)
          → replying_number r ≡ row_number_of w.table w.slot.index row_of
          → replying_length r ≡ after (replying_number r) (value_length w.table.b w.table.columns row_of) 0
          → value ≡ after (replying_number r) (laid (value_of w.table.b w.table.columns row_of) a.value) a.value
          → Told a r value
      row_told r value n l v =
          let e : replying_number r ≡ reply_number a = rw (is.0, is.1, is.2, is.3, is.4) at n ∙ sym row_number in
          record {
            number_is = e;
            length_is = rw (e, is.0, is.2, is.3, is.4) at l;
            value_is = rw (e, is.0, is.2, is.3, is.4) at v;
          }
