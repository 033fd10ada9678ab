-- Demand 3 of document 00, proved of every sound store.
use mathlib.Core.Path.{◌≡◌, refl, sym, ap, ap₂, ◌∙◌}
use mathlib.Core.Bool.{false}
use mathlib.Core.List.{List}
use Prim.Native.Nat.{ℕ, ◌^◌, ◌<◌, ◌≤◌}
use native.Mathlib.Decide.{dec_lt}
use native.Mathlib.Omega.{arith}
use lib.ListN.{length, get_or, take}
use borrow.Author.Tests.{eq-eqb}
use Rattle.laws.specs.Lists.{row, laid}
use Rattle.laws.specs.Refusals.{after}
use Rattle.laws.proofs.Refusals.{written}
use Rattle.plain.proofs.matrix.Cells.{length-product}
use Rattle.rows.specs.Codec.{row_of, value_length, value_of}
use Rattle.pending.specs.Table.{pending, slot_of, digest_at, fresh_number}
use Rattle.queries.specs.Open.{Asked, error_of, stored_secret, secret_of, noisy, marked}
use Rattle.replies.specs.Reply.{slot_for, row_for, row_number_of, reply_number}
use Rattle.frames.specs.Lines.{line_length, line_ticket, read_line_number, read_line_ticket, write_line_number, write_line_length, write_line_after}
use Rattle.queries.proofs.open.Answers.{Ready, succeeded}
use Rattle.runs.specs.Run.{Lent, State, Ask, Event, opens, comes, asking, telling, read_from, Brings, step, start}
use Rattle.runs.specs.Said.{said, Refused}
use Rattle.runs.proofs.Steps.{does}
use Rattle.runs.proofs.Healthy.{Healthy, start_healthy, step_healthy, run_healthy, lent_good}
use Rattle.runs.proofs.Touched.{does_others}
use Rattle.runs.proofs.Groups.{grouped}
use Rattle.runs.proofs.Held.{held, next_ticket}
use Rattle.runs.proofs.Brings.{Told, told, unread}
use Rattle.runs.proofs.Gone.{gone_refused, gone_ten, ten_only}
use Rattle.recovery.specs.Store.{Store, Sound, calls_of, served, Calm, wanted}
use Rattle.recovery.specs.Demand.{Reached, Since, Waiting, ticket_of, query_of, query_line, line_of, honest, Roomy, Placed, Demand}
use Rattle.recovery.proofs.Errors.{error_ternary, error_word}
use Rattle.recovery.proofs.Query.{length_marked, query_is, query_word}
use Rattle.recovery.proofs.Line.{line_sent, ticket_of_line, line_brings}
use Rattle.recovery.proofs.Row.{recovered_row}
use Rattle.recovery.proofs.Value.{Gives, value_read, placed}

module _ (st : Store) (sound : Sound st) where
  abbrev calls : Lent
  calls = calls_of st

  -- a table can be made for it
  made : fresh_number st.b st.columns ≡ 0
  unfolding fresh_number
  made = rw (sound.width, sound.sizes)

  reached_healthy : (s : State) → Reached st s → Healthy st.b st.columns s
  reached_healthy s r =
      rw r.is (run_healthy calls (start st.b st.columns r.slab) r.events r.typed
      (start_healthy st.b st.columns r.slab made r.whole))

  -- an open that succeeded, and any events since
  module _ (s u : State) (a : Ask) (w : Since st s a u) where
    abbrev opening : Asked
    opening = asking calls s a

    healthy : Healthy st.b st.columns s
    healthy = reached_healthy s w.reached

    later_healthy : Healthy st.b st.columns u
    later_healthy =
        rw w.is (run_healthy calls (step calls s (opens a)) w.later w.typed (step_healthy calls s (opens a) w.digest healthy))

    ready : Ready opening
    ready = (succeeded opening w.opened).ready

    -- the query, with the store's b in place of the table's
    query : query_of st s a ≡ marked st.b a.positions (noisy st.n st.r (secret_of opening) st.matrix (error_of opening))
    query = rw (← healthy.width) (query_is opening w.opened)

    long : length (query_of st s a) ≡ st.r
    long = ap length (query_is opening w.opened) ∙ length_marked opening w.opened

    -- its ticket is the next number
    is_next : ticket_of st s a ≡ s.table.next
    is_next = sym (written _ s.table.next 0 w.opened)

    some : 0 < ticket_of st s a
    some = rw is_next (next_ticket calls s a healthy w.digest w.opened)

    small : ticket_of st s a < 2 ^ 32
    small = omega (arith, is_next, healthy.next)

    word : (i : ℕ) → get_or (query_of st s a) i 0 < 2 ^ 32
    word i = rw (query_is opening w.opened) (query_word opening w.opened i)

    line : (out masks value : List ℕ) → st.columns ≤ length out
        → Brings (comes (line_of st s a) out masks value) (honest st s a masks value)
    line =
        line_brings st sound (ticket_of st s a) (query_of st s a) some small word
        (omega (arith, long, ready.shape.r_least)) (omega (arith, long, ready.shape.r_most))

    sent : (buffer : List ℕ) → line_length st.r ≤ length buffer
        → (write_line_number (ticket_of st s a) (length (query_of st s a)) (length buffer) ≡ 0)
        × (take (write_line_length (ticket_of st s a) (length (query_of st s a)) (length buffer))
        (write_line_after 1 (ticket_of st s a) (query_of st s a) buffer)
        ≡ query_line st s a)
    sent buffer room =
        line_sent (ticket_of st s a) (query_of st s a) some small word
        (omega (arith, long, ready.shape.r_least)) (omega (arith, long, ready.shape.r_most)) buffer (omega (arith, long, room))

    ticket : line_ticket (line_of st s a) ≡ ticket_of st s a
    ticket =
        ticket_of_line st sound (ticket_of st s a) (query_of st s a) some small word
        (omega (arith, long, ready.shape.r_least)) (omega (arith, long, ready.shape.r_most))

    module _ (out masks value : List ℕ) where
      abbrev number : ℕ
      number = read_line_number 2 (line_of st s a) (length out)

      late : pending u.table (ticket_of st s a) ≡ false
          → Refused calls u (comes (line_of st s a) out masks value) value
          × (st.columns ≤ length out → Roomy st masks value → (said calls u (comes (line_of st s a) out masks value)).number ≡ 10)
      late none = (
        elim (dec_lt 0 number) [
          | yes h ↦ unread calls u (line_of st s a) out masks value h
          | no g ↦ let taken : number ≡ 0 = omega arith in
              let named : read_line_ticket 2 (line_of st s a) (length out) ≡ ticket_of st s a =
              sym (written number (line_ticket (line_of st s a)) 0 taken) ∙ ticket in
              gone_refused u (read_from (line_of st s a) out masks value) (ap (pending u.table) named ∙ none) calls
              (comes (line_of st s a) out masks value) (taken, refl)
        ],
        λ room roomy.
            gone_ten u (honest st s a masks value) none calls (comes (line_of st s a) out masks value) (line out masks value room)
            later_healthy roomy.0 roomy.1,
      )

  -- and its ticket is still pending
  module _ (s u : State) (a : Ask) (p : Waiting st s a u) where
    abbrev w : Since st s a u
    w = p.since

    own : (digest_at u.table (slot_of u.table (ticket_of st s a)) ≡ a.digest)
        × (row st.columns u.slab (slot_of u.table (ticket_of st s a)) ≡ stored_secret (asking calls s a))
    own =
        rw (is_next s u a w, w.is)
        (held calls s a (healthy s u a w) w.digest w.opened w.later w.typed (rw (is_next s u a w, w.is) at p.still))

    module _ (calm : Calm st (error_of (asking calls s a))) (masks value : List ℕ) (roomy : Roomy st masks value) where
      -- the row of what the line has to say
      honest-row : row_for (telling u (honest st s a masks value)) ≡ wanted st a.positions masks
      honest-row =
          rw (query s u a w, (later_healthy s u a w).width, (later_healthy s u a w).columns, own.1, (healthy s u a w).columns)
          (recovered_row st (secret_of (asking calls s a)) (error_of (asking calls s a)) a.positions masks sound
          (ready s u a w).places (λ i _. error_word (asking calls s a) i) calm)

      -- past the tests that need no row, the row decides
      row_decides : reply_number (telling u (honest st s a masks value))
          ≡ row_number_of u.table (slot_for (telling u (honest st s a masks value))) (row_for (telling u (honest st s a masks value)))
      unfolding reply_number row_number_of
      row_decides =
          let lent = lent_good st.b st.columns (later_healthy s u a w) masks value roomy.0 roomy.1 in
          let wide = eq-eqb (length (served st (query_of st s a))) u.table.columns
          (length-product st.r st.columns (query_of st s a) st.elements ∙ sym (later_healthy s u a w).columns) in
          rw ((later_healthy s u a w).formed, lent, p.still, wide)

      module _ (e : Event) (brings : Brings e (honest st s a masks value)) where
        t : Told calls u e (honest st s a masks value)
        t = told calls u e (honest st s a masks value) brings

        abbrev slot : ℕ
        slot = slot_of u.table (ticket_of st s a)

        by_row : reply_number (telling u (honest st s a masks value)) ≡ row_number_of u.table slot (wanted st a.positions masks)
        by_row = row_decides ∙ ap (row_number_of u.table slot) honest-row

        recovers : let found = wanted st a.positions masks in
            let number = row_number_of u.table slot found in
            (row_for (telling u (honest st s a masks value)) ≡ found)
            × ((said calls u e).number ≡ number)
            × ((said calls u e).length ≡ after number (value_length st.b st.columns found) 0)
            × ((said calls u e).value ≡ after number (laid (value_of st.b st.columns found) value) value)
        recovers =
            let h = later_healthy s u a w in (
              honest-row,
              t.number ∙ by_row,
              t.length ∙ rw (by_row, honest-row, h.width, h.columns),
              t.value ∙ rw (by_row, honest-row, h.width, h.columns),
            )

        answers : (v : List ℕ) → Placed st a masks v
            → ((said calls u e).number ≡ 0) × ((said calls u e).length ≡ length v) × ((said calls u e).value ≡ laid v value)
        answers v k = (
          t.number ∙ number,
          t.length
              ∙ sym (written _ _ 0 number)
              ∙ ap (value_length u.table.b u.table.columns) found
              ∙ gives.length_is,
          t.value
              ∙ sym (written _ _ value number)
              ∙ ap (λ (x : List ℕ). laid x value) (ap (value_of u.table.b u.table.columns) found ∙ gives.value_is),
        )
          where
            -- the recovered row is the one that the writer made for the key
            found : row_for (telling u (honest st s a masks value)) ≡ row_of st.b st.columns a.digest v
            found =
                honest-row
                ∙ ap₂ (wanted st) k.its_positions k.its_masks
                ∙ placed st k.given k.same_b k.same_r k.same_columns k.built k.elements k.i k.below
                ∙ k.its_row

            gives : Gives u.table (slot_of u.table (ticket_of st s a)) (row_of st.b st.columns a.digest v) v
            gives =
                value_read st.b st.columns st.columns a.digest v k.written w.digest k.digest_bytes k.value_bytes
                u.table (later_healthy s u a w).width (later_healthy s u a w).columns (slot_of u.table (ticket_of st s a))
                own.0

            number : reply_number (telling u (honest st s a masks value)) ≡ 0
            number = row_decides ∙ ap (row_number_of u.table (slot_of u.table (ticket_of st s a))) found ∙ gives.success

pub demand : (st : Store) → Sound st → Demand st
demand st sound = record {
  formed = λ s r. (reached_healthy st sound s r).formed;
  gone = λ s e x brings none. (
    gone_refused s x none (calls_of st) e brings,
    λ r roomy. gone_ten s x none (calls_of st) e brings (reached_healthy st sound s r) roomy.0 roomy.1,
  );
  ten = λ s e x brings. ten_only s x (calls_of st) e brings;
  own = own st sound;
  ternary = λ s a i. error_ternary (asking (calls_of st) s a) i;
  sent = sent st sound;
  line = line st sound;
  late = λ s u a w none out masks value. late st sound s u a w out masks value none;
  recovers = λ s u a p calm masks value roomy. recovers st sound s u a p calm masks value roomy;
  answers = λ s u a p calm masks value v roomy k e brings. answers st sound s u a p calm masks value roomy e brings v k;
  delivers = λ s u a p calm out masks value v room roomy k.
      answers st sound s u a p calm masks value roomy (comes (line_of st s a) out masks value)
      (line st sound s u a p.since out masks value room) v k;
  groups = λ slab es. grouped (calls_of st) st.b st.columns slab es (made st sound);
  slots = λ s e r fits q free. (does_others (does (calls_of st) s e fits) (reached_healthy st sound s r) q free).secret;
}
