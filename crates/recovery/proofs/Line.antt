-- The query line is what the writer makes, and the honest line is read as its ticket and its words.
use mathlib.Core.Path.{◌≡◌, sym, ap, ap₂, ◌∙◌}
use mathlib.Core.List.{List}
use Prim.Native.Nat.{ℕ, ◌^◌, ◌<◌, ◌≤◌}
use native.Mathlib.Omega.{arith}
use lib.ListN.{length, get_or, take}
use borrow.Author.Tests.{le-ltb, ne_eqb}
use Rattle.laws.specs.Lists.{laid}
use Rattle.laws.specs.Refusals.{outside}
use Rattle.laws.proofs.Below.{each_below}
use Rattle.laws.proofs.Filling.{take-laid}
use Rattle.laws.proofs.Refusals.{neither, inside, within, written}
use Rattle.plain.proofs.matrix.Cells.{length-product}
use Rattle.rows.specs.Codec.{columns_bad}
use Rattle.frames.specs.Lines.{frame, line_length, line_ticket, write_line_number, write_line_length, write_line_after}
use Rattle.frames.proofs.lines.Answers.{whole}
use Rattle.frames.proofs.lines.RoundTrip.{read_back}
use Rattle.runs.specs.Run.{comes, Brings}
use Rattle.runs.proofs.Brings.{length_words, frame_brings}
use Rattle.recovery.specs.Store.{Store, Sound, served, served_line}
use Rattle.recovery.proofs.Row.{product_small}

-- a sound store has 1 to 512 columns
columns_in : (st : Store) → Sound st → (1 ≤ st.columns) × (st.columns ≤ 512)
unfolding columns_bad
columns_in st sound = inside 1 512 st.columns (neither (outside 1 512 st.columns) _ sound.sizes).0

-- a response has one word a column
module _ (st : Store) (q : List ℕ) where
  long : length (served st q) ≡ st.columns
  long = length-product st.r st.columns q st.elements

  small : (i : ℕ) → get_or (served st q) i 0 < 2 ^ 32
  small =
      each_below (2 ^ 32) (served st q) (omega arith)
      (λ i l. product_small st.r st.columns q st.elements i (omega (arith, long)))

-- a query line
module _ (t : ℕ) (q : List ℕ) (some : 0 < t) (fits : t < 2 ^ 32) (words : (i : ℕ) → get_or q i 0 < 2 ^ 32) (least : 1 ≤ length q)
    (most : length q ≤ 4096) where
  frame_long : length (frame 1 t q) ≡ line_length (length q)
  frame_long =
      let back = read_back 1 t q (omega arith) some fits words least most in
      (whole 1 (frame 1 t q) back.0).long ∙ ap line_length (sym (length_words (frame 1 t q)) ∙ ap length back.2)

  taken : (buffer : List ℕ) → line_length (length q) ≤ length buffer → write_line_number t (length q) (length buffer) ≡ 0
  unfolding write_line_number
  taken buffer room =
      simp (ne_eqb t 0 (λ e. omega arith), within 1 4096 (length q) least most, le-ltb (length buffer) (line_length (length q)) room)

  -- is what the writer leaves at the start of a buffer that has room for it
  pub line_sent : (buffer : List ℕ) → line_length (length q) ≤ length buffer
      → (write_line_number t (length q) (length buffer) ≡ 0)
      × (take (write_line_length t (length q) (length buffer)) (write_line_after 1 t q buffer) ≡ frame 1 t q)
  line_sent buffer room =
      let done = taken buffer room in (
        done,
        ap₂ (λ (k : ℕ) (xs : List ℕ). take k xs) (sym (written _ (line_length (length q)) 0 done))
            (sym (written _ (laid (frame 1 t q) buffer) buffer done))
            ∙ take-laid (frame 1 t q) buffer (line_length (length q)) frame_long,
      )

-- the server's line for a query line
module _ (st : Store) (sound : Sound st) (t : ℕ) (q : List ℕ) (some : 0 < t) (fits : t < 2 ^ 32)
    (words : (i : ℕ) → get_or q i 0 < 2 ^ 32) (least : 1 ≤ length q) (most : length q ≤ 4096) where
  -- is the frame of the query's ticket and the product
  line_is : served_line st (frame 1 t q) ≡ frame 2 t (served st q)
  line_is = let back = read_back 1 t q (omega arith) some fits words least most in rw (back.1, back.2)

  pub ticket_of_line : line_ticket (served_line st (frame 1 t q)) ≡ t
  ticket_of_line =
      let c = columns_in st sound in
      let n = long st q in
      ap line_ticket line_is ∙ (read_back 2 t (served st q) (omega arith) some fits (small st q) (omega arith) (omega arith)).1

  pub line_brings : (out masks value : List ℕ) → st.columns ≤ length out
      → Brings (comes (served_line st (frame 1 t q)) out masks value)
      record { ticket = t; response = served st q; masks = masks; value = value }
  line_brings out masks value roomy =
      let c = columns_in st sound in
      let n = long st q in
      rw line_is (frame_brings t (served st q) out some fits (small st q) (omega arith) (omega arith) (omega arith) masks value)
