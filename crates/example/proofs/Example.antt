-- The run is answered as stated, by computing; and what the demand supposes holds of it, so that it is not vacuous.
use mathlib.Core.Path.{◌≡◌, refl}
use mathlib.Core.Bool.{◌&&◌, and-eq-true_iff}
use mathlib.Core.List.{[], ◌∷◌}
use Prim.Native.Nat.{ℕ, zero, suc, ◌^◌, ◌<◌}
use native.Mathlib.Omega.{arith}
use lib.Dec.{lit<}
use lib.IntN.{pos, neg_ℤ}
use lib.ListN.{get_or, replicate}
use lib.Signed.{lt_z, le_z}
use borrow.Author.Tests.{not-false}
use Rattle.laws.specs.Lists.{build, join, laid, splice}
use Rattle.laws.specs.Sums.{sum}
use Rattle.laws.specs.Search.{some, lowest}
use Rattle.laws.specs.Bits.{bit_of, gathered, carried}
use Rattle.laws.proofs.Search.{none_holds}
use Rattle.leaves.specs.Limits.{any_above}
use Rattle.leaves.specs.Positions.{among, positions_bad}
use Rattle.leaves.specs.Digests.{differs}
use Rattle.leaves.specs.Rounding.{rounded}
use Rattle.plain.specs.Matrix.{grid, times}
use Rattle.plain.specs.Bytes.{all_bytes, matrix_bytes, word_at}
use Rattle.samples.specs.Sampler.{accepted, ternary, given, holds_enough, shortest, too_few}
use Rattle.rows.specs.Codec.{columns_bad, encode_number, record_of, row_of, bytes_of, last_nonzero, marker_bad}
use Rattle.builder.specs.Database.{less, database, keys_bad, build_number}
use Rattle.builder.specs.Placement.{seen_before, key_bad, placement_bad}
use Rattle.pending.specs.Table.{alike, malformed, pending, digest_pending, full, fresh_number}
use Rattle.queries.specs.Open.{open_shape_bad, both_read, either_short, noisy, wraps, marked, error_of, open_number}
use Rattle.replies.specs.Reply.{lent_bad, less_word, recovered, reply_number}
use Rattle.replies.specs.Discard.{discard_number}
use Rattle.frames.specs.Lines.{digit, hex, frame, digit_value, unhex, line_words, digits_bad, line_bad, read_line_number}
use Rattle.runs.specs.Run.{asking, run}
use Rattle.runs.specs.Said.{said}
use Rattle.recovery.specs.Noise.{signed, sum_ℤ}
use Rattle.recovery.specs.Store.{Calm}
use Rattle.recovery.proofs.Demand.{demand}
use Rattle.example.specs.Example.{value, masks, proposal, calls, ask, opening, line_one, line_two, arriving, then, later}
use Rattle.example.specs.Example.{store, all_told, column, loud, Shown}

threes : (n i : ℕ) → get_or (replicate n 3) i 0 < 256
threes zero i = lit< tt
threes (suc n) zero = lit< tt
threes (suc n) (suc i) = threes n i

five_six : (i : ℕ) → get_or value i 0 < 256
five_six zero = lit< tt
five_six (suc zero) = lit< tt
five_six (suc (suc i)) = lit< tt

pub shown : Shown
unfolding build join laid splice sum some lowest bit_of gathered carried any_above grid times among positions_bad accepted ternary given holds_enough shortest too_few all_bytes matrix_bytes word_at columns_bad record_of row_of bytes_of last_nonzero marker_bad less database keys_bad build_number seen_before key_bad placement_bad differs alike malformed pending digest_pending full rounded open_shape_bad both_read either_short noisy wraps marked open_number lent_bad less_word recovered reply_number discard_number fresh_number digit hex frame digit_value unhex line_words digits_bad line_bad read_line_number run all_told encode_number signed sum_ℤ
shown = record {
  told = refl;
  sound = record { width = refl; sizes = refl; whole = refl; fits = refl };
  key_placed = record {
    given = proposal;
    same_b = refl;
    same_r = refl;
    same_columns = refl;
    built = refl;
    elements = refl;
    i = 0;
    below = lit< tt;
    written = refl;
    its_row = refl;
    its_positions = refl;
    its_masks = refl;
    digest_bytes = threes 32;
    value_bytes = five_six;
  };
  waits = record {
    since = record {
      reached = record { slab = replicate 1280 7; events = opening; whole = refl; typed = (refl, (tt, tt)); is = refl };
      digest = refl;
      opened = refl;
      later = arriving line_one ∷ [];
      typed = (tt, tt);
      is = refl;
    };
    still = refl;
  };
  none_loud = refl;
}

-- no column is loud, so all are calm
pub calm : Calm store (error_of (asking calls then (ask 3)))
calm = record {
  column = λ j h.
      let low = lt_z (neg_ℤ (pos (2 ^ 17))) (column j) in
      let high = le_z (column j) (pos (2 ^ 17)) in
      let q = (and-eq-true_iff low high).0 (not-false (low && high) (none_holds loud 20 j shown.none_loud h)) in
      record { above = record { lt = rw q.0 tt }; most = record { le = rw q.1 tt } };
}

-- and so the demand says what the run has shown: the line of ticket 2 comes, and the key's bytes are in the terminal's buffer
pub bytes_back : (said calls later (arriving line_two)).value ≡ laid value (7 ∷ 7 ∷ 7 ∷ [])
bytes_back =
    ((demand store shown.sound).delivers then later (ask 3) shown.waits calm (replicate 20 7) masks (7 ∷ 7 ∷ 7 ∷ []) value
    (omega arith) (refl, omega arith) shown.key_placed).2
