-- The reader's refusals, then the digest, and then the value.
use Rattle.std.proofs.Common.{◌≡◌, ℕ, ◌≤◌, cond, List, Result, Ok, Err, length, take, sym, refl, ap, ◌∙◌, arith, length-take}
use Rattle.std.specs.Result.{MatchResult, IsErrAnd}
use Rattle.std.proofs.lemmas.Result.{err_from_is_err_and}
use Rattle.laws.specs.Lists.{laid}
use Rattle.laws.proofs.Refusals.{written}
use Rattle.rows.specs.Codec.{value_length, value_of}
use Rattle.answers.specs.declared.codec.DecodingRefusal.{DecodingRefusal}
use Rattle.answers.specs.Codec.{decoding_refusal, decoding_refuses, decoding_number, decoding_length}
use Rattle.client_answers.specs.declared.reply.ReplyingRefusal.{ReplyingRefusal}
use Rattle.client_answers.specs.Reply.{replying_refusal, replying_refuses, replying_number, replying_length}
use Rattle.leaves.specs.Digests.{differs}
use Rattle.leaves.proofs.words.Copied.{copied_whole}
use Rattle.pending.specs.Table.{digest_at}
use Rattle.pending.proofs.table.Answers.{compared}
use Rattle.replies.specs.Reply.{digest_bad, row_number_of}
use Rattle.replies.proofs.reply.Reading.{Readable, readable, reader_number, room_most, value_fits, row_refusal, row_refused, digest_left, digest_read, value_read}
use Rattle.replies.proofs.reply.Waiting.read_row.Goals as goal
use Rattle.replies.proofs.reply.Waiting.read_row.Goals.{After-decode_kv_from_row, After-map_err, After-differs_at, In_err-n, In_ok-n}

-- a reason under the reply's name tells what the reader's tells
handed_on : (r : Result ℕ DecodingRefusal) (s : Result ℕ ReplyingRefusal)
    → MatchResult r (λ x. s ≡ Ok x) (λ e. IsErrAnd s (λ d. replying_refusal d ≡ decoding_refusal e))
    → (replying_number s ≡ decoding_number r) × (replying_length s ≡ decoding_length r)
handed_on (Ok x) s h = rw h (refl, refl)
handed_on (Err e) (Ok y) h = absurd h
handed_on (Err e) (Err d) h = (h, refl)

-- the row is read
fits : (k : After-decode_kv_from_row) → Readable k.args.self.now.table k.args.row.now
fits k = readable _ _ k.args.self.now.formed k.requires.0

module _ (k : After-map_err) where
  r : Readable k.args.self.now.table k.args.row.now
  r = fits (goal.at.After-map_err k).After-decode_kv_from_row

  told : (replying_number k.map_err.result ≡ decoding_number k.decode_kv_from_row.result)
      × (replying_length k.map_err.result ≡ decoding_length k.decode_kv_from_row.result)
  told = handed_on _ _ k.map_err.ensures.cases

  number : replying_number k.map_err.result ≡ reader_number k.args.self.now.table k.args.row.now
  number = told.0 ∙ k.decode_kv_from_row.ensures.number

-- it was taken
module _ (c : In_ok-n) where
  abbrev k : After-map_err
  k = (goal.at.In_ok-n c).After-map_err

  abbrev n : ℕ
  n = c.in_ok-n.n

  none : reader_number c.args.self.now.table c.args.row.now ≡ 0
  none = sym (number k) ∙ ap replying_number c.in_ok-n.was

  long : n ≡ value_length c.args.self.now.table.b c.args.self.now.table.columns c.args.row.now
  long =
      sym (ap replying_length c.in_ok-n.was) ∙ (told k).1 ∙ c.decode_kv_from_row.ensures.length ∙ sym (written _ _ _ none)

  -- the buffer that the value was read into
  abbrev found : List ℕ
  found = c.decode_kv_from_row.new.value

  in_found : n ≤ length found
  in_found = omega (arith, c.decode_kv_from_row.auto.value, long, value_fits _ _ (r k), room_most _ _ (r k))

  found_length : n ≡ length (take n found)
  found_length = omega (arith, in_found, length-take n found)

  found_value : take n found ≡ value_of c.args.self.now.table.b c.args.self.now.table.columns c.args.row.now
  found_value = value_read _ _ (r k) none n found long c.decode_kv_from_row.ensures.value_after

  -- there is room for the value
  roomy : n ≤ length c.args.value.now
  roomy = omega (arith, long, value_fits _ _ (r k), c.requires.1)

-- the two digests that are compared
module _ (c : After-differs_at) where
  abbrev took : In_ok-n
  took = (goal.at.After-differs_at c).In_ok-n

  number_is : row_number_of c.args.self.now.table c.args.self.now.slot.index c.args.row.now ≡ cond c.differs_at.result 14 0
  number_is =
      let t = c.args.self.now.table in
      let s = c.args.self.now.slot.index in
      let same : c.differs_at.result ≡ digest_bad t s c.args.row.now =
      c.differs_at.ensures
      ∙ compared t s _ c.args.self.now.taken
      ∙ ap (λ (x : List ℕ). differs x (digest_at t s))
      (digest_read _ _ (r (k took)) (none took) _ c.decode_kv_from_row.ensures.digest_after) in
      digest_left _ _ (r (k took)) (none took) s ∙ ap (λ t. cond t 14 0) (sym same)

pub map_err-requires : goal.map_err-requires
map_err-requires c e is =
    let r = fits (goal.at.map_err-requires c).After-decode_kv_from_row in
    let number : decoding_refusal e ≡ reader_number c.args.self.now.table c.args.row.now =
    sym (ap decoding_number is) ∙ c.decode_kv_from_row.ensures.number in
    rw number (row_refusal _ _ r (rw (← number) (decoding_refuses e)))

pub returns-in_err-n-clause-number : goal.returns-in_err-n-clause-number
returns-in_err-n-clause-number c =
    let k = (goal.at.returns-in_err-n-clause-number c).After-map_err in
    let d = c.in_err-n.field-0.0 in
    let e : replying_refusal d ≡ reader_number c.args.self.now.table c.args.row.now = sym (ap replying_number c.in_err-n.was) ∙ number k in
    let p = err_from_is_err_and c.from_residual.result c.from_residual.ensures.1 in
    rw (p.1, p.2) (e ∙ row_refused _ _ (r k) _ (rw (← e) (replying_refuses d)))

pub returns-then-differs_at-clause-number : goal.returns-then-differs_at-clause-number
returns-then-differs_at-clause-number c =
    sym (number_is (goal.at.returns-then-differs_at-clause-number c).After-differs_at ∙ ap (λ t. cond t 14 0) c.if-differs_at.true)

pub slice_bounds-found-end : goal.slice_bounds-found-end
slice_bounds-found-end c = in_found (goal.at.slice_bounds-found-end c).In_ok-n

pub slice_bounds-copy-end : goal.slice_bounds-copy-end
slice_bounds-copy-end c = found_length (goal.at.slice_bounds-copy-end c).In_ok-n

pub returns : goal.returns
returns c =
    let e = (goal.at.returns c).In_ok-n in
    record {
      number = sym (number_is (goal.at.returns c).After-differs_at ∙ ap (λ t. cond t 14 0) c.if-differs_at.false);
      length = long e;
      value_after = c.copy.ensures
          ∙ copied_whole _ _ (omega (arith, found_length e, roomy e))
          ∙ ap (λ (xs : List ℕ). laid xs c.args.value.now) (found_value e);
    }
