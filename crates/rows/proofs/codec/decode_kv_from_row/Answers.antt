-- Digest and value are written over the starts of their outputs.
use Rattle.std.proofs.Common.{◌≡◌, ℕ, ◌+◌, ◌-◌, ◌<◌, ◌≤◌, false, List, ◌++◌, length, take, drop, sym, ap, ◌∙◌, arith, rules, length-take}
use Rattle.laws.specs.Lists.{part, laid}
use Rattle.laws.proofs.Lists.{length_part}
use Rattle.laws.proofs.Refusals.{written}
use Rattle.rows.specs.Codec.{bytes_in, bytes_of, marker_at, marker_bad, reader_bad, decode_number}
use Rattle.rows.proofs.codec.Answers.{Lent, lent}
use Rattle.rows.proofs.codec.Bytes.{front, length_bytes}
use Rattle.rows.proofs.codec.decode_kv_from_row.Goals as goal
use Rattle.rows.proofs.codec.decode_kv_from_row.Goals.{Else-reader_bad, In_ok-n}

-- the outputs have room, and the row is whole
shape : (c : Else-reader_bad)
    → let a = c.args in Lent a.b a.columns (length a.row.now) (length a.digest.now) (length a.value.now)
shape c = lent _ _ _ _ _ (sym c.if-reader_bad.ensures)

-- what is read is what was asked for, in its output's place
placed : (bytes old ys : List ℕ) (from d : ℕ) → d ≤ length old → from + d ≤ length bytes
    → ys ≡ part from (length (take d old)) bytes → ys ++ drop d old ≡ laid (part from d bytes) old
placed bytes old ys from d h k e =
    let n : length (take d old) ≡ d = omega (arith, length-take d old) in
    let f : ys ≡ part from d bytes = e ∙ ap (λ m. part from m bytes) n in
    front d ys old (ap length f ∙ length_part from d bytes k) ∙ ap (λ l. laid l old) f

module _ (c : In_ok-n) where
  room : let a = c.args in Lent a.b a.columns (length a.row.now) (length a.digest.now) (length a.value.now)
  room = shape (goal.at.In_ok-n c).Else-reader_bad

  same_width : c.in_ok-width.width.bits ≡ c.args.b
  same_width = search rules

  found : let at = c.in_ok-n.field-0 in let a = c.args in
      (32 ≤ at) × (at < bytes_in a.b a.columns) × (at ≡ marker_at a.b a.columns a.row.now) × (marker_bad a.b a.columns a.row.now ≡ false)
  found = rw (← same_width, ← room.whole) (search rules)

  none : let a = c.args in decode_number a.b a.columns a.row.now (length a.digest.now) (length a.value.now) ≡ 0
  unfolding decode_number reader_bad
  none = search rules

pub slice_bounds-read-end-2 : goal.slice_bounds-read-end-2
slice_bounds-read-end-2 c =
    omega (arith, length-take 32 c.args.digest.now, (shape (goal.at.slice_bounds-read-end-2 c).Else-reader_bad).digest_room)

pub read-requires : goal.read-requires
read-requires c =
    let s = shape (goal.at.read-requires c).Else-reader_bad in
    let b : c.in_ok-width.width.bits ≡ c.args.b = search rules in
    rw (b, s.whole) (omega (arith, length-take 32 c.args.digest.now, s.size.bytes_least))

pub returns-clause-digest_after : goal.returns-clause-digest_after
returns-clause-digest_after c =
    let n = (goal.at.returns-clause-digest_after c).In_ok-n in
    let a = c.args in
    let s = room n in
    let e = rw (same_width n, s.whole) at c.read.ensures in
    let bytes = bytes_of a.b a.columns a.row.now in
    let k : 0 + 32 ≤ length bytes = omega (arith, length_bytes a.b a.columns a.row.now, s.size.bytes_least) in
    placed bytes a.digest.now _ 0 32 s.digest_room k e ∙ written _ _ _ (none n)

pub returns-clause-value_after : goal.returns-clause-value_after
returns-clause-value_after c =
    let n = (goal.at.returns-clause-value_after c).In_ok-n in
    let a = c.args in
    let s = room n in
    let f = found n in
    let d : ℕ = c.in_ok-n.field-0 - 32 in
    let e = rw (same_width n, s.whole) at c.read-2.ensures in
    let bytes = bytes_of a.b a.columns a.row.now in
    let k : 32 + d ≤ length bytes = omega (arith, length_bytes a.b a.columns a.row.now, f.0, f.1) in
    placed bytes a.value.now _ 32 d (omega (arith, s.value_room, f.1)) k e
    ∙ ap (λ at. laid (part 32 (at - 32) bytes) a.value.now) f.2
    ∙ written _ _ _ (none n)
