use Rattle.std.proofs.Common.{◌≡◌, ℕ, ◌+◌, ◌*◌, ◌/◌, ◌%◌, ◌^◌, ◌≤◌, length, get_or, ap, ◌∙◌, arith}
use Rattle.laws.specs.Lists.{build, join}
use Rattle.laws.proofs.Lists.{room, row_lent, length_part, length-build}
use Rattle.laws.proofs.Filling.{filled_none, filled_whole, row_more}
use Rattle.plain.specs.Bytes.{word_bytes, all_bytes}
use Rattle.plain.proofs.bytes.Words.{length_bytes}
use Rattle.plain.proofs.bytes.put_words.Goals as goal

pub loop-q-init : goal.loop-q-init
unfolding join
loop-q-init c = filled_none _

pub loop-q-preserved : goal.loop-q-preserved
loop-q-preserved c =
    let xs = c.args.words.now in
    let l = c.loop-q in
    let in_out : l.q * 4 + 4 ≤ length l.out = omega (arith, room l.q (length xs) 4 c.loop-q-test.true, c.requires) in
    let lent = ap length (row_lent 4 l.q l.out) ∙ length_part (l.q * 4) 4 l.out in_out in
    let made = c.put_word.ensures ∙ ap (λ (n : ℕ). build n (λ i. get_or xs l.q 0 / 256 ^ i % 256)) lent in
    row_more (length xs) 4 (λ k. word_bytes (get_or xs k 0)) (λ k _. length-build 4 _) c.args.out.now l.out _ (omega (arith, c.requires))
    l.q c.loop-q-test.true made l.invariant

pub returns : goal.returns
unfolding all_bytes
returns c =
    let e : c.loop-q.q ≡ length c.args.words.now = omega arith in
    filled_whole (rw e at c.loop-q.invariant) (omega (arith, c.requires, length_bytes c.args.words.now))
