use Rattle.std.proofs.Common.{◌≡◌, length, get_or, arith}
use Rattle.laws.specs.Lists.{join}
use Rattle.laws.proofs.Filling.{filled_none, filled_whole, row_more}
use Rattle.plain.specs.Bytes.{word_bytes}
use Rattle.frames.specs.Lines.{hex}
use Rattle.frames.proofs.lines.Hex.{length-hex_word, length-hex_words, hex_words}
use Rattle.frames.proofs.lines.put_words_digits.Goals as goal

pub loop-q-init : goal.loop-q-init
unfolding join
loop-q-init c = filled_none _

pub loop-q-preserved : goal.loop-q-preserved
loop-q-preserved c =
    let xs = c.args.words.now in
    let l = c.loop-q in
    row_more (length xs) 8 (λ k. hex (word_bytes (get_or xs k 0))) (λ k _. length-hex_word (get_or xs k 0)) c.args.part.now l.part _
    (omega (arith, c.requires)) l.q c.loop-q-test.true c.put_word_digits.ensures l.invariant

pub returns : goal.returns
returns c =
    let xs = c.args.words.now in
    let e : c.loop-q.q ≡ length xs = omega arith in
    let filled = rw (e, ← hex_words xs) at c.loop-q.invariant in
    filled_whole filled (omega (arith, c.requires, length-hex_words xs))
