use Rattle.std.proofs.Common.{◌≡◌, ℕ, ◌+◌, ◌*◌, ◌<◌, ◌≤◌, length, ap, ◌∙◌, arith}
use Rattle.laws.specs.Lists.{join, row}
use Rattle.laws.proofs.Lists.{room, row_lent, length_part, length-row}
use Rattle.laws.proofs.Filling.{filled_none, row_more}
use Rattle.arith.proofs.packing.each_row.Goals as goal

pub loop-j-init : goal.loop-j-init
unfolding join
loop-j-init g c = λ made long post. filled_none _

pub loop-j-preserved : goal.loop-j-preserved
loop-j-preserved g c = λ made long post.
    let a = c.args in
    let l = c.loop-j in
    let p = l.invariant made long post in
    let each : (j : ℕ) → j < a.rows → length (made (row a.from a.words.now j)) ≡ a.to =
    λ j h. long _ (length-row a.from a.rows j a.words.now c.requires.words_len h) in
    let from = ap length (row_lent a.from l.j a.words.now) ∙ length-row a.from a.rows l.j a.words.now c.requires.words_len c.loop-j-test.true in
    let inside : l.j * a.to + a.to ≤ length l.out = omega (arith, room l.j a.rows a.to c.loop-j-test.true, c.requires.out_len) in
    let to = ap length (row_lent a.to l.j l.out) ∙ length_part _ _ l.out inside in
    row_more _ _ _ each _ l.out _ c.requires.out_len l.j c.loop-j-test.true
    (post _ _ _ _ from to c.work.ensures ∙ ap made (row_lent a.from l.j a.words.now)) p

pub returns : goal.returns
returns g c = λ made long post.
    let e : c.loop-j.j ≡ c.args.rows = omega arith in
    rw e at (c.loop-j.invariant made long post).laid_is
