-- The row is written over the start of the output.
use Rattle.std.proofs.Common.{◌≡◌, ℕ, length, take, sym, ap, ap₂, ◌∙◌, arith, rules, length-take}
use Rattle.laws.specs.Lists.{laid}
use Rattle.laws.proofs.Refusals.{written}
use Rattle.rows.specs.Codec.{room_of, row_of, encode_number}
use Rattle.rows.proofs.codec.Sizes.{sized}
use Rattle.rows.proofs.codec.Bytes.{front, length_row}
use Rattle.rows.proofs.codec.encode_kv_as_row.Goals as goal

pub write-requires : goal.write-requires
write-requires c =
    omega (arith, length-take c.args.columns c.args.out.now, (sized c.args.b c.args.columns (sym c.if-columns_bad.ensures)).most)

pub returns-clause-out_after : goal.returns-clause-out_after
unfolding encode_number room_of
returns-clause-out_after c =
    let a = c.args in
    let n : length (take a.columns a.out.now) ≡ a.columns = omega (arith, length-take a.columns a.out.now) in
    let b : c.in_ok-width.width.bits ≡ a.b = search rules in
    let e = c.write.ensures ∙ ap₂ (λ (w k : ℕ). row_of w k a.digest a.value.now) b n in
    let z : encode_number a.b a.columns (length a.value.now) (length a.out.now) ≡ 0 = search rules in
    front a.columns _ a.out.now (ap length e ∙ length_row a.b a.columns a.digest a.value.now)
    ∙ ap (λ l. laid l a.out.now) e
    ∙ written _ _ _ z
