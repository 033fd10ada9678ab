use Rattle.std.proofs.Common.{◌≡◌, ℕ, ◌+◌, ◌/◌, ◌%◌, ◌^◌, length, sym, ap, ◌∙◌, pow-suc, add-one, arith, rules}
use native.Mathlib.Nat.{div-div-eq-div-mul}
use Rattle.std.proofs.lemmas.Grind.{common_steps}
use Rattle.laws.proofs.Lists.{build-from}
use Rattle.plain.proofs.bytes.put_word.Goals as goal

-- what is left after one byte more
left : (x i : ℕ) → x / 256 ^ i / 256 ≡ x / 256 ^ (i + 1)
left x i = div-div-eq-div-mul x (256 ^ i) 256 ∙ ap (λ (d : ℕ). x / d) (sym (ap (λ (j : ℕ). 256 ^ j) (add-one i) ∙ pow-suc 256 i))

pub loop-byte-preserved : goal.loop-byte-preserved
loop-byte-preserved c = let e = left c.args.x c.loop-byte.byte-index in grind (arith, common_steps)

pub returns : goal.returns
returns c =
    build-from (length c.args.part.now) (λ i. c.args.x / 256 ^ i % 256) c.loop-byte.part 0 (search rules)
    (λ k h. c.loop-byte.invariant.1 k (omega arith))
