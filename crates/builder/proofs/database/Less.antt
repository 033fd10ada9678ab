-- A number less another modulo 2^b: where sums were wrapped (2^b divides 2^32), and less two numbers, one after the other.
use Rattle.std.proofs.Common.{◌≡◌, ℕ, ◌+◌, ◌-◌, ◌/◌, ◌%◌, ◌^◌, ◌≤◌, refl, ap, ◌∙◌, mod-lt, div-add-mod', arith, pow_pos}
use lib.Pow.{mod-mod-pow}
use Rattle.laws.proofs.Sums.{cong_eq, cong_wrap, cong_add, cong_trans, mod_in}
use Rattle.builder.specs.Database.{less}

pub narrow : (b x : ℕ) → b ≤ 32 → x % 2 ^ 32 % 2 ^ b ≡ x % 2 ^ b
narrow b x h =
    let e : 32 ≡ 32 - b + b = omega arith in
    ap (λ (k : ℕ). x % 2 ^ k % 2 ^ b) e ∙ mod-mod-pow x (32 - b) b

pub less_wrapped : (b a c : ℕ) → b ≤ 32 → less b a (c % 2 ^ 32) ≡ less b a c
unfolding less
less_wrapped b a c h = ap (λ (x : ℕ). (a + (2 ^ b - x)) % 2 ^ b) (narrow b c h)

-- less one and then the other is less their sum
pub less-less : (b a c d : ℕ) → less b (less b a c) d ≡ less b a (c + d)
unfolding less
less-less b a c d =
    let M : ℕ = 2 ^ b in
    let ec = div-add-mod' c M in
    let ed = div-add-mod' d M in
    let es = div-add-mod' (c + d) M in
    let lc = mod-lt c (pow_pos b) in
    let ld = mod-lt d (pow_pos b) in
    let ls = mod-lt (c + d) (pow_pos b) in
    (cong_trans (cong_add (cong_wrap (a + (M - c % M)) refl) (cong_eq {b = M - d % M} refl))
    (mod_in M (a + (M - c % M) + (M - d % M)) (a + (M - (c + d) % M)) ((c + d) / M) (1 + c / M + d / M) (omega arith))).same
