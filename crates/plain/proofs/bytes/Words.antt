-- Numbers as bytes: how many there are, and one list of numbers after another.
use Rattle.std.proofs.Common.{◌≡◌, ℕ, ◌*◌, List, ◌++◌, length, get_or, ap, ◌∙◌, ap₂, length-append, get_or-append-add}
use lib.ListN.{get_or-append}
use Rattle.laws.specs.Lists.{join}
use Rattle.laws.proofs.Lists.{length-build, length-join, join-add, join_ext}
use Rattle.plain.specs.Bytes.{word_bytes, all_bytes}

pub length_bytes : (xs : List ℕ) → length (all_bytes xs) ≡ length xs * 4
unfolding all_bytes
length_bytes xs = length-join 4 (λ q. word_bytes (get_or xs q 0)) (length xs) (λ q _. length-build 4 _)

pub bytes_append : (xs ys : List ℕ) → all_bytes (xs ++ ys) ≡ all_bytes xs ++ all_bytes ys
unfolding all_bytes
bytes_append xs ys =
    ap (λ (n : ℕ). join n (λ q. word_bytes (get_or (xs ++ ys) q 0))) (length-append xs ys)
    ∙ join-add (length xs) (length ys) (λ q. word_bytes (get_or (xs ++ ys) q 0))
    ∙ ap₂ ◌++◌
    (join_ext (length xs) _ _ (λ q h. ap word_bytes (get_or-append xs ys 0 q h)))
    (join_ext (length ys) _ _ (λ q _. ap word_bytes (get_or-append-add xs ys q 0)))
