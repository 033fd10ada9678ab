-- The search over the elements is the definition's over their places.
use Rattle.std.proofs.Common.{◌≡◌, ℕ, ◌-◌, Bool, eqb, List, length, get_or, take, ap, ◌∙◌, arith, rules, tests, length-take, get_or-take}
use Rattle.std.specs.List.{list_any}
use Rattle.std.proofs.lemmas.Iterator.{YieldsList-from_slice}
use Rattle.std.proofs.lemmas.Iterator.Search.{any_from_yields_List}
use Rattle.laws.specs.Search.{some}
use Rattle.laws.proofs.Search.{list_any-some, some_ext}
use Rattle.frames.specs.Lines.{digit_value, digits_bad}
use Rattle.frames.proofs.lines.digits_bad.Goals as goal

abbrev no_digit : ℕ → Bool
no_digit c = eqb (digit_value c) 16

before_last : (line : List ℕ) → list_any no_digit (take (length line - 1) line) ≡ digits_bad line
unfolding digits_bad
before_last line =
    let n = length line - 1 in
    let e : length (take n line) ≡ n = simp length-take (omega arith) in
    list_any-some no_digit 0 (take n line)
    ∙ ap (λ k. some k (λ i. no_digit (get_or (take n line) i 0))) e
    ∙ some_ext (λ i. no_digit (get_or (take n line) i 0)) (λ i. no_digit (get_or line i 0)) n (λ i h. ap no_digit (get_or-take n line i 0 h))

pub returns : goal.returns
returns c =
    let line = c.args.line.now in
    let any : c.any.result ≡ list_any no_digit (take (length line - 1) line) =
    any_from_yields_List no_digit _ _ _ c.any.ensures.ran (YieldsList-from_slice (take (length line - 1) line) cc)
    (λ x b q k. search (rules, tests)) in
    any ∙ before_last line
