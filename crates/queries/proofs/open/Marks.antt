-- Δ at the positions: when an entry wraps there, and what one mark more makes of a query.
use mathlib.Core.Path.{◌≡◌, refl, sym, ap, ◌∙◌}
use mathlib.Core.Bool.{Bool, false, cond, or-true, or-false}
use mathlib.Core.List.{List}
use Prim.Native.Nat.{ℕ, ◌+◌, ◌-◌, ◌^◌, ◌<◌, ◌≤◌}
use native.Mathlib.Nat.{add-zero}
use native.Mathlib.Numerals.{add-one}
use native.Mathlib.Decide.{ℕ_discrete, dec_lt}
use native.Mathlib.Omega.{arith}
use lib.Dec.{leb, eqb}
use lib.ListN.{length, get_or, set, length-set}
use lib.Pow.{pow-lt}
use lib.Seq.{ext_get_or, get_or-set_same, get_or-set_other}
use borrow.Author.Tests.{leb-false, le-leb, lt-leb, le-ltb, lt-ltb, eq-eqb, ne_eqb}
use Rattle.laws.specs.Lists.{build}
use Rattle.laws.specs.Search.{some}
use Rattle.laws.proofs.Lists.{length-build, get_or-build, build_ext, build-get_or}
use Rattle.laws.proofs.Search.{none_holds, some-false}
use Rattle.leaves.specs.Positions.{among, positions_bad}
use Rattle.leaves.proofs.positions.Distinct.{below, distinct}
use Rattle.leaves.specs.Rounding.{delta}
use Rattle.std.specs.Prelude.{nat_lt}
use Rattle.queries.specs.Open.{wraps, marked}

-- the test that `wraps` makes at position s
abbrev pub over : ℕ → List ℕ → List ℕ → ℕ → Bool
over b ps q s = leb (2 ^ 32) (get_or q (get_or ps s 0) 0 + delta b)

-- the code's test, at the width's Δ
pub over_is : (b x : ℕ) → 4 ≤ b → b ≤ 14 → nat_lt (4294967295 - delta b) x ≡ leb (2 ^ 32) (x + delta b)
over_is b x h k =
    let few : 32 - b < 32 = omega arith in
    let small : delta b < 2 ^ 32 = pow-lt {j = 32} few in
    elim (dec_lt (4294967295 - delta b) x) [
      | yes l ↦ lt-ltb _ _ l ∙ sym (le-leb _ _ (omega arith))
      | no g ↦ le-ltb _ _ (omega arith) ∙ sym (lt-leb _ _ (omega arith))
    ]

-- where none wraps
pub no_wrap : (b : ℕ) (ps q : List ℕ) → wraps b ps q ≡ false → (s : ℕ) → s < length ps → get_or q (get_or ps s 0) 0 + delta b < 2 ^ 32
unfolding wraps
no_wrap b ps q e s l = leb-false (2 ^ 32) _ (none_holds (over b ps q) (length ps) s e l)

-- an entry with d added where it is at one of the first s positions
abbrev pub entry : ℕ → List ℕ → List ℕ → ℕ → ℕ → ℕ
entry d ps q s j = get_or q j 0 + cond (some s (λ k. eqb (get_or ps k 0) j)) d 0

abbrev pub partly_marked : ℕ → List ℕ → List ℕ → ℕ → List ℕ
partly_marked d ps q s = build (length q) (entry d ps q s)

-- a list made anew at one index
build-set : (n : ℕ) (f g : ℕ → ℕ) (i x : ℕ) → i < n → x ≡ g i → ((j : ℕ) → ¬ (i ≡ j) → f j ≡ g j)
    → set (build n f) i x ≡ build n g
build-set n f g i x h here other =
    ext_get_or 0 (set (build n f) i x) (build n g) (long ∙ sym (length-build n g))
    (λ j l.
    let k : j < n = omega (arith, long) in
    elim (ℕ_discrete i j) [ yes e ↦ at j e | no m ↦ past j m k ]
    ∙ sym (get_or-build n g j 0 k))
  where
    long : length (set (build n f) i x) ≡ n
    long = length-set (build n f) i x ∙ length-build n f

    at : (j : ℕ) → i ≡ j → get_or (set (build n f) i x) j 0 ≡ g j
    at j e = rw (← e) (get_or-set_same (build n f) i x 0 (omega (arith, length-build n f)) ∙ here)

    past : (j : ℕ) → ¬ (i ≡ j) → j < n → get_or (set (build n f) i x) j 0 ≡ g j
    past j m k =
        get_or-set_other (build n f) i j x 0 (λ e. m (sym e)) ∙ get_or-build n f j 0 k ∙ other j m

module _ (d : ℕ) (ps q : List ℕ) where
  pub none_marked : q ≡ partly_marked d ps q 0
  unfolding some
  none_marked = sym (build-get_or q 0) ∙ build_ext (length q) _ _ (λ j _. sym (add-zero (get_or q j 0)))

  -- position s, which differs from those before it and lies inside the query
  module _ (good : positions_bad (length q) ps ≡ false) (s : ℕ) (h : s < length ps) where
    -- its entry is as it was
    unmarked : some s (λ k. eqb (get_or ps k 0) (get_or ps s 0)) ≡ false
    unmarked =
        some-false (λ k. eqb (get_or ps k 0) (get_or ps s 0)) s
        (λ k l. ne_eqb (get_or ps k 0) (get_or ps s 0) (distinct (length q) ps good k s (omega arith) h (λ e. omega arith)))

    pub entry_kept : get_or (partly_marked d ps q s) (get_or ps s 0) 0 ≡ get_or q (get_or ps s 0) 0
    entry_kept =
        get_or-build (length q) (entry d ps q s) (get_or ps s 0) 0 (below (length q) ps good s h)
        ∙ ap (λ (t : Bool). get_or q (get_or ps s 0) 0 + cond t d 0) unmarked
        ∙ add-zero (get_or q (get_or ps s 0) 0)

    pub one_marked : set (partly_marked d ps q s) (get_or ps s 0) (get_or (partly_marked d ps q s) (get_or ps s 0) 0 + d) ≡ partly_marked d ps q (s + 1)
    unfolding some
    one_marked =
        build-set (length q) (entry d ps q s) (entry d ps q (s + 1)) (get_or ps s 0) _ (below (length q) ps good s h)
        (rw (add-one s, entry_kept, eq-eqb (get_or ps s 0) (get_or ps s 0) refl, or-true (some s (λ k. eqb (get_or ps k 0) (get_or ps s 0)))))
        (λ j n. rw (add-one s, ne_eqb (get_or ps s 0) j n, or-false (some s (λ k. eqb (get_or ps k 0) j))))

-- at all of them
pub all_marked : (b : ℕ) (ps q : List ℕ) → partly_marked (delta b) ps q (length ps) ≡ marked b ps q
unfolding marked among
all_marked b ps q = refl
