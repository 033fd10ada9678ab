-- Marks at the positions seen: what one more makes of them.
use Rattle.std.proofs.Common.{◌≡◌, ℕ, zero, suc, ◌+◌, ◌<◌, Bool, true, false, ◌||◌, eqb, leb, List, length, get_or, set, replicate, sym, refl, ap, ◌∙◌, add-one, arith, length-set, get_or-set_other, get_or-set_same, eq-eqb, ne_eqb}
use mathlib.Core.Bool.{or-true}
use native.Mathlib.Decide.{ℕ_discrete}
use Rattle.laws.specs.Search.{some}
use Rattle.leaves.specs.Positions.{among, positions_bad}
use Rattle.builder.specs.Keys.{Keys, target}
use Rattle.builder.specs.Placement.{seen_before, key_bad}

or-false : (t : Bool) → (t || false) ≡ t
or-false true = refl
or-false false = refl

-- the first n of the positions are marked, besides those that were
pub record Marked (ps : List ℕ) (n : ℕ) (old new : List Bool) : Type 0 where
  pub long : length new ≡ length old
  pub marked : (q : ℕ) → get_or new q false ≡ (get_or old q false || some n (λ s. eqb (get_or ps s 0) q))

pub marked_none : (ps : List ℕ) (old : List Bool) → Marked ps 0 old old
unfolding some
marked_none ps old = record { long = refl; marked = λ q. sym (or-false (get_or old q false)) }

pub marked_more : (ps : List ℕ) (n : ℕ) (old new : List Bool) → get_or ps n 0 < length old → Marked ps n old new
    → Marked ps (n + 1) old (set new (get_or ps n 0) true)
unfolding some
marked_more ps n old new h m = record {
  long = length-set new (get_or ps n 0) true ∙ m.long;
  marked = λ q. rw (add-one n) (elim (ℕ_discrete (get_or ps n 0) q) [ yes e ↦ here q e | no k ↦ other q k ]);
}
  where
    here : (q : ℕ) → get_or ps n 0 ≡ q
        → get_or (set new (get_or ps n 0) true) q false
        ≡ (get_or old q false || (some n (λ s. eqb (get_or ps s 0) q) || eqb (get_or ps n 0) q))
    here q e =
        rw (eq-eqb (get_or ps n 0) q e, or-true (some n (λ s. eqb (get_or ps s 0) q)), or-true (get_or old q false), ← e)
        (get_or-set_same new (get_or ps n 0) true false (omega (arith, m.long)))

    other : (q : ℕ) → ¬ (get_or ps n 0 ≡ q)
        → get_or (set new (get_or ps n 0) true) q false
        ≡ (get_or old q false || (some n (λ s. eqb (get_or ps s 0) q) || eqb (get_or ps n 0) q))
    other q k =
        rw (ne_eqb (get_or ps n 0) q k, or-false (some n (λ s. eqb (get_or ps s 0) q)))
        (get_or-set_other new (get_or ps n 0) q true false (λ e. k (sym e)) ∙ m.marked q)

-- a mark is set exactly at the positions of the first n keys
pub record Seen (ks : Keys) (n : ℕ) (marks : List Bool) : Type 0 where
  pub seen : (q : ℕ) → get_or marks q false ≡ seen_before ks n q

blank : (n q : ℕ) → get_or (replicate n false) q false ≡ false
blank zero q = refl
blank (suc n) zero = refl
blank (suc n) (suc q) = blank n q

pub seen_none : (ks : Keys) (n : ℕ) → Seen ks 0 (replicate n false)
unfolding seen_before some
seen_none ks n = record { seen = blank n }

pub seen_more : (ks : Keys) (n : ℕ) (old new : List Bool) → Seen ks n old
    → ((q : ℕ) → get_or new q false ≡ (get_or old q false || among (ks.places n) q)) → Seen ks (n + 1) new
unfolding seen_before some
seen_more ks n old new p h = record {
  seen = λ q. rw (add-one n) (h q ∙ ap (λ t. t || among (ks.places n) q) (p.seen q));
}

-- what the marks say of key n is what the keys before it say
pub judged : (r : ℕ) (ks : Keys) (n : ℕ) (marks : List Bool) (ps : List ℕ) → ps ≡ ks.places n → Seen ks n marks
    → (positions_bad r ps || leb (length ps) (ks.index n) || get_or marks (get_or ps (ks.index n) 0) false) ≡ key_bad r ks n
unfolding key_bad
judged r ks n marks ps e p =
    rw e
    (ap (λ t. positions_bad r (ks.places n) || leb (length (ks.places n)) (ks.index n) || t) (p.seen (target ks n)))
