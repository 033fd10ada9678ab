-- The refusals of an open, in 01's order: those of its first step, and then 6. What a refusal and what success say.
use mathlib.Core.Path.{◌≡◌, refl, sym, ap, ◌∙◌}
use mathlib.Core.Bool.{true, false, true≢false}
use mathlib.Core.List.{List, [], ◌∷◌}
use Prim.Native.Nat.{ℕ, suc, zero, ◌*◌, ◌<◌}
use native.Mathlib.Nat.{not-suc-le-zero}
use native.Mathlib.Decide.{dec_lt}
use native.Mathlib.Omega.{arith}
use lib.Dec.{eqb}
use lib.ListN.{length, replicate}
use borrow.Author.Tests.{eqb-false, ne_eqb}
use Rattle.laws.specs.Refusals.{◌⇒◌, first, outside}
use Rattle.laws.specs.Lists.{splice, laid}
use Rattle.laws.proofs.Refusals.{passed, refused_before, Clear, all_clear, clear_before, not_answered}
use Rattle.leaves.specs.Positions.{positions_bad}
use Rattle.std.specs.Prelude.{Err}
use Rattle.client_answers.specs.declared.open.OpeningRefusal.{OpeningRefusal}
use Rattle.client_answers.specs.declared.open.OpeningRefusal.TheVariants as opening
use Rattle.client_answers.specs.Open.{opening_refusal, opening_read}
use Rattle.pending.specs.declared.table.Table.{Table}
use Rattle.pending.specs.Table.{digest_pending, full, slot_of, taken}
use Rattle.queries.specs.Open.{Asked, both_read, either_short, wraps, marked, noisy_of, stored_secret, open_tests, open_number}
use Rattle.queries.specs.Open.{OpenSaid, open_of, left, open_left}
use Rattle.pending.proofs.table.Slots.{slot_free}
use Rattle.queries.proofs.open.Sizes.{Limited, limited, Shaped, shaped}

-- the number of the first step
unfoldable pub early : Asked → ℕ
early a = first (open_tests a)

module _ (a : Asked) where
  -- the number of the whole
  refused_early : 0 < early a → open_number a ≡ early a
  unfolding early open_number
  refused_early h = refused_before (open_tests a) (wraps a.table.b a.positions (noisy_of a) ⇒ 6 ∷ []) h

  pub no_test : early a ≡ 0 → Clear (open_tests a)
  unfolding early
  no_test e = all_clear (open_tests a) tt e

  passed_early : early a ≡ 0 → open_number a ≡ first (wraps a.table.b a.positions (noisy_of a) ⇒ 6 ∷ [])
  unfolding open_number
  passed_early e = clear_before (open_tests a) (wraps a.table.b a.positions (noisy_of a) ⇒ 6 ∷ []) (no_test e)

  never_wraps : eqb (early a) 6 ≡ false
  unfolding early
  never_wraps = not_answered 5 (open_tests a) (refl, (refl, (refl, (refl, (refl, (refl, (refl, (refl, tt))))))))

  -- so the reason of the first step tells no count of words
  pub unread : (reason : OpeningRefusal) → opening_refusal reason ≡ early a → opening_read (Err reason) ≡ 0
  unread (opening.Wraps read) e = absurd (true≢false (ap (λ (n : ℕ). eqb n 6) e ∙ never_wraps))
  unread opening.Table e = refl
  unread opening.Shape e = refl
  unread opening.Interval e = refl
  unread opening.Positions e = refl
  unread opening.Pending e = refl
  unread opening.Full e = refl
  unread opening.Numbers e = refl
  unread opening.Short e = refl

-- The first step was passed. Whoever wants one of its tests takes it from here by name, and counts no places.
pub record Ready (a : Asked) : Type 0 where
  pub table : Limited a.table
  pub shape : Shaped a.table.columns a.n a.r (length a.slab) (length a.matrix) (length a.hint)
      (length a.secret) (length a.error) (length a.query)
  pub interval : outside 1 1431655765 a.interval ≡ false
  pub places : positions_bad a.r a.positions ≡ false
  pub unheld : digest_pending a.table a.digest ≡ false
  pub unfilled : full a.table ≡ false
  pub free : slot_of a.table 0 < 64
  pub next : ¬ (a.table.next ≡ 4294967295)
  pub enough : either_short a.interval a.n a.r a.words ≡ false

pub ready : (a : Asked) → early a ≡ 0 → Ready a
ready a e =
    let c = no_test a e in
    let d = c.1.1.1.1.1 in
    record {
      table = limited a.table c.0;
      shape = shaped _ _ _ _ _ _ _ _ _ c.1.0;
      interval = c.1.1.0;
      places = c.1.1.1.0;
      unheld = c.1.1.1.1.0;
      unfilled = d.0;
      free = (slot_free a.table d.0).0;
      next = eqb-false a.table.next 4294967295 d.1.0;
      enough = d.1.1.0;
    }

-- success: the first step was passed, and no entry wraps
pub record Succeeded (a : Asked) : Type 0 where
  pub ready : Ready a
  pub unwrapped : wraps a.table.b a.positions (noisy_of a) ≡ false

pub succeeded : (a : Asked) → open_number a ≡ 0 → Succeeded a
succeeded a e =
    elim (dec_lt 0 (early a)) [
      | yes h ↦ absurd (let f = refused_early a h in omega arith)
      | no g ↦ let none : early a ≡ 0 = omega arith in
          record {
            ready = ready a none;
            unwrapped = (passed (wraps a.table.b a.positions (noisy_of a)) 5 [] (sym (passed_early a none) ∙ e)).0;
          }
    ]

-- a refusal of the first step: nothing is read, and all stays as it was
module _ (a : Asked) (h : 0 < early a) where
  refused_as : (n : ℕ) → open_number a ≡ n → 0 < n → eqb n 6 ≡ false
      → (open_of a ≡ record { number = n; ticket = 0; read = 0; table = a.table })
      × (open_left a ≡ left a.slab a.secret a.error a.query)
  refused_as zero e l s = absurd (not-suc-le-zero l)
  refused_as (suc n) e l s = let z : eqb (suc n) 0 ≡ false = ne_eqb (suc n) 0 (λ q. omega arith) in (rw (e, z, s), rw (e, z, s))

  pub refused : (open_of a ≡ record { number = early a; ticket = 0; read = 0; table = a.table })
      × (open_left a ≡ left a.slab a.secret a.error a.query)
  refused = refused_as (early a) (refused_early a h) h (never_wraps a)

-- the first step was passed: 6, which reads the words and leaves the work buffers as zeros, or success
module _ (a : Asked) (e : early a ≡ 0) where
  abbrev zeroed : List ℕ → List ℕ
  zeroed work = replicate (length work) 0

  pub wrapped : wraps a.table.b a.positions (noisy_of a) ≡ true
      → (open_of a ≡ record { number = 6; ticket = 0; read = both_read a.interval a.n a.r a.words; table = a.table })
      × (open_left a ≡ left a.slab (zeroed a.secret) (zeroed a.error) a.query)
  wrapped w = let n : open_number a ≡ 6 = rw w at (passed_early a e) in (rw n, rw n)

  pub opened : wraps a.table.b a.positions (noisy_of a) ≡ false
      → (open_of a ≡ record {
        number = 0;
        ticket = a.table.next;
        read = both_read a.interval a.n a.r a.words;
        table = taken a.table (slot_of a.table 0) a.digest;
      })
      × (open_left a
      ≡ left (splice (slot_of a.table 0 * a.table.columns) (stored_secret a) a.slab) (zeroed a.secret) (zeroed a.error)
      (laid (marked a.table.b a.positions (noisy_of a)) a.query))
  opened w = let n : open_number a ≡ 0 = rw w at (passed_early a e) in (rw n, rw n)

-- two answers, and two sets of buffers, are one where their parts are
pub said_same : {n m t u k l : ℕ} {x y : Table} → n ≡ m → t ≡ u → k ≡ l → x ≡ y
    → ◌≡◌ {A = OpenSaid} (record { number = n; ticket = t; read = k; table = x }) (record { number = m; ticket = u; read = l; table = y })
said_same p q r s = cc

pub left_same : {a b c d e f g h : List ℕ} → a ≡ b → c ≡ d → e ≡ f → g ≡ h → left a c e g ≡ left b d f h
left_same p q r s = cc
