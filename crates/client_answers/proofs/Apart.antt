-- An answer can be made again from what it tells, so two that tell the same are one.
use mathlib.Core.Path.{◌≡◌, refl}
use mathlib.Core.Bool.{cond}
use Prim.Native.Nat.{ℕ}
use lib.Dec.{eqb}
use Rattle.std.specs.Prelude.{Result, Ok, Err}
use Rattle.laws.proofs.Contracts.{told_apart}
use Rattle.client_answers.specs.declared.open.OpeningRefusal.{OpeningRefusal}
use Rattle.client_answers.specs.declared.open.OpeningRefusal.TheVariants as opening
use Rattle.client_answers.specs.Open.{told_opening, opening_number, opening_ticket, opening_read}
use Rattle.client_answers.specs.declared.reply.ReplyingRefusal.{ReplyingRefusal}
use Rattle.client_answers.specs.declared.reply.ReplyingRefusal.TheVariants as replying
use Rattle.client_answers.specs.Reply.{told_replying, replying_number, replying_length}
use Rattle.client_answers.specs.declared.discard.DiscardingRefusal.{DiscardingRefusal}
use Rattle.client_answers.specs.declared.discard.DiscardingRefusal.TheVariants as discarding
use Rattle.client_answers.specs.Discard.{discarding_number}

abbrev opening_of : ℕ → ℕ → ℕ → Result (ℕ × ℕ) OpeningRefusal
opening_of number ticket read =
    cond (eqb number 0) (Ok (ticket, read))
    (cond (eqb number 18) (Err opening.Table)
    (cond (eqb number 2) (Err opening.Shape)
    (cond (eqb number 4) (Err opening.Interval)
    (cond (eqb number 5) (Err opening.Positions)
    (cond (eqb number 7) (Err opening.Pending)
    (cond (eqb number 8) (Err opening.Full)
    (cond (eqb number 9) (Err opening.Numbers)
    (cond (eqb number 3) (Err opening.Short) (Err (opening.Wraps read))))))))))

opening_back : (x : Result (ℕ × ℕ) OpeningRefusal) → opening_of (opening_number x) (opening_ticket x) (opening_read x) ≡ x
opening_back (Ok pair) = refl
opening_back (Err opening.Table) = refl
opening_back (Err opening.Shape) = refl
opening_back (Err opening.Interval) = refl
opening_back (Err opening.Positions) = refl
opening_back (Err opening.Pending) = refl
opening_back (Err opening.Full) = refl
opening_back (Err opening.Numbers) = refl
opening_back (Err opening.Short) = refl
opening_back (Err (opening.Wraps read)) = refl

pub same_opening : {x y : Result (ℕ × ℕ) OpeningRefusal} → opening_number x ≡ opening_number y → opening_ticket x ≡ opening_ticket y → opening_read x ≡ opening_read y → x ≡ y
same_opening p q r =
    told_apart told_opening (λ t. opening_of t.number t.ticket t.read) opening_back
    (λ i. record { number = p i; ticket = q i; read = r i })

abbrev replying_of : ℕ → ℕ → Result ℕ ReplyingRefusal
replying_of number length =
    cond (eqb number 0) (Ok length)
    (cond (eqb number 18) (Err replying.Table)
    (cond (eqb number 2) (Err replying.Shape)
    (cond (eqb number 10) (Err replying.NotPending)
    (cond (eqb number 12) (Err replying.Length)
    (cond (eqb number 17) (Err replying.Element)
    (cond (eqb number 13) (Err replying.Marker) (Err replying.Digest)))))))

replying_back : (x : Result ℕ ReplyingRefusal) → replying_of (replying_number x) (replying_length x) ≡ x
replying_back (Ok length) = refl
replying_back (Err replying.Table) = refl
replying_back (Err replying.Shape) = refl
replying_back (Err replying.NotPending) = refl
replying_back (Err replying.Length) = refl
replying_back (Err replying.Element) = refl
replying_back (Err replying.Marker) = refl
replying_back (Err replying.Digest) = refl

pub same_replying : {x y : Result ℕ ReplyingRefusal} → replying_number x ≡ replying_number y → replying_length x ≡ replying_length y → x ≡ y
same_replying p q =
    told_apart told_replying (λ t. replying_of t.number t.length) replying_back
    (λ i. record { number = p i; length = q i })

abbrev discarding_of : ℕ → Result Unit DiscardingRefusal
discarding_of number =
    cond (eqb number 0) (Ok tt)
    (cond (eqb number 18) (Err discarding.Table)
    (cond (eqb number 2) (Err discarding.Shape) (Err discarding.NotPending)))

discarding_back : (x : Result Unit DiscardingRefusal) → discarding_of (discarding_number x) ≡ x
discarding_back (Ok done) = refl
discarding_back (Err discarding.Table) = refl
discarding_back (Err discarding.Shape) = refl
discarding_back (Err discarding.NotPending) = refl

pub same_discarding : {x y : Result Unit DiscardingRefusal} → discarding_number x ≡ discarding_number y → x ≡ y
same_discarding = told_apart discarding_number discarding_of discarding_back
