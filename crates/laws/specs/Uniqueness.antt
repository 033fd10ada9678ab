-- Document 01, "What the contracts have to settle": two results allowed for one input coincide. It is said of a function's own
-- contract, as the checker reads it off the source, and not of the definitions that the contract cites: so a clause that is
-- missing there is missed here.
use Rattle.std.specs.Prelude.{◌≡◌, ℕ, List}
use seplogic.Ra.Ura.{Ura}
use base.Logic.{SProp, ent}
use prog.Memory.{Memory}
use prog.Routine.{Routine}
use types.Logic.{Logic}
use contract.Lifetimes.{Lfts}
use contract.Monad.{Fun, conj, fact}
use denote.Triple.Entry.{Args, Res}
use denote.Triple.Clauses.{Ended, Clauses, Lasts, at_exit}
use borrow.Fn.Kinds.{ParamKind, ResultKind, Dens, Out, ended_of, res_t}

-- A function with these parameters and this result, and its contract: `Reads.Post`, which computes to the `ensures` lines.
module _ {n : ℕ} (ps : List (ParamKind n)) (r : ResultKind n) (Post : Out n ps r) where
  -- Two results, each beside what every lent buffer holds at exit: the buffers coincide, and so does what is told of the
  -- results. The last values v and w are those of all parameters, so that no buffer whose loan ends can be left out.
  abbrev pub TellsOne : {B : Lfts n → Type 0} → ((κs : Lfts n) → (res_t r κs).Denot → B κs) → Type 0
  TellsOne told =
      (κs : Lfts n) (a : Dens κs ps) (x y : (res_t r κs).Denot) (v w : Lasts (ended_of n ps r) κs a)
      → Post κs a x (at_exit (ended_of n ps r) κs a v)
      → Post κs a y (at_exit (ended_of n ps r) κs a w)
      → (told κs x ≡ told κs y) × (v ≡ w)

  -- and the results themselves do
  abbrev pub AllowsOne : Type 0
  AllowsOne = TellsOne (λ κs x. x)

  -- the results alone: of a function that takes values of any type by value, which may hold a loan of their own
  abbrev pub AnswersOne : Type 0
  AnswersOne =
      (κs : Lfts n) (a : Dens κs ps) (x y : (res_t r κs).Denot) (v w : Lasts (ended_of n ps r) κs a)
      → Post κs a x (at_exit (ended_of n ps r) κs a v)
      → Post κs a y (at_exit (ended_of n ps r) κs a w)
      → x ≡ y

-- The same where no `Reads` is made of a contract, as of a function that takes or returns the packed view. It is an assertion of
-- the logic then: its `clauses`. Where two results are both asserted, that they coincide is a fact.
module _ (M : Type 1) (T : Ended)
    (clauses : (𝓤 : Ura M) (𝓛 : Logic 𝓤) → (Memory → SProp 𝓤) → (Routine → Fun 𝓤) → Clauses 𝓤 T) where
  abbrev pub WalkAllowsOne : Type 2
  WalkAllowsOne =
      (𝓤 : Ura M) (𝓛 : Logic 𝓤) (mem : Memory → SProp 𝓤) (run : Routine → Fun 𝓤)
      (κs : Lfts T.signature.lifetimes) (a : Args T.signature κs) (g : (clauses 𝓤 𝓛 mem run κs a).ghost)
      (x y : Res T.signature κs) (v w : Lasts T κs a)
      → let ensured = (clauses 𝓤 𝓛 mem run κs a).ensures g in
      ent 𝓤 (conj 𝓤 (ensured x (at_exit T κs a v)) (ensured y (at_exit T κs a w))) (fact 𝓤 ((x ≡ y) × (v ≡ w)))
