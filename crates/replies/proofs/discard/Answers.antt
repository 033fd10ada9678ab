-- What a refusal and what success say.
use Rattle.std.proofs.Common.{◌≡◌, ℕ, ◌*◌, true, false, not, eqb, [], ◌∷◌, eqb-true}
use borrow.Author.Tests.{not-false}
use Rattle.laws.specs.Refusals.{◌⇒◌}
use Rattle.laws.proofs.Refusals.{all_clear}
use Rattle.pending.specs.Table.{malformed, pending}
use Rattle.pending.proofs.table.Answers.{Closable}
use Rattle.replies.specs.Discard.{discard_number}
use Rattle.pending.specs.declared.table.Table.{Table}

-- 0: the table is well formed, the slab has its words, and the ticket is pending
pub record Accepted (t : Table) (slab ticket : ℕ) : Type 0 where
  pub well : malformed t ≡ false
  pub whole : slab ≡ 64 * t.columns
  pub waiting : pending t ticket ≡ true

pub accepted : (t : Table) (slab ticket : ℕ) → discard_number t slab ticket ≡ 0 → Accepted t slab ticket
unfolding discard_number
accepted t slab ticket e =
    let p = all_clear (malformed t ⇒ 18 ∷ not (eqb slab (64 * t.columns)) ⇒ 2 ∷ not (pending t ticket) ⇒ 10 ∷ []) tt e in
    record {
      well = p.0;
      whole = eqb-true _ _ (not-false _ p.1.0);
      waiting = not-false _ p.1.1.0;
    }

-- so the ticket can be closed
pub can_close : (t : Table) (slab ticket : ℕ) → discard_number t slab ticket ≡ 0 → Closable t slab ticket
can_close t slab ticket e = let p = accepted t slab ticket e in record { waiting = p.waiting; whole = p.whole }
