-- Document 01, "Pending table": 64 slots, of which a free one has number 0; when a table is malformed; a slot taken and a
-- slot closed.
use Rattle.std.specs.Prelude.{◌≡◌, ℕ, ◌+◌, ◌*◌, Bool, not, cond, ◌&&◌, ◌||◌, List, [], ◌∷◌, length, get_or, set, replicate, leb, eqb}
use Rattle.laws.specs.Refusals.{◌⇒◌, first, after, outside, width_bad}
use Rattle.laws.specs.Lists.{row, splice}
use Rattle.laws.specs.Search.{some, lowest}
use Rattle.leaves.specs.Digests.{differs}
use Rattle.rows.specs.Codec.{columns_bad}
use Rattle.pending.specs.declared.table.Table.{Table}

-- what the types of a table's arrays say, for laws about a table that no call has shown
pub record Sized (t : Table) : Type 0 where
  pub numbers : length t.numbers ≡ 64
  pub digests : length t.digests ≡ 2048

-- slot s: its number, its digest bytes; it is used where its number is not 0
abbrev pub number_at : Table → ℕ → ℕ
number_at t s = get_or t.numbers s 0

abbrev pub digest_at : Table → ℕ → List ℕ
digest_at t s = row 32 t.digests s

abbrev pub used : Table → ℕ → Bool
used t s = not (eqb (number_at t s) 0)

-- slots q and s are both used, and equal in number or digest
unfoldable pub alike : Table → ℕ → ℕ → Bool
alike t q s =
    (used t q && used t s)
    && (eqb (number_at t q) (number_at t s) || not (differs (digest_at t q) (digest_at t s)))

-- 18: a b or a C that no table has; next 0; a used slot whose number next has not passed; two used slots that share a number or
-- a digest; a free slot whose digest is not all zeros
unfoldable pub malformed : Table → Bool
malformed t =
    width_bad t.b
    || columns_bad t.b t.columns
    || eqb t.next 0
    || some 64 (λ s. used t s && leb t.next (number_at t s))
    || some 64 (λ s. some s (λ q. alike t q s))
    || some 64 (λ s. not (used t s) && differs (digest_at t s) (replicate 32 0))

-- the lowest slot with this number, or 64 where none has it
abbrev pub slot_of : Table → ℕ → ℕ
slot_of t number = lowest 64 (λ s. eqb (number_at t s) number)

-- a ticket is pending: it is the number of a slot (0 never is)
unfoldable pub pending : Table → ℕ → Bool
pending t ticket = not (eqb ticket 0) && some 64 (λ s. eqb (number_at t s) ticket)

-- 7: a used slot has this digest
unfoldable pub digest_pending : Table → List ℕ → Bool
digest_pending t digest = some 64 (λ s. used t s && not (differs (digest_at t s) digest))

-- a digest differs from slot s's; where s is free, or none of the 64, every digest does
unfoldable pub differs_at : Table → ℕ → List ℕ → Bool
differs_at t s digest = not (used t s) || differs digest (digest_at t s)

-- 8: every slot is used
unfoldable pub full : Table → Bool
full t = not (some 64 (λ s. eqb (number_at t s) 0))

-- slot s with the next number and this digest, and next one more
abbrev pub taken : Table → ℕ → List ℕ → Table
taken t s digest = record {
  b = t.b;
  columns = t.columns;
  next = t.next + 1;
  numbers = set t.numbers s t.next;
  digests = splice (s * 32) digest t.digests;
}

-- a slot can be taken for a digest: it is not pending, a slot is free, and next is a number that a ticket may have
unfoldable pub takable : Table → List ℕ → Bool
takable t digest = not (digest_pending t digest || full t || outside 1 4294967294 t.next)

-- the lowest free slot taken; else the table stays as it is
abbrev pub take_after : Table → List ℕ → Table
take_after t digest = cond (takable t digest) (taken t (slot_of t 0) digest) t

-- slot s freed, its digest zeroed
abbrev pub closed : Table → ℕ → Table
closed t s = record {
  b = t.b;
  columns = t.columns;
  next = t.next;
  numbers = set t.numbers s 0;
  digests = splice (s * 32) (replicate 32 0) t.digests;
}

-- a slab of `columns` words a slot, those of slot s zeroed
abbrev pub wiped : ℕ → ℕ → List ℕ → List ℕ
wiped columns s slab = splice (s * columns) (replicate columns 0) slab

-- a ticket can be closed: it is pending, and the slab has 64·C words
unfoldable pub closable : Table → ℕ → ℕ → Bool
closable t slab ticket = pending t ticket && eqb slab (64 * t.columns)

-- its slot freed and wiped; else all stays as it is
abbrev pub close_after : Table → ℕ → ℕ → Table
close_after t slab ticket = cond (closable t slab ticket) (closed t (slot_of t ticket)) t

abbrev pub wipe_after : Table → List ℕ → ℕ → List ℕ
wipe_after t slab ticket = cond (closable t (length slab) ticket) (wiped t.columns (slot_of t ticket) slab) slab

-- no ticket is pending and no digest is kept
abbrev pub fresh_table : ℕ → ℕ → ℕ → Table
fresh_table b columns next =
    record { b = b; columns = columns; next = next; numbers = replicate 64 0; digests = replicate 2048 0 }

-- what `fresh` answers, and the table then: next number 1; on a refusal all zero
unfoldable pub fresh_number : ℕ → ℕ → ℕ
fresh_number b columns = first (width_bad b ⇒ 1 ∷ columns_bad b columns ⇒ 2 ∷ [])

abbrev pub fresh_after : ℕ → ℕ → Table
fresh_after b columns = after (fresh_number b columns) (fresh_table b columns 1) (fresh_table 0 0 0)
