-- A row of the table's length is lent; what was recovered is then read.
use Rattle.std.proofs.Common.{◌≡◌, ℕ, ◌≤◌, length, take, replicate, sym, ◌∙◌, arith, length-take}
use Rattle.pending.proofs.table.Formed.{few_columns}
use Rattle.replies.proofs.reply.Waiting.answer.Goals as goal
use Rattle.replies.proofs.reply.Waiting.answer.Goals.{Start}

-- the words that are lent for the row
blank : (n : ℕ) → n ≤ 512 → n ≡ length {A = ℕ} (take n (replicate 512 0))
blank n h = omega (arith, length-take {A = ℕ} n (replicate 512 0))

blank_for : (st : Start) → let n = st.args.self.now.table.columns in n ≡ length {A = ℕ} (take n (replicate 512 0))
blank_for st = blank _ (few_columns _ st.args.self.now.formed)

pub slice_bounds-room-end : goal.slice_bounds-room-end
slice_bounds-room-end c = few_columns _ c.args.self.now.formed

pub slice_bounds-row-end : goal.slice_bounds-row-end
slice_bounds-row-end c = blank_for (goal.at.slice_bounds-row-end c).Start

pub recover-requires : goal.recover-requires
recover-requires c = sym (blank_for (goal.at.recover-requires c).Start)

pub read_row-requires : goal.read_row-requires
read_row-requires c =
    (c.recover.auto.row ∙ sym (blank_for (goal.at.read_row-requires c).Start), c.requires)

pub returns : goal.returns
returns c = rw (← c.recover.ensures) c.read_row.ensures
