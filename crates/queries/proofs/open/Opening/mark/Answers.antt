use Rattle.std.proofs.Common.{◌≡◌, ℕ, ◌<◌, false, length, get_or, arith, ap, ◌∙◌}
use Rattle.leaves.specs.Positions.{positions_bad}
use Rattle.leaves.proofs.positions.Distinct.{below}
use Rattle.leaves.specs.Rounding.{delta}
use Rattle.queries.proofs.open.Marks.{no_wrap, none_marked, entry_kept, one_marked, all_marked}
use Rattle.queries.proofs.open.Opening.mark.Goals as goal
use Rattle.queries.proofs.open.Opening.mark.Goals.{In-loop-p, Start}

-- the positions are the query's
good : (st : Start) → positions_bad (length st.args.query.now) st.args.self.now.positions ≡ false
good st = rw st.requires.query_len st.args.self.now.apart

-- in a turn: the position lies inside the query, whose entry there is as it was
module _ (k : In-loop-p) where
  abbrev at : ℕ
  at = get_or k.args.self.now.positions k.loop-p.p-index 0

  inside : at < length k.args.query.now
  inside = below (length k.args.query.now) k.args.self.now.positions (good (goal.at.In-loop-p k).Start) k.loop-p.p-index (omega arith)

  kept : get_or k.loop-p.query at 0 ≡ get_or k.args.query.now at 0
  kept =
      ap (λ xs. get_or xs at 0) k.loop-p.invariant
      ∙ entry_kept (delta k.args.self.now.table.b) k.args.self.now.positions k.args.query.now (good (goal.at.In-loop-p k).Start) k.loop-p.p-index (omega arith)

pub loop-p-init : goal.loop-p-init
loop-p-init c = none_marked (delta c.args.self.now.table.b) c.args.self.now.positions c.args.query.now

pub bounds-query-p : goal.bounds-query-p
bounds-query-p c = omega (arith, inside (goal.at.bounds-query-p c).In-loop-p)

pub overflow_add-query : goal.overflow_add-query
overflow_add-query c =
    let a = c.args in
    omega (
      arith,
      c.delta-delta.ensures,
      ap delta c.width.ensures,
      kept (goal.at.overflow_add-query c).In-loop-p,
      no_wrap a.self.now.table.b a.self.now.positions a.query.now c.requires.query_value c.loop-p.p-index (omega arith),
    )

pub bounds-query-p-in-loop-p : goal.bounds-query-p-in-loop-p
bounds-query-p-in-loop-p c = omega (arith, inside (goal.at.bounds-query-p-in-loop-p c).In-loop-p)

pub loop-p-preserved : goal.loop-p-preserved
loop-p-preserved c =
    let a = c.args in
    rw (c.delta-delta.ensures, c.width.ensures, c.loop-p.invariant)
    (one_marked (delta a.self.now.table.b) a.self.now.positions a.query.now (good (goal.at.loop-p-preserved c).Start) c.loop-p.p-index (omega arith))

pub returns : goal.returns
returns c =
    let a = c.args in
    let l = c.loop-p in
    let e : l.p-index ≡ length a.self.now.positions = omega arith in
    (rw e at l.invariant) ∙ all_marked a.self.now.table.b a.self.now.positions a.query.now
