-- The keys' shape was tested, and on success the database is laid over the words that were lent.
use Rattle.std.proofs.Common.{◌≡◌, ◌*◌, ◌++◌, ℕ, List, length, drop, sym, ap, ◌∙◌, rules, length-take-le}
use Rattle.laws.specs.Lists.{laid}
use Rattle.laws.proofs.Refusals.{written}
use Rattle.builder.specs.Database.{Proposed, proposed, build_number, database, keys_of}
use Rattle.builder.proofs.database.Sizes.{Sized, sized}
use Rattle.builder.proofs.database.build_database.Goals as goal
use Rattle.builder.proofs.database.build_database.Goals.{Else-keys_bad}

built : (p : Proposed) (words : List ℕ) → length words ≡ p.r * p.columns
    → words ≡ database p.b p.r p.columns (keys_of p) p.count
    → words ++ drop (p.r * p.columns) p.held ≡ laid (database p.b p.r p.columns (keys_of p) p.count) p.held
unfolding laid
built p words h e = ap (λ n. words ++ drop n p.held) (sym h) ∙ ap (λ xs. laid xs p.held) e

shape : (c : Else-keys_bad)
    → let a = c.args in
    Sized (proposed a.b a.r a.columns a.count a.rows.now a.masks.now a.positions.now a.targets.now a.database.now)
shape c = sized _ (sym (c.keys_bad.ensures c.args.b) ∙ c.if-keys_bad.false)

pub invariant_of-keys : goal.invariant_of-keys
invariant_of-keys c =
    let z = shape (goal.at.invariant_of-keys c).Else-keys_bad in record {
      r_most = z.r_most;
      columns_most = z.columns_most;
      rows_whole = z.rows_whole;
      masks_whole = z.masks_whole;
      positions_whole = z.positions_whole;
      targets_whole = z.targets_whole;
    }

pub slice_bounds-place_keys-end : goal.slice_bounds-place_keys-end
slice_bounds-place_keys-end c = (shape (goal.at.slice_bounds-place_keys-end c).Else-keys_bad).roomy

pub slice_bounds-place_keys-end-2 : goal.slice_bounds-place_keys-end-2
slice_bounds-place_keys-end-2 c = sym (length-take-le _ _ (shape (goal.at.slice_bounds-place_keys-end-2 c).Else-keys_bad).roomy)

pub place_keys-requires-clause-words_len : goal.place_keys-requires-clause-words_len
place_keys-requires-clause-words_len c = length-take-le _ _ (shape (goal.at.place_keys-requires-clause-words_len c).Else-keys_bad).roomy

pub returns-clause-database_after : goal.returns-clause-database_after
unfolding build_number
returns-clause-database_after c =
    let a = c.args in
    let p = proposed a.b a.r a.columns a.count a.rows.now a.masks.now a.positions.now a.targets.now a.database.now in
    let width : c.in_ok-width.width.bits ≡ a.b = search rules in
    let size : length c.place_keys.new.words ≡ a.r * a.columns =
    c.place_keys.auto.words ∙ length-take-le _ _ (shape (goal.at.returns-clause-database_after c).Else-keys_bad).roomy in
    let none : build_number p ≡ 0 = search rules in
    built p c.place_keys.new.words size (rw (← width) c.place_keys.ensures) ∙ written _ _ _ none
