-- The target row has its place inside the words.
use Rattle.std.proofs.Common.{◌≡◌, ℕ, ◌+◌, ◌-◌, ◌*◌, ◌<◌, ◌≤◌, false, List, length, get_or, ap, ◌∙◌, arith}
use Rattle.laws.specs.Lists.{part, row, splice}
use Rattle.laws.proofs.Lists.{room, row_lent, length-row, length_part, get_d_part}
use Rattle.leaves.proofs.positions.Distinct.{below}
use Rattle.builder.specs.declared.keys.LentKeys.{LentKeys}
use Rattle.builder.specs.Lent.{keys_in}
use Rattle.builder.specs.Placement.{placement_bad}
use Rattle.builder.specs.Database.{others_sum, target_row}
use Rattle.builder.proofs.placement.Rule.{Fine, each_fine}
use Rattle.builder.proofs.database.Writing.{lent_row, row_made}
use Rattle.builder.proofs.database.place_key.Goals as goal

module _ (ks : LentKeys) (i : ℕ) (h : i < ks.count) (rule : placement_bad ks.r (keys_in ks) ks.count ≡ false) where
  good : Fine ks.r (keys_in ks) i
  good = each_fine ks.r (keys_in ks) ks.count rule i h

  four : length (row 4 ks.positions.now i) ≡ 4
  four = length-row 4 ks.count i ks.positions.now (omega (arith, ks.positions_whole)) h

  target_in : get_or ks.targets.now i 0 < 4
  target_in = omega (arith, good.among, four)

  fits : (s : ℕ) → s < 4 → get_or (row 4 ks.positions.now i) s 0 * ks.columns + ks.columns ≤ ks.r * ks.columns
  fits s l =
      room (get_or (row 4 ks.positions.now i) s 0) ks.r ks.columns
      (below ks.r (row 4 ks.positions.now i) good.placed s (omega (arith, four)))

pub rest-requires-clause-by_index : goal.rest-requires-clause-by_index
rest-requires-clause-by_index c s l =
    let a = c.args in
    rw (c.places-ps.ensures, c.requires.words_len.1) (fits a.keys a.i c.requires.i_lt_count c.requires.rule s l)

pub bounds-ps-index : goal.bounds-ps-index
bounds-ps-index c = target_in c.args.keys c.args.i c.requires.i_lt_count c.requires.rule

pub slice_bounds-subtract_row-end-3 : goal.slice_bounds-subtract_row-end-3
slice_bounds-subtract_row-end-3 c =
    let a = c.args in
    let t = target_in a.keys a.i c.requires.i_lt_count c.requires.rule in
    rw (c.places-ps.ensures, c.requires.words_len.1) (fits a.keys a.i c.requires.i_lt_count c.requires.rule _ t)

pub returns : goal.returns
returns c =
    let a = c.args in
    let ks = a.keys in
    let k = ks.columns in
    let ps = c.places-ps.result in
    let index = get_or ks.targets.now a.i 0 in
    let at : ℕ = get_or ps index 0 * k in
    let mine : List ℕ → List ℕ = part (a.i * k) (a.i * k + k - a.i * k) in
    let word : (m : List ℕ) (j : ℕ) → j < k → get_or (mine m) j 0 ≡ get_or m (a.i * k + j) 0 =
    λ m j h. ap (λ xs. get_or xs j 0) (row_lent k a.i m) ∙ get_d_part (a.i * k) k m j 0 h in
    let t = target_in ks a.i c.requires.i_lt_count c.requires.rule in
    let inside : at + k ≤ length a.words.now =
    rw (c.places-ps.ensures, c.requires.words_len.1) (fits ks a.i c.requires.i_lt_count c.requires.rule index t) in
    let size : at + k - at ≡ k = omega arith in
    let long : length (part at (at + k - at) a.words.now) ≡ k = rw size (length_part at k a.words.now inside) in
    lent_row a.width.bits k at _ (others_sum k a.words.now ps index) a.words.now (mine ks.rows.now) _ (mine ks.masks.now) _
    (omega (arith, a.width.most)) long c.rest.ensures c.subtract_row.ensures
    ∙ ap (λ xs. splice at xs a.words.now)
    (row_made a.width.bits k (keys_in ks) a.i a.words.now ps (mine ks.rows.now) (mine ks.masks.now)
    c.places-ps.ensures (word ks.rows.now) (word ks.masks.now))
    ∙ ap (λ qs. splice (get_or qs index 0 * k) (target_row a.width.bits k (keys_in ks) a.words.now a.i) a.words.now)
    c.places-ps.ensures
