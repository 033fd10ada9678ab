-- The slot's words have their place inside the slab, and the product fills them.
use Rattle.std.proofs.Common.{◌≡◌, ℕ, ◌+◌, ◌*◌, ◌-◌, List, length, sym, ap, ◌∙◌, arith}
use Rattle.laws.specs.Lists.{part, splice}
use Rattle.laws.proofs.Lists.{length-row, row_lent}
use Rattle.laws.proofs.Filling.{put_splice}
use Rattle.plain.specs.Matrix.{times, times_after}
use Rattle.queries.proofs.open.Sizes.{limited}
use Rattle.plain.proofs.matrix.Cells.{length-product}
use Rattle.queries.proofs.open.Kept.{stored_made}
use Rattle.queries.proofs.open.Opening.put_secret.Goals as goal

pub returns : goal.returns
returns c =
    let a = c.args in
    let o = a.self.now in
    let t = limited _ o.formed in
    let at : ℕ = o.slot.index * o.table.columns in
    let size : at + o.table.columns - at ≡ o.table.columns = omega arith in
    let lent : length (part at (at + o.table.columns - at) a.slab.now) ≡ o.table.columns =
    ap length (row_lent o.table.columns o.slot.index a.slab.now)
    ∙ length-row o.table.columns 64 o.slot.index a.slab.now (omega (arith, c.requires.2)) o.slot.within in
    let made : times_after 1 o.n o.table.columns a.secret.now a.hint.now (part at (at + o.table.columns - at) a.slab.now) ≡ times 1 o.n o.table.columns a.secret.now a.hint.now =
    rw (← c.requires.0)
    (stored_made o.table.columns a.secret.now a.hint.now _ (omega (arith, c.requires.0, o.n_in), omega (arith, c.requires.0, o.n_in)) (t.columns_least, omega (arith, t.columns_most))
    (c.requires.1 ∙ ap (λ (k : ℕ). k * o.table.columns) (sym c.requires.0)) lent) in
    let e = c.plain_product.ensures.out_after ∙ made in
    put_splice at (at + o.table.columns - at) a.slab.now _ (size ∙ sym (ap length e ∙ length-product o.n o.table.columns a.secret.now a.hint.now))
    ∙ ap (λ (xs : List ℕ). splice at xs a.slab.now) e
