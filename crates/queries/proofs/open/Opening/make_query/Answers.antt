-- The samples and the noise; then 6, or the marks and the store.
use Rattle.std.proofs.Common.{◌≡◌, ℕ, ◌*◌, false, eqb, List, length, replicate, refl, sym, ap, ◌∙◌, arith, ne_eqb, rules}
use mathlib.Core.Path.{ap₂}
use Rattle.laws.specs.Lists.{splice, laid}
use Rattle.laws.proofs.Lists.{length-build}
use Rattle.laws.proofs.Refusals.{within}
use Rattle.plain.specs.Matrix.{times}
use Rattle.pending.specs.Table.{full, slot_of}
use Rattle.pending.proofs.table.Slots.{some_free}
use Rattle.queries.specs.Open.{Asked, asked, noisy, noisy_of, wraps, marked}
use Rattle.queries.proofs.open.Sizes.{Shaped, shaped}
use Rattle.queries.proofs.open.Answers.{early, wrapped, opened, said_same, left_same}
use Rattle.queries.proofs.open.Opening.make_query.Goals as goal
use Rattle.queries.proofs.open.Opening.make_query.Goals.{After-add_product, After-wraps_at, Start}

-- what was asked for has passed the first step
module _ (st : Start) where
  abbrev asks : Asked
  asks =
      let a = st.args in
      let o = a.self.now in
      asked o.table a.slab.now o.n o.r a.matrix.now a.hint.now o.interval.value o.positions o.digest
      o.words.now a.secret.now a.error.now a.query.now

  shape : let a = asks in
      Shaped a.table.columns a.n a.r (length a.slab) (length a.matrix) (length a.hint) (length a.secret) (length a.error) (length a.query)
  shape = shaped _ _ _ _ _ _ _ _ _ st.requires

  none : early asks ≡ 0
  unfolding early
  none =
      let o = st.args.self.now in
      let interval_in = within 1 1431655765 o.interval.value o.interval.least o.interval.most in
      let room : full o.table ≡ false = some_free o.table (λ e. omega (arith, o.lowest, o.slot.within)) in
      let more : eqb o.table.next 4294967295 ≡ false = ne_eqb _ _ (λ e. omega (arith, o.numbered)) in
      simp (o.formed, st.requires, interval_in, o.apart, o.unheld, room, more, o.enough)

-- the samples are drawn, and the noise is made
module _ (c : After-add_product) where
  abbrev start : Start
  start = (goal.at.After-add_product c).Start

  abbrev a : Asked
  a = asks start

  abbrev secret : List ℕ
  secret = c.draw.new.secret

  abbrev error : List ℕ
  error = c.draw.new.error

  abbrev noise : List ℕ
  noise = c.add_product.new.error

  secret_long : length secret ≡ a.n
  secret_long = let e : length secret ≡ length a.secret = search rules in e ∙ (shape start).secret_whole

  error_long : length error ≡ a.r
  error_long = let e : length error ≡ length a.error = search rules in e ∙ (shape start).error_whole

  noise_is : noise ≡ noisy_of a
  noise_is =
      c.add_product.ensures
      ∙ ap₂ (λ (n r : ℕ). noisy n r secret a.matrix error) secret_long error_long
      ∙ ap₂ (λ (xs ys : List ℕ). noisy a.n a.r xs a.matrix ys) c.draw.ensures.secret_after c.draw.ensures.error_after

  noise_long : length noise ≡ a.r
  unfolding noisy
  noise_long = ap length noise_is ∙ length-build a.r _

  -- as many zeros as each work buffer has words
  secret_zeros : replicate {A = ℕ} (length secret) 0 ≡ replicate {A = ℕ} (length a.secret) 0
  secret_zeros = ap (λ (n : ℕ). replicate n 0) (secret_long ∙ sym (shape start).secret_whole)

  noise_zeros : replicate {A = ℕ} (length noise) 0 ≡ replicate {A = ℕ} (length a.error) 0
  noise_zeros = ap (λ (n : ℕ). replicate n 0) (noise_long ∙ sym (shape start).error_whole)

-- 6 is tested
wraps_is : (c : After-wraps_at)
    → let a = asks (goal.at.After-wraps_at c).Start in
    wraps a.table.b a.positions (noisy_of a) ≡ c.wraps_at.result
wraps_is c =
    let o = c.args.self.now in
    ap (wraps o.table.b o.positions) (sym (noise_is (goal.at.After-wraps_at c).After-add_product)) ∙ sym c.wraps_at.ensures

pub draw-requires : goal.draw-requires
draw-requires c = let s = shape (goal.at.draw-requires c).Start in (s.secret_whole, s.error_whole)

pub add_product-requires : goal.add_product-requires
add_product-requires c =
    let a = c.args in
    let s = shape (goal.at.add_product-requires c).Start in
    let x : length c.draw.new.secret ≡ length a.secret.now = search rules in
    let y : length c.draw.new.error ≡ length a.error.now = search rules in
    (omega (arith, y, s.error_whole, s.r_least), s.matrix_whole ∙ sym (ap₂ ◌*◌ (x ∙ s.secret_whole) (y ∙ s.error_whole)))

pub wraps_at-requires : goal.wraps_at-requires
wraps_at-requires c = noise_long (goal.at.wraps_at-requires c).After-add_product

pub returns-then-wraps_at : goal.returns-then-wraps_at
returns-then-wraps_at c =
    let k = (goal.at.returns-then-wraps_at c).Start in
    let p = (goal.at.returns-then-wraps_at c).After-add_product in
    let w = (goal.at.returns-then-wraps_at c).After-wraps_at in
    let r = wrapped (asks k) (none k) (wraps_is w ∙ c.if-wraps_at.true) in record {
      result_value = said_same refl refl c.args.self.now.counted refl ∙ sym r.0;
      query_after = left_same refl (c.zero.ensures ∙ secret_zeros p) (c.zero-then-wraps_at.ensures ∙ noise_zeros p) refl ∙ sym r.1;
    }

pub mark-requires-clause-query_len : goal.mark-requires-clause-query_len
mark-requires-clause-query_len c = noise_long (goal.at.mark-requires-clause-query_len c).After-add_product

pub store-requires : goal.store-requires
unfolding marked
store-requires c =
    let p = (goal.at.store-requires c).After-add_product in
    let s = shape (goal.at.store-requires c).Start in
    let long : length c.mark.new.query ≡ length (noise p) = search rules in
    (s.slab_whole, s.hint_whole, secret_long p, omega (arith, long, noise_long p, s.query_roomy))

pub returns : goal.returns
returns c =
    let k = (goal.at.returns c).Start in
    let p = (goal.at.returns c).After-add_product in
    let w = (goal.at.returns c).After-wraps_at in
    let b = asks k in
    let o = c.args.self.now in
    let r = opened b (none k) (wraps_is w ∙ c.if-wraps_at.false) in
    let at : ℕ = slot_of b.table 0 * b.table.columns in
    let long : length c.mark.new.query ≡ length (noise p) = search rules in
    let made = rw o.lowest at c.store.ensures in record {
      result_value = said_same refl refl o.counted made.value ∙ sym r.0;
      query_after = left_same
          (made.slab_after ∙ ap (λ (xs : List ℕ). splice at (times 1 b.n b.table.columns xs b.hint) b.slab) c.draw.ensures.secret_after)
          (made.secret_after ∙ secret_zeros p)
          (made.error_after ∙ ap (λ (n : ℕ). replicate n 0) long ∙ noise_zeros p)
          (made.query_after ∙ ap (λ (xs : List ℕ). laid xs b.query) (c.mark.ensures ∙ ap (marked b.table.b b.positions) (noise_is p)))
          ∙ sym r.1;
    }
