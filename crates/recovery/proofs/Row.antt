-- The recovery: what a client makes of the honest response to its query is the sum of the queried rows plus the masks.
use mathlib.Core.Path.{◌≡◌, refl, sym, ap, ap₂, ◌∙◌}
use mathlib.Core.Bool.{Bool, true, false, cond}
use mathlib.Core.List.{List}
use Prim.Native.Nat.{ℕ, ◌+◌, ◌-◌, ◌*◌, ◌%◌, ◌^◌, ◌≤◌, ◌<◌}
use native.Mathlib.Nat.{mod-lt}
use native.Mathlib.Omega.{arith}
use lib.ListN.{length, get_or}
use Rattle.laws.specs.Lists.{build}
use Rattle.laws.specs.Sums.{sum, Cong}
use Rattle.laws.proofs.Lists.{length-build, get_or-build, build_ext}
use Rattle.laws.proofs.Refusals.{inside}
use Rattle.laws.proofs.Sums.{sum_plus, sum-mul, cong_eq, cong_sym, cong_trans, cong_wrap, cong_add, cong_mul_right, cong_sum, mod_in}
use Rattle.plain.specs.Matrix.{cell, times}
use Rattle.leaves.specs.Positions.{among, positions_bad}
use Rattle.plain.proofs.matrix.Cells.{length-product, product_word}
use Rattle.plain.proofs.matrix.Associates.{times_associates}
use Rattle.builder.specs.Database.{rows_sum}
use Rattle.leaves.specs.Rounding.{delta, rounded}
use Rattle.queries.specs.Open.{noisy, marked}
use Rattle.replies.specs.Reply.{less_word, recovered}
use Rattle.recovery.specs.Store.{Store, Sound, Calm, hint_of, served, wanted}
use Rattle.recovery.proofs.Noise.{above, below, quiet_small, noise_parts}
use Rattle.recovery.proofs.Rounding.{rounded_cong}
use Rattle.recovery.proofs.Places.{sum-among}

pub product_small : (m c : ℕ) (v y : List ℕ) (j : ℕ) → j < c → get_or (times 1 m c v y) j 0 < 2 ^ 32
product_small m c v y j h =
    rw (product_word m c v y j h) (mod-lt (sum m (λ t. get_or v t 0 * cell c y t j)) {m = 2 ^ 32} (omega arith))

-- a marked entry of the query, times an entry of the database
spread : (t : Bool) (x y k d : ℕ) → (x + y + cond t k 0) * d ≡ x * d + y * d + cond t (k * d) 0
spread true x y k d = omega arith
spread false x y k d = omega arith

-- A query for good positions: sA + e, with Δ at them; and the secret that is stored for it.
module _ (st : Store) (s e ps : List ℕ) (good : positions_bad st.r ps ≡ false) where
  abbrev blind : List ℕ
  blind = times 1 st.n st.r s st.matrix

  abbrev key : List ℕ
  key = times 1 st.n st.columns s (hint_of st)

  abbrev query : List ℕ
  query = marked st.b ps (noisy st.n st.r s st.matrix e)

  -- an entry of the query
  entry : (i : ℕ) → i < st.r
      → Cong (2 ^ 32) (get_or query i 0) (get_or blind i 0 + get_or e i 0 + cond (among ps i) (delta st.b) 0)
  unfolding marked noisy
  entry i h =
      let sums : ℕ → ℕ = λ k. (get_or blind k 0 + get_or e k 0) % 2 ^ 32 in
      let long = length-build st.r sums in
      cong_trans
      (cong_eq (get_or-build (length (build st.r sums)) _ i 0 (omega arith)))
      (cong_add (cong_wrap (get_or blind i 0 + get_or e i 0) (get_or-build st.r sums i 0 h)) (cong_eq refl))

  -- Column j.
  module _ (j : ℕ) (h : j < st.columns) where
    abbrev d : ℕ → ℕ
    d i = cell st.columns st.elements i j

    abbrev asked_for : ℕ
    asked_for = rows_sum st.columns st.elements ps j

    -- the query times it, in three parts
    parts : Cong (2 ^ 32) (sum st.r (λ i. get_or query i 0 * d i))
        (sum st.r (λ i. get_or blind i 0 * d i) + sum st.r (λ i. get_or e i 0 * d i) + delta st.b * asked_for)
    parts =
        let x : ℕ → ℕ = λ i. get_or blind i 0 * d i in
        let y : ℕ → ℕ = λ i. get_or e i 0 * d i in
        let z : ℕ → ℕ = λ i. cond (among ps i) (delta st.b * d i) 0 in
        cong_trans
        (cong_sum st.r (λ i. get_or query i 0 * d i) (λ i. x i + y i + z i)
        (λ i l.
        cong_trans (cong_mul_right (d i) (entry i l))
        (cong_eq (spread (among ps i) (get_or blind i 0) (get_or e i 0) (delta st.b) (d i)))))
        (cong_eq
        (sum_plus st.r (λ i. x i + y i) z
        ∙ ap₂ ◌+◌ (sum_plus st.r x y)
        (sum-among st.r ps good (λ i. delta st.b * d i)
        ∙ sum-mul (length ps) (delta st.b) (λ k. d (get_or ps k 0)))))

    -- the first is the stored secret's: s(AD) = (sA)D
    secret : get_or key j 0 ≡ sum st.r (λ i. get_or blind i 0 * d i) % 2 ^ 32
    secret =
        ap (λ (xs : List ℕ). get_or xs j 0) (sym (times_associates 1 st.n st.r st.columns s st.matrix st.elements))
        ∙ product_word st.r st.columns blind st.elements j h

    response_word : Cong (2 ^ 32) (get_or (served st query) j 0)
        (get_or key j 0 + sum st.r (λ i. get_or e i 0 * d i) + delta st.b * asked_for)
    response_word =
        cong_trans (cong_wrap (sum st.r (λ i. get_or query i 0 * d i)) (product_word st.r st.columns query st.elements j h))
        (cong_trans parts
        (cong_add (cong_add (cong_sym (cong_wrap (sum st.r (λ i. get_or blind i 0 * d i)) secret)) (cong_eq refl)) (cong_eq refl)))

    module _ (sound : Sound st) (words : (i : ℕ) → i < st.r → get_or e i 0 < 2 ^ 32) (calm : Calm st e) where
      -- what is left of it without the secret rounds to the sum of the rows
      round_word : Cong (2 ^ st.b) (rounded st.b (less_word (get_or (served st query) j 0) (get_or key j 0))) asked_for
      unfolding less_word
      round_word =
          let er : ℕ → ℕ = λ i. get_or e i 0 in
          let re : ℕ = get_or (served st query) j 0 in
          let se : ℕ = get_or key j 0 in
          let E : ℕ = sum st.r (λ i. er i * d i) in
          let T : ℕ = delta st.b * asked_for in
          let p : ℕ = above st.r er d in
          let m : ℕ = below st.r er d in
          let l = product_small st.n st.columns s (hint_of st) j h in
          let most : st.b ≤ 31 = omega (arith, (inside 4 14 st.b sound.width).1) in
          let less : Cong (2 ^ 32) (less_word re se + m) (T + p) =
          cong_trans (cong_add (cong_wrap (re + (2 ^ 32 - se)) refl) (cong_eq {b = m} refl))
          (cong_trans (cong_add (cong_add response_word (cong_eq {b = 2 ^ 32 - se} refl)) (cong_eq {b = m} refl))
          (cong_trans (mod_in (2 ^ 32) (se + E + T + (2 ^ 32 - se) + m) (T + (E + m)) 0 1 (omega arith))
          (cong_add (cong_eq {b = T} refl) (noise_parts er d st.r words)))) in
          rounded_cong st.b most (less_word re se) asked_for p m less (quiet_small er d st.r words st.b (calm.column j h))

pub recovered_row : (st : Store) (s e ps masks : List ℕ) → Sound st → positions_bad st.r ps ≡ false
    → ((i : ℕ) → i < st.r → get_or e i 0 < 2 ^ 32) → Calm st e
    → recovered st.b (times 1 st.n st.columns s (hint_of st))
    (served st (marked st.b ps (noisy st.n st.r s st.matrix e))) masks
    ≡ wanted st ps masks
unfolding recovered
recovered_row st s e ps masks sound good words calm =
    rw (length-product st.r st.columns (marked st.b ps (noisy st.n st.r s st.matrix e)) st.elements)
    (build_ext st.columns _ _ (λ j h. (cong_add (round_word st s e ps good j h sound words calm) (cong_eq refl)).same))
