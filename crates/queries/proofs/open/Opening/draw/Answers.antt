-- Neither sample is refused, so each fills its output, the second from what the first left unread.
use mathlib.Core.Path.{sym, ap, ◌∙◌}
use mathlib.Core.List.{List}
use Prim.Native.Nat.{ℕ, ◌≤◌}
use native.Mathlib.Omega.{arith}
use lib.ListN.{take, drop}
use Rattle.laws.specs.Refusals.{after}
use Rattle.laws.proofs.Refusals.{neither, within, written}
use Rattle.samples.specs.Sampler.{given, too_few, sample_number}
use Rattle.queries.specs.Open.{unread, either_short}
use Rattle.queries.proofs.open.Samples.{enough_passes}
use Rattle.queries.proofs.open.Opening.draw.Goals as goal

pub returns : goal.returns
unfolding either_short
returns c =
    let o = c.args.self.now in
    let words = o.words.now in
    let i : ℕ = o.interval.value in
    let left = unread i o.n words in
    let p = neither (too_few i o.n words) (too_few i o.r left) o.enough in
    let allowed = within 1 1431655765 i o.interval.least o.interval.most in
    let n_most : o.n ≤ 4096 = omega (arith, o.n_in) in
    let y = enough_passes i o.n words n_most allowed p.0 in
    let z = enough_passes i o.r left o.r_in.1 allowed p.1 in
    let first = rw c.requires.0 at c.sample_and_return_unread-unread.ensures in
    let second = rw c.requires.1 at c.sample_from_uniform_ternary_dist.ensures in
    let tail = first.result_value ∙ ap (λ (k : ℕ). drop k words) (sym (written _ _ _ y)) in record {
      secret_after = first.out_after ∙ sym (written _ _ _ y);
      error_after = second.out_after
          ∙ ap (λ (ws : List ℕ). after (sample_number i o.r ws) (take o.r (given i ws)) c.args.error.now) tail
          ∙ sym (written _ _ _ z);
    }
