use Rattle.std.proofs.Common.{◌≡◌, ℕ, ◌<◌, ◌≤◌, length, get_or, arith, rules, lt-ltb}
use Rattle.std.proofs.iter.runs.Sources.{ranges}
use Rattle.rows.specs.Codec.{bytes_in, bytes_of, marker_bad}
use Rattle.rows.proofs.codec.Bytes.{last_at, last_below}
use Rattle.rows.proofs.codec.Row.marker_at.Goals as goal

pub byte-requires : goal.byte-requires
byte-requires c = search (rules, ranges)

pub returns-in_err-at : goal.returns-in_err-at
unfolding marker_bad
returns-in_err-at c =
    let r = c.args.self.now in
    let n = bytes_in r.width.bits (length r.elements.now) in
    let xs = bytes_of r.width.bits (length r.elements.now) r.elements.now in
    let some : 0 < 32 = omega arith in
    let zeros : (m : ℕ) → 32 ≤ m → m < n → get_or xs m 0 ≡ 0 = search (rules, ranges) in
    rw (lt-ltb _ _ (last_below xs n 32 some zeros)) (search rules)

pub returns : goal.returns
unfolding marker_bad
returns c =
    let r = c.args.self.now in
    let n = bytes_in r.width.bits (length r.elements.now) in
    let xs = bytes_of r.width.bits (length r.elements.now) r.elements.now in
    let at = c.in_ok-at.at in
    let found : (32 ≤ at) × (at < n) × (get_or xs at 0 ≡ 0 → ⊥) × ((m : ℕ) → at < m → m < n → get_or xs m 0 ≡ 0) = search (rules, ranges) in
    rw (last_at xs n at found.1 found.2 found.3) (search rules)
