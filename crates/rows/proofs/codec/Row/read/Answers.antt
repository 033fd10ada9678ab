use Rattle.std.proofs.Common.{◌+◌, length, get_or, ◌∙◌, arith}
use Rattle.laws.proofs.Lists.{build-part}
use Rattle.rows.specs.Codec.{bytes_of}
use Rattle.rows.proofs.codec.Bytes.{built, length_bytes}
use Rattle.rows.proofs.codec.Row.read.Goals as goal

pub returns : goal.returns
returns c =
    let a = c.args in
    let b = a.self.now.width.bits in
    let row = a.self.now.elements.now in
    let xs = bytes_of b (length row) row in
    let n = length a.out.now in
    built c.loop-i.out n (λ i. get_or xs (a.from + i) 0) (omega arith) (λ i l. c.loop-i.invariant i (omega arith))
    ∙ build-part a.from n xs 0 (omega (arith, length_bytes b (length row) row))
