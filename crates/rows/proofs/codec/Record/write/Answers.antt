-- The record's bits are those of the padded one.
use Rattle.std.proofs.Common.{◌*◌, length, ◌∙◌, arith}
use Rattle.laws.specs.Bits.{bit_of, gathered, carried}
use Rattle.rows.specs.Codec.{record_of, row_of}
use Rattle.rows.proofs.codec.Bytes.{built}
use Rattle.rows.proofs.codec.Marked.{record_gathered}
use Rattle.rows.proofs.codec.Record.write.Goals as goal

pub returns : goal.returns
unfolding row_of carried
returns c =
    let a = c.args in
    let r = a.self.now in
    let b = a.width.bits in
    let n = length a.out.now in
    built c.loop-j.out n (λ j. gathered b (bit_of 8 (record_of b n r.digest r.value.now)) (j * b)) (omega arith)
    (λ j l. c.loop-j.invariant j (omega arith) ∙ record_gathered b n r.digest r.value.now b (j * b))
