-- Each turn stores one word more.
use Rattle.std.proofs.Common.{◌≡◌, ℕ, ◌*◌, ◌≤◌, List, length, drop}
use Rattle.std.specs.Iterator.Adapters.{enumerate_count, enumerate_source}
use Rattle.std.specs.Slice.Iter.{chunks_rest, chunks_size}
use Rattle.laws.specs.Lists.{build, part}
use Rattle.laws.proofs.Filling.{Filled}
use Rattle.arith.specs.Packing.{factor_of, slot_bits, words_of, word_of}
use Rattle.arith.proofs.packing.pack_row.Given as goal

-- word q of the row
abbrev pub word : ℕ → List ℕ → ℕ → ℕ
word b xs q = word_of b (slot_bits b) (part (q * factor_of b) (factor_of b) xs)

abbrev pub invariant-loop-q : goal.invariant-loop-q
invariant-loop-q l =
    let b = l.width.bits in
    let n = enumerate_count l.q-iterator in
    let left = enumerate_source l.q-iterator in
    (chunks_size left ≡ factor_of b) × (chunks_rest left ≡ drop (n * factor_of b) l.elements)
    × (n ≤ words_of b (length l.elements)) × Filled (build n (word b l.elements)) l.initial.out l.out
