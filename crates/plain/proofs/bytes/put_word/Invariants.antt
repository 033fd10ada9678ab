-- What is left of the word, and the bytes written.
use Rattle.std.proofs.Common.{◌≡◌, ℕ, ◌/◌, ◌%◌, ◌^◌, ◌<◌, get_or}
use Rattle.plain.proofs.bytes.put_word.Given as goal

abbrev pub invariant-loop-byte : goal.invariant-loop-byte
invariant-loop-byte l =
    (l.rest ≡ l.x / 256 ^ l.byte-index) × ((k : ℕ) → k < l.byte-index → get_or l.part k 0 ≡ l.x / 256 ^ k % 256)
