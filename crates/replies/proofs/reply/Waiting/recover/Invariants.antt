-- Each turn stores one element more.
use Rattle.std.proofs.Common.{ℕ, ◌+◌, ◌%◌, ◌^◌, List, get_or}
use Rattle.laws.specs.Lists.{build}
use Rattle.laws.proofs.Filling.{Filled}
use Rattle.leaves.specs.Rounding.{rounded}
use Rattle.replies.specs.Reply.{less_word}
use Rattle.replies.proofs.reply.Waiting.recover.Given as goal

-- element j of the row
abbrev pub element : ℕ → List ℕ → List ℕ → List ℕ → ℕ → ℕ
element b secret response masks j =
    (rounded b (less_word (get_or response j 0) (get_or secret j 0)) + get_or masks j 0) % 2 ^ b

abbrev pub invariant-loop-j : goal.invariant-loop-j
invariant-loop-j l = let w = l.self in Filled (build l.j (element w.table.b w.secret.now w.response.now w.masks.now)) l.initial.row l.row
