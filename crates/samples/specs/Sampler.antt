-- Document 01, "Ternary sampler".
use Rattle.std.specs.Prelude.{ℕ, ◌*◌, Bool, cond, List, [], ◌∷◌, length, take, drop, ltb, leb}
use Rattle.laws.specs.Refusals.{◌⇒◌, first, after, outside}
use Rattle.laws.specs.Search.{lowest}

-- of the values that a word can have the lowest 3I + 1 are accepted: I + 1 of them give 0, the next I give 1, the last I give -1
unfoldable pub accepted : ℕ → ℕ → Bool
accepted interval x = leb x (3 * interval)

unfoldable pub ternary : ℕ → ℕ → ℕ
ternary interval x = cond (leb x interval) 0 (cond (leb x (2 * interval)) 1 4294967295)

-- what the words give, in order, the skipped ones left out
unfoldable pub given : ℕ → List ℕ → List ℕ
given interval [] = []
given interval (x ∷ xs) = cond (accepted interval x) (ternary interval x ∷ given interval xs) (given interval xs)

-- the start of m words holds n accepted ones or more
unfoldable pub holds_enough : ℕ → ℕ → List ℕ → ℕ → Bool
holds_enough interval n words m = leb n (length (given interval (take m words)))

-- the length of the shortest start of the words that holds enough, skipped ones included; all where none does
unfoldable pub shortest : ℕ → ℕ → List ℕ → ℕ
shortest interval n words = lowest (length words) (holds_enough interval n words)

-- 3: fewer of the words are accepted than are wanted
unfoldable pub too_few : ℕ → ℕ → List ℕ → Bool
too_few interval n words = ltb (length (given interval words)) n

-- what the sampler answers for an output of n words: its number, and the count of words read
unfoldable pub sample_number : ℕ → ℕ → List ℕ → ℕ
sample_number interval n words =
    first (ltb 4096 n ⇒ 2 ∷ outside 1 1431655765 interval ⇒ 4 ∷ too_few interval n words ⇒ 3 ∷ [])

abbrev pub sample_read : ℕ → ℕ → List ℕ → ℕ
sample_read interval n words = after (sample_number interval n words) (shortest interval n words) 0

-- and what the output holds then: as many of the given values as it has words
abbrev pub sample_after : ℕ → List ℕ → List ℕ → List ℕ
sample_after interval words out =
    after (sample_number interval (length out) words) (take (length out) (given interval words)) out

-- the unread tail: the whole of the words on a refusal
abbrev pub sample_tail : ℕ → ℕ → List ℕ → List ℕ
sample_tail interval n words = drop (sample_read interval n words) words
