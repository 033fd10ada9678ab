-- Document 01, "Numbers to hold against it": the worked cases, one table and one statement, proved by computing.
use Rattle.std.specs.Prelude.{◌≡◌, ℕ, List, [], ◌∷◌}
use Rattle.laws.specs.Refusals.{◌⇒◌, first}
use Rattle.arith.specs.Packing.{compress_after}
use Rattle.arith.specs.Product.{factors, product_after}
use Rattle.samples.specs.Sampler.{sample_read, sample_after}
use Rattle.leaves.specs.Rounding.{rounded}
use Rattle.queries.specs.Open.{wraps, marked}

-- 01's number of a case, what the contracts' definitions give for it, and what 01 says
pub record Case : Type 0 where
  pub number : ℕ
  pub found : List ℕ
  pub stated : List ℕ

abbrev case : ℕ → List ℕ → List ℕ → Case
case n xs ys = record { number = n; found = xs; stated = ys }

-- the random words of case 7; its answer is the count of words read, and then the output
abbrev lent_words : List ℕ
lent_words = 0 ∷ 5 ∷ 6 ∷ 16 ∷ 10 ∷ 11 ∷ 15 ∷ []

-- case 12, of one entry at one position: 6 where it wraps, and what it becomes where it does not
abbrev six_or_none : ℕ → ℕ
six_or_none entry = first (wraps 10 (0 ∷ []) (entry ∷ []) ⇒ 6 ∷ [])

-- Each output is lent with 7 in every word, which nothing of it may keep.
abbrev pub worked : List Case
worked =
    case 1 (compress_after 10 1 4 (1 ∷ 2 ∷ 3 ∷ 4 ∷ []) (7 ∷ 7 ∷ [])) (3147777 ∷ 4 ∷ [])
    ∷ case 2 (compress_after 8 1 3 (255 ∷ 256 ∷ 1 ∷ []) (7 ∷ [])) (65791 ∷ [])
    ∷ case 3 (compress_after 11 1 2 (2047 ∷ 1 ∷ []) (7 ∷ [])) (67583 ∷ [])
    ∷ case 4 (compress_after 4 1 5 (15 ∷ 1 ∷ 2 ∷ 3 ∷ 4 ∷ []) (7 ∷ 7 ∷ [])) (50462991 ∷ 4 ∷ [])
    ∷ case 5 (compress_after 9 1 3 (511 ∷ 1 ∷ 0 ∷ []) (7 ∷ [])) (1535 ∷ [])
    ∷ case 6 (product_after (factors 10 1 4 (2 ∷ 3 ∷ 4294967295 ∷ 1 ∷ []) (3147777 ∷ 4 ∷ []) (7 ∷ []))) (9 ∷ [])
    ∷ case 7 (sample_read 5 6 lent_words ∷ sample_after 5 lent_words (7 ∷ 7 ∷ 7 ∷ 7 ∷ 7 ∷ 7 ∷ [])) (7 ∷ 0 ∷ 0 ∷ 1 ∷ 1 ∷ 4294967295 ∷ 4294967295 ∷ [])
    ∷ case 8 (rounded 10 2097152 ∷ []) (0 ∷ [])
    ∷ case 9 (rounded 10 2097153 ∷ []) (1 ∷ [])
    ∷ case 10 (rounded 10 4294967295 ∷ []) (0 ∷ [])
    ∷ case 11 (rounded 10 4292870144 ∷ []) (1023 ∷ [])
    ∷ case 12 (six_or_none 4290772992 ∷ six_or_none 4290772991 ∷ marked 10 (0 ∷ []) (4290772991 ∷ [])) (6 ∷ 0 ∷ 4294967295 ∷ [])
    ∷ []

-- every case of a table is as 01 states it
abbrev pub AsStated : List Case → Type 0
AsStated [] = Unit
AsStated (c ∷ cs) = (c.found ≡ c.stated) × AsStated cs
