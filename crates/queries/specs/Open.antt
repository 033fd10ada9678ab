-- Document 01, "Open": a query, its ticket, and what every lent buffer holds then.
use Rattle.std.specs.Prelude.{ℕ, ◌+◌, ◌*◌, ◌%◌, ◌^◌, Bool, not, cond, ◌||◌, List, [], ◌∷◌, ◌++◌, length, get_or, take, drop, ltb, leb, eqb}
use Rattle.laws.specs.Refusals.{Test, ◌⇒◌, first, after, outside}
use Rattle.laws.specs.Lists.{build, splice, laid}
use Rattle.laws.specs.Search.{some}
use Rattle.plain.specs.Matrix.{times}
use Rattle.leaves.specs.Words.{zeroed}
use Rattle.leaves.specs.Positions.{among, positions_bad}
use Rattle.samples.specs.Sampler.{given, shortest, too_few}
use Rattle.pending.specs.Table.{malformed, digest_pending, full, slot_of, taken}
use Rattle.leaves.specs.Rounding.{delta}
use Rattle.pending.specs.declared.table.Table.{Table}
use Rattle.client_answers.specs.Open.{opening_number, opening_ticket, opening_read}
use Rattle.queries.specs.declared.open.Opened.{Opened}

-- what is lent to an open
pub record Asked : Type 0 where
  pub table : Table
  pub slab : List ℕ
  pub n : ℕ
  pub r : ℕ
  pub matrix : List ℕ
  pub hint : List ℕ
  pub interval : ℕ
  pub positions : List ℕ
  pub digest : List ℕ
  pub words : List ℕ
  pub secret : List ℕ
  pub error : List ℕ
  pub query : List ℕ

abbrev pub asked : Table → List ℕ → ℕ → ℕ → List ℕ → List ℕ → ℕ → List ℕ → List ℕ → List ℕ → List ℕ → List ℕ → List ℕ → Asked
asked table slab n r matrix hint interval positions digest words secret error query = record {
  table = table;
  slab = slab;
  n = n;
  r = r;
  matrix = matrix;
  hint = hint;
  interval = interval;
  positions = positions;
  digest = digest;
  words = words;
  secret = secret;
  error = error;
  query = query;
}

-- 2: n, R or a lent length outside its limit; the work buffers have exactly n and R words, the query may be longer
unfoldable pub open_shape_bad : ℕ → ℕ → ℕ → ℕ → ℕ → ℕ → ℕ → ℕ → ℕ → Bool
open_shape_bad columns n r slab matrix hint secret error query =
    outside 1 2048 n
    || outside 1 4096 r
    || not (eqb matrix (n * r))
    || not (eqb hint (n * columns))
    || not (eqb slab (64 * columns))
    || not (eqb secret n)
    || not (eqb error r)
    || ltb query r

abbrev pub asked_bad : Asked → Bool
asked_bad a =
    open_shape_bad a.table.columns a.n a.r (length a.slab) (length a.matrix) (length a.hint)
    (length a.secret) (length a.error) (length a.query)

-- the words left after the first sample; what both samples read together; 3: either has too few
abbrev pub unread : ℕ → ℕ → List ℕ → List ℕ
unread interval n words = drop (shortest interval n words) words

unfoldable pub both_read : ℕ → ℕ → ℕ → List ℕ → ℕ
both_read interval n r words = shortest interval n words + shortest interval r (unread interval n words)

unfoldable pub either_short : ℕ → ℕ → ℕ → List ℕ → Bool
either_short interval n r words = too_few interval n words || too_few interval r (unread interval n words)

-- s, n words; then e, R words, from what is left
abbrev pub secret_of : Asked → List ℕ
secret_of a = take a.n (given a.interval a.words)

abbrev pub error_of : Asked → List ℕ
error_of a = take a.r (given a.interval (unread a.interval a.n a.words))

-- sA + e, modulo 2^32
unfoldable pub noisy : ℕ → ℕ → List ℕ → List ℕ → List ℕ → List ℕ
noisy n r s matrix e = build r (λ j. (get_or (times 1 n r s matrix) j 0 + get_or e j 0) % 2 ^ 32)

abbrev pub noisy_of : Asked → List ℕ
noisy_of a = noisy a.n a.r (secret_of a) a.matrix (error_of a)

-- 6: at one of the positions the entry and Δ together are more than a word holds
unfoldable pub wraps : ℕ → List ℕ → List ℕ → Bool
wraps b ps q = some (length ps) (λ s. leb (2 ^ 32) (get_or q (get_or ps s 0) 0 + delta b))

-- Δ added at the positions
unfoldable pub marked : ℕ → List ℕ → List ℕ → List ℕ
marked b ps q = build (length q) (λ j. get_or q j 0 + cond (among ps j) (delta b) 0)

-- s times hint, C words
abbrev pub stored_secret : Asked → List ℕ
stored_secret a = times 1 a.n a.table.columns (secret_of a) a.hint

-- what is tested of the place: 4, 5, 7, 8, 9
abbrev pub place_tests : Table → ℕ → ℕ → List ℕ → List ℕ → List Test
place_tests t r interval positions digest =
    outside 1 1431655765 interval ⇒ 4
    ∷ positions_bad r positions ⇒ 5
    ∷ digest_pending t digest ⇒ 7
    ∷ full t ⇒ 8
    ∷ eqb t.next 4294967295 ⇒ 9
    ∷ []

-- what is tested before a word is drawn: 18, 2, those of the place, 3
abbrev pub open_tests : Asked → List Test
open_tests a =
    malformed a.table ⇒ 18
    ∷ asked_bad a ⇒ 2
    ∷ (place_tests a.table a.r a.interval a.positions a.digest
    ++ (either_short a.interval a.n a.r a.words ⇒ 3 ∷ []))

-- the number that an open answers: the first of those, and then 6
unfoldable pub open_number : Asked → ℕ
open_number a = first (open_tests a ++ (wraps a.table.b a.positions (noisy_of a) ⇒ 6 ∷ []))

-- the words were read: on success, and on 6, after which they must not be used again
abbrev pub spent : ℕ → Bool
spent number = eqb number 0 || eqb number 6

-- all that an open answers: a number, a ticket, the count of words read, the table
pub record OpenSaid : Type 0 where
  pub number : ℕ
  pub ticket : ℕ
  pub read : ℕ
  pub table : Table

abbrev pub open_said : Opened → OpenSaid
open_said o = record {
  number = opening_number o.answer;
  ticket = opening_ticket o.answer;
  read = opening_read o.answer;
  table = o.table;
}

-- what an open answers: the next number as its ticket, and the table with the lowest free slot taken
abbrev pub open_of : Asked → OpenSaid
open_of a = record {
  number = open_number a;
  ticket = after (open_number a) a.table.next 0;
  read = cond (spent (open_number a)) (both_read a.interval a.n a.r a.words) 0;
  table = after (open_number a) (taken a.table (slot_of a.table 0) a.digest) a.table;
}

-- what the lent buffers hold at exit
pub record OpenLeft : Type 0 where
  pub slab : List ℕ
  pub secret : List ℕ
  pub error : List ℕ
  pub query : List ℕ

abbrev pub left : List ℕ → List ℕ → List ℕ → List ℕ → OpenLeft
left slab secret error query = record { slab = slab; secret = secret; error = error; query = query }

-- a work buffer: zeros where words were read
abbrev pub work_after : ℕ → List ℕ → List ℕ
work_after number work = cond (spent number) (zeroed work) work

abbrev pub open_left : Asked → OpenLeft
open_left a =
    left (after (open_number a) (splice (slot_of a.table 0 * a.table.columns) (stored_secret a) a.slab) a.slab)
    (work_after (open_number a) a.secret)
    (work_after (open_number a) a.error)
    (after (open_number a) (laid (marked a.table.b a.positions (noisy_of a)) a.query) a.query)
