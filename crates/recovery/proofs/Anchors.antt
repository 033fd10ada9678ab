-- Small numbers, computed, at which the definitions of specs/ can be held against the request by hand. A wrong server, a wrong
-- hint, a wrong bound and masks that are left out each show here first.
use mathlib.Core.Path.{◌≡◌, refl}
use mathlib.Core.List.{[], ◌∷◌}
use Rattle.laws.specs.Lists.{build, join}
use Rattle.laws.specs.Sums.{sum}
use Rattle.leaves.specs.Rounding.{rounded}
use Rattle.plain.specs.Matrix.{grid, times}
use Rattle.plain.specs.Bytes.{all_bytes, matrix_bytes, word_at}
use Rattle.frames.specs.Lines.{digit, hex, frame, digit_value, unhex, line_words}
use Rattle.recovery.specs.Noise.{signed, Quiet}
use Rattle.recovery.specs.Store.{Store, hint_of, served, served_line, wanted}

-- b 10, R 2, C 2: D has the rows [1 2] and [3 4]. C is too small for a table, which these definitions do not ask.
abbrev small : Store
small = record { b = 10; n = 1; r = 2; columns = 2; matrix = 1 ∷ 1 ∷ []; elements = 1 ∷ 2 ∷ 3 ∷ 4 ∷ [] }

-- the hint: A, one row of ones, times D
pub hint : hint_of small ≡ 4 ∷ 6 ∷ []
unfolding build join sum grid times
hint = refl

-- the query [2 3] times D, and the line that answers it for ticket 7
pub product : served small (2 ∷ 3 ∷ []) ≡ 11 ∷ 16 ∷ []
unfolding build join sum grid times
product = refl

pub answer : served_line small (frame 1 7 (2 ∷ 3 ∷ [])) ≡ frame 2 7 (11 ∷ 16 ∷ [])
unfolding build join sum grid times all_bytes matrix_bytes word_at digit hex frame digit_value unhex line_words
answer = refl

-- both rows and the masks [5 1020], modulo 1024
pub sum_and_masks : wanted small (0 ∷ 1 ∷ []) (5 ∷ 1020 ∷ []) ≡ 9 ∷ 2 ∷ []
unfolding build sum
sum_and_masks = refl

-- At the ties of 01's worked numbers (8, 9 and 11) a noise keeps its bound exactly where its word rounds to 0: 2^21 does and one
-- more does not, -2^21 does not and one more does. Bound.antt has it for every width from 4 to 14 and every word.
pub ties : (Quiet 10 (signed 2097152) × (rounded 10 2097152 ≡ 0))
    × (¬ Quiet 10 (signed 2097153) × (rounded 10 2097153 ≡ 1))
    × (¬ Quiet 10 (signed 4292870144) × (rounded 10 4292870144 ≡ 1023))
    × (Quiet 10 (signed 4292870145) × (rounded 10 4292870145 ≡ 0))
unfolding signed rounded
ties = (
  (record { above = record { lt = tt }; most = record { le = tt } }, refl),
  (λ q. q.most.le, refl),
  (λ q. q.above.lt, refl),
  (record { above = record { lt = tt }; most = record { le = tt } }, refl),
)
