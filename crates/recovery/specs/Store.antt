-- Demand 3: one database D of entries below 2^b, one public matrix A, and the hint AD modulo 2^32, used in every call; and the
-- honest server over them.
use Rattle.std.specs.Prelude.{◌≡◌, ℕ, ◌+◌, ◌*◌, ◌%◌, ◌^◌, ◌<◌, false, List, length, get_or}
use Rattle.laws.specs.Lists.{build}
use Rattle.laws.specs.Refusals.{width_bad}
use Rattle.rows.specs.Codec.{columns_bad}
use Rattle.leaves.specs.Limits.{elements_bad}
use Rattle.plain.specs.Matrix.{times, cell}
use Rattle.builder.specs.Database.{rows_sum}
use Rattle.frames.specs.Lines.{frame, line_ticket, line_words}
use Rattle.runs.specs.Run.{Lent}
use Rattle.recovery.specs.Noise.{noise, Quiet}

pub record Store : Type 0 where
  pub b : ℕ
  pub n : ℕ
  pub r : ℕ
  pub columns : ℕ
  pub matrix : List ℕ
  pub elements : List ℕ

-- a store that a table can be made for: b and C within their limits, entries below 2^b
pub record Sound (st : Store) : Type 0 where
  pub width : width_bad st.b ≡ false
  pub sizes : columns_bad st.b st.columns ≡ false
  pub whole : length st.elements ≡ st.r * st.columns
  pub fits : elements_bad st.b st.elements ≡ false

-- AD modulo 2^32
abbrev pub hint_of : Store → List ℕ
hint_of st = times st.n st.r st.columns st.matrix st.elements

-- what every call is lent of it
abbrev pub calls_of : Store → Lent
calls_of st = record { n = st.n; r = st.r; matrix = st.matrix; hint = hint_of st }

-- The honest server. To a query it answers qD modulo 2^32, and to a query line the response line with the same ticket. It is
-- said here and nowhere else: when the host lands (document 02, 6/13), its contract takes this place.
abbrev pub served : Store → List ℕ → List ℕ
served st q = times 1 st.r st.columns q st.elements

abbrev pub served_line : Store → List ℕ → List ℕ
served_line st line = frame 2 (line_ticket line) (served st (line_words line))

-- the noise of each column keeps its bound
pub record Calm (st : Store) (e : List ℕ) : Type 0 where
  pub column : (j : ℕ) → j < st.columns
      → Quiet st.b (noise st.r (λ i. get_or e i 0) (λ i. cell st.columns st.elements i j))

-- the rows at the positions and the masks, added up, modulo 2^b
abbrev pub wanted : Store → List ℕ → List ℕ → List ℕ
wanted st ps masks =
    build st.columns (λ j. (rows_sum st.columns st.elements ps j + get_or masks j 0) % 2 ^ st.b)
