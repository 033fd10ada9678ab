-- Bits, lowest first, through numbers of w bits each.
use Rattle.std.specs.Prelude.{ℕ, ◌+◌, ◌*◌, ◌/◌, ◌%◌, ◌^◌, List, get_or}
use Rattle.laws.specs.Lists.{build}
use Rattle.laws.specs.Sums.{sum}

-- bit k: bit k mod w of number k div w; past the last number each bit is 0
unfoldable pub bit_of : ℕ → List ℕ → ℕ → ℕ
bit_of w xs k = get_or xs (k / w) 0 / 2 ^ (k % w) % 2

-- the number of w bits whose bits, lowest first, are f at, f (at + 1), ..
unfoldable pub gathered : ℕ → (ℕ → ℕ) → ℕ → ℕ
gathered w f at = sum w (λ i. f (at + i) * 2 ^ i)

-- n numbers of w bits each that carry the bits f 0, f 1, ..
unfoldable pub carried : ℕ → ℕ → (ℕ → ℕ) → List ℕ
carried w n f = build n (λ j. gathered w f (j * w))
