-- Which numbers put a ticket into which group, computed.
use mathlib.Core.Path.{◌≡◌, refl}
use mathlib.Core.Bool.{true, false}
use Rattle.runs.specs.Groups.{answering, failing}

-- 0 answers a ticket, 13 and 14 close it by a refusal, 12 does neither
pub named : (answering 0 ≡ true)
    × (failing 13 ≡ true)
    × (failing 14 ≡ true)
    × (answering 12 ≡ false)
    × (failing 12 ≡ false)
    × (failing 0 ≡ false)
named = (refl, refl, refl, refl, refl, refl)
