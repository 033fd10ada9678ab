-- Each turn writes one key more.
use Rattle.std.proofs.Common.{◌≡◌}
use Rattle.builder.specs.Lent.{keys_in}
use Rattle.builder.specs.Database.{database}
use Rattle.builder.proofs.database.place_keys.Given as goal

abbrev pub invariant-loop-i : goal.invariant-loop-i
invariant-loop-i l = l.words ≡ database l.width.bits l.keys.r l.keys.columns (keys_in l.keys) l.i
