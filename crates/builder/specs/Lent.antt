-- The lent keys, as the builder's functions hand them on in one struct, are keys.
use Rattle.builder.specs.Keys.{Keys, lent_keys}
use Rattle.builder.specs.declared.keys.LentKeys.{LentKeys}

abbrev pub keys_in : LentKeys → Keys
keys_in ks = lent_keys ks.columns ks.rows.now ks.masks.now ks.positions.now ks.targets.now
