use Rattle.std.proofs.Common.{◌≤◌, sym, rules}
use Rattle.rows.proofs.codec.Sizes.{sized}
use Rattle.rows.proofs.codec.value_room.Goals as goal

pub overflow_mul-result : goal.overflow_mul-result
overflow_mul-result c =
    let most : c.args.columns ≤ 512 = (sized c.args.b c.args.columns (sym c.if-columns_bad.ensures)).most in
    search rules
