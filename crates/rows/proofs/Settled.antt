-- Two results that a function's own contract allows for one input coincide, the answer and each lent buffer alike.
use mathlib.Core.Path.{refl, ◌∙⁻¹◌}
use Rattle.laws.specs.Uniqueness.{AllowsOne}
use Rattle.laws.proofs.Contracts.{◌&◌, skip}
use Rattle.answers.proofs.Apart.{same_encoding, same_decoding}
use Rattle.rows.proofs.codec.columns_bad
use Rattle.rows.proofs.codec.value_room
use Rattle.rows.proofs.codec.encode_kv_as_row as encode
use Rattle.rows.proofs.codec.decode_kv_from_row as decode

pub columns_bad_settled : AllowsOne columns_bad.Kinds.ps columns_bad.Kinds.r columns_bad.Reads.Post
columns_bad_settled κs a x y v w p q = (p ∙⁻¹ q, refl)

pub value_room_settled : AllowsOne value_room.Kinds.ps value_room.Kinds.r value_room.Reads.Post
value_room_settled κs a x y v w p q = (p ∙⁻¹ q, refl)

pub encode_kv_as_row_settled : AllowsOne encode.Kinds.ps encode.Kinds.r encode.Reads.Post
encode_kv_as_row_settled κs a x y v w p q =
    (same_encoding (p.0 ∙⁻¹ q.0), skip 4 (p.1 ∙⁻¹ q.1 & refl))

pub decode_kv_from_row_settled : AllowsOne decode.Kinds.ps decode.Kinds.r decode.Reads.Post
decode_kv_from_row_settled κs a x y v w p q = (
  same_decoding (p.0 ∙⁻¹ q.0) (p.1.0 ∙⁻¹ q.1.0),
  skip 3 (p.1.1.0 ∙⁻¹ q.1.1.0 & p.1.1.1 ∙⁻¹ q.1.1.1 & refl),
)
