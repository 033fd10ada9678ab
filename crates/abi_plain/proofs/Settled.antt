-- Two results that an entry's contract allows for one input coincide: the answer and each lent buffer alike. It is said of the
-- contracts themselves, and p and q are what their clauses say of the two results.
use mathlib.Core.Path.{refl, ◌∙⁻¹◌}
use Rattle.laws.specs.Uniqueness.{AllowsOne}
use Rattle.laws.proofs.Contracts.{◌&◌, skip, one_buffer}
use Rattle.abi_plain.proofs.matrix.ladletwig_plain_product as plain-product
use Rattle.abi_plain.proofs.matrix.ladletwig_transpose as transpose
use Rattle.abi_plain.proofs.bytes.ladletwig_to_bytes as to-bytes
use Rattle.abi_plain.proofs.bytes.ladletwig_from_bytes as from_bytes
use Rattle.abi_plain.proofs.rounding.ladletwig_calculate_query_indicator as indicator
use Rattle.abi_plain.proofs.rounding.ladletwig_rounded as rounded

pub plain_product_settled : AllowsOne plain-product.Kinds.ps plain-product.Kinds.r plain-product.Reads.Post
plain_product_settled κs a x y v w = one_buffer 5

pub transpose_settled : AllowsOne transpose.Kinds.ps transpose.Kinds.r transpose.Reads.Post
transpose_settled κs a x y v w = one_buffer 3

pub to_bytes_settled : AllowsOne to-bytes.Kinds.ps to-bytes.Kinds.r to-bytes.Reads.Post
to_bytes_settled κs a x y v w = one_buffer 3

pub from_bytes_settled : AllowsOne from_bytes.Kinds.ps from_bytes.Kinds.r from_bytes.Reads.Post
from_bytes_settled κs a x y v w p q = (
  λ i. record { number = (p.0 ∙⁻¹ q.0) i; rows = (p.1.0 ∙⁻¹ q.1.0) i; columns = (p.1.1.0 ∙⁻¹ q.1.1.0) i },
  skip 1 (p.1.1.1 ∙⁻¹ q.1.1.1 & refl),
)

pub calculate_query_indicator_settled : AllowsOne indicator.Kinds.ps indicator.Kinds.r indicator.Reads.Post
calculate_query_indicator_settled κs a x y v w p q = (p ∙⁻¹ q, refl)

pub rounded_settled : AllowsOne rounded.Kinds.ps rounded.Kinds.r rounded.Reads.Post
rounded_settled κs a x y v w p q = (p ∙⁻¹ q, refl)
