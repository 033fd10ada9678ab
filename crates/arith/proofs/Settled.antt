-- Two results that a function's own contract allows for one input coincide, the answer and each lent buffer alike.
use Rattle.std.proofs.Common.{refl}
use mathlib.Core.Path.{◌∙⁻¹◌}
use Rattle.laws.specs.Uniqueness.{AllowsOne}
use Rattle.laws.proofs.Contracts.{◌&◌, skip}
use Rattle.answers.proofs.Apart.{same_packing}
use Rattle.arith.proofs.packing.row_wise_compress as compress
use Rattle.arith.proofs.packing.row_wise_decompress as decompress
use Rattle.arith.proofs.product.row_vector_x_compressed_transposed_matrix as product

pub row_wise_compress_settled : AllowsOne compress.Kinds.ps compress.Kinds.r compress.Reads.Post
row_wise_compress_settled κs a x y v w p q =
    (same_packing (p.0 ∙⁻¹ q.0), skip 4 (p.1 ∙⁻¹ q.1 & refl))

pub row_wise_decompress_settled : AllowsOne decompress.Kinds.ps decompress.Kinds.r decompress.Reads.Post
row_wise_decompress_settled κs a x y v w p q =
    (same_packing (p.0 ∙⁻¹ q.0), skip 4 (p.1 ∙⁻¹ q.1 & refl))

pub row_vector_x_compressed_transposed_matrix_settled : AllowsOne product.Kinds.ps product.Kinds.r product.Reads.Post
row_vector_x_compressed_transposed_matrix_settled κs a x y v w p q =
    (same_packing (p.0 ∙⁻¹ q.0), skip 5 (p.1 ∙⁻¹ q.1 & refl))
