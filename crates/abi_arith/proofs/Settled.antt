-- Two results that an entry's contract allows for one input coincide: the answer and each lent buffer alike. It is said of the
-- contracts themselves, and p and q are what their clauses say of the two results.
use mathlib.Core.Path.{refl, ◌∙⁻¹◌}
use Rattle.laws.specs.Uniqueness.{AllowsOne}
use Rattle.laws.proofs.Contracts.{◌&◌, skip, one_buffer}
use Rattle.abi_arith.proofs.packing.ladletwig_row_wise_compress as compress
use Rattle.abi_arith.proofs.packing.ladletwig_row_wise_decompress as decompress
use Rattle.abi_arith.proofs.product.ladletwig_row_vector_x_compressed_transposed_matrix as product
use Rattle.abi_arith.proofs.sampler.ladletwig_sample_from_uniform_ternary_dist as sample
use Rattle.abi_arith.proofs.sampler.ladletwig_sample_and_return_unread as sister
use Rattle.abi_arith.proofs.codec.ladletwig_encode_kv_as_row as encode
use Rattle.abi_arith.proofs.codec.ladletwig_decode_kv_from_row as decode

pub row_wise_compress_settled : AllowsOne compress.Kinds.ps compress.Kinds.r compress.Reads.Post
row_wise_compress_settled κs a x y v w = one_buffer 4

pub row_wise_decompress_settled : AllowsOne decompress.Kinds.ps decompress.Kinds.r decompress.Reads.Post
row_wise_decompress_settled κs a x y v w = one_buffer 4

pub row_vector_x_compressed_transposed_matrix_settled : AllowsOne product.Kinds.ps product.Kinds.r product.Reads.Post
row_vector_x_compressed_transposed_matrix_settled κs a x y v w = one_buffer 5

pub sample_from_uniform_ternary_dist_settled : AllowsOne sample.Kinds.ps sample.Kinds.r sample.Reads.Post
sample_from_uniform_ternary_dist_settled κs a x y v w p q =
    (λ i. record { number = (p.0 ∙⁻¹ q.0) i; read = (p.1.0 ∙⁻¹ q.1.0) i }, skip 2 (p.1.1 ∙⁻¹ q.1.1 & refl))

pub sample_and_return_unread_settled : AllowsOne sister.Kinds.ps sister.Kinds.r sister.Reads.Post
sample_and_return_unread_settled κs a x y v w = one_buffer 2

pub encode_kv_as_row_settled : AllowsOne encode.Kinds.ps encode.Kinds.r encode.Reads.Post
encode_kv_as_row_settled κs a x y v w = one_buffer 4

pub decode_kv_from_row_settled : AllowsOne decode.Kinds.ps decode.Kinds.r decode.Reads.Post
decode_kv_from_row_settled κs a x y v w p q = (
  λ i. record { number = (p.0 ∙⁻¹ q.0) i; length = (p.1.0 ∙⁻¹ q.1.0) i },
  skip 3 (p.1.1.0 ∙⁻¹ q.1.1.0 & p.1.1.1 ∙⁻¹ q.1.1.1 & refl),
)
