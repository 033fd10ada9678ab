-- Two results that an export's contract allows for one input coincide: the answer and each lent buffer alike. It is said of the
-- contracts themselves, and p and q are what their clauses say of the two results.
use mathlib.Core.Path.{refl, ◌∙⁻¹◌, ap}
use Rattle.laws.specs.Uniqueness.{AllowsOne}
use Rattle.laws.proofs.Contracts.{◌&◌, skip, one_buffer, past}
use Rattle.queries.specs.Open.{OpenSaid, OpenLeft}
use Rattle.replies.specs.Reply.{ReplySaid}
use Rattle.ladletwig_c.proofs.matrix.ladletwig_plain_product as plain-product
use Rattle.ladletwig_c.proofs.matrix.ladletwig_transpose as transpose
use Rattle.ladletwig_c.proofs.bytes.ladletwig_to_bytes as to-bytes
use Rattle.ladletwig_c.proofs.bytes.ladletwig_from_bytes as from_bytes
use Rattle.ladletwig_c.proofs.rounding.ladletwig_calculate_query_indicator as indicator
use Rattle.ladletwig_c.proofs.rounding.ladletwig_rounded as rounded
use Rattle.ladletwig_c.proofs.packing.ladletwig_row_wise_compress as compress
use Rattle.ladletwig_c.proofs.packing.ladletwig_row_wise_decompress as decompress
use Rattle.ladletwig_c.proofs.product.ladletwig_row_vector_x_compressed_transposed_matrix as product
use Rattle.ladletwig_c.proofs.sampler.ladletwig_sample_from_uniform_ternary_dist as sample
use Rattle.ladletwig_c.proofs.sampler.ladletwig_sample_and_return_unread as sister
use Rattle.ladletwig_c.proofs.codec.ladletwig_encode_kv_as_row as encode
use Rattle.ladletwig_c.proofs.codec.ladletwig_decode_kv_from_row as decode
use Rattle.ladletwig_c.proofs.database.ladletwig_build_database as build
use Rattle.ladletwig_c.proofs.table.ladletwig_fresh as fresh
use Rattle.ladletwig_c.proofs.table.ladletwig_is_malformed as is-malformed
use Rattle.ladletwig_c.proofs.«open».ladletwig_query_for_4_wise_xor_filter as query
use Rattle.ladletwig_c.proofs.reply.ladletwig_process_response as reply
use Rattle.ladletwig_c.proofs.discard.ladletwig_discard_query as discard
use Rattle.ladletwig_c.proofs.lines.ladletwig_write_query_line as write
use Rattle.ladletwig_c.proofs.lines.ladletwig_read_response_line as read

pub plain_product_settled : AllowsOne plain-product.Kinds.ps plain-product.Kinds.r plain-product.Reads.Post
plain_product_settled κs a x y v w = one_buffer 5

pub transpose_settled : AllowsOne transpose.Kinds.ps transpose.Kinds.r transpose.Reads.Post
transpose_settled κs a x y v w = one_buffer 3

pub to_bytes_settled : AllowsOne to-bytes.Kinds.ps to-bytes.Kinds.r to-bytes.Reads.Post
to_bytes_settled κs a x y v w = one_buffer 3

pub from_bytes_settled : AllowsOne from_bytes.Kinds.ps from_bytes.Kinds.r from_bytes.Reads.Post
from_bytes_settled κs a x y v w p q = (
  λ i. record { number = (p.0 ∙⁻¹ q.0) i; rows = (p.1.0 ∙⁻¹ q.1.0) i; columns = (p.1.1.0 ∙⁻¹ q.1.1.0) i },
  skip 1 (p.1.1.1 ∙⁻¹ q.1.1.1 & refl),
)

pub calculate_query_indicator_settled : AllowsOne indicator.Kinds.ps indicator.Kinds.r indicator.Reads.Post
calculate_query_indicator_settled κs a x y v w p q = (p ∙⁻¹ q, refl)

pub rounded_settled : AllowsOne rounded.Kinds.ps rounded.Kinds.r rounded.Reads.Post
rounded_settled κs a x y v w p q = (p ∙⁻¹ q, refl)

pub row_wise_compress_settled : AllowsOne compress.Kinds.ps compress.Kinds.r compress.Reads.Post
row_wise_compress_settled κs a x y v w = one_buffer 4

pub row_wise_decompress_settled : AllowsOne decompress.Kinds.ps decompress.Kinds.r decompress.Reads.Post
row_wise_decompress_settled κs a x y v w = one_buffer 4

pub row_vector_x_compressed_transposed_matrix_settled : AllowsOne product.Kinds.ps product.Kinds.r product.Reads.Post
row_vector_x_compressed_transposed_matrix_settled κs a x y v w = one_buffer 5

pub sample_from_uniform_ternary_dist_settled : AllowsOne sample.Kinds.ps sample.Kinds.r sample.Reads.Post
sample_from_uniform_ternary_dist_settled κs a x y v w p q =
    (λ i. record { number = (p.0 ∙⁻¹ q.0) i; read = (p.1.0 ∙⁻¹ q.1.0) i }, skip 2 (p.1.1 ∙⁻¹ q.1.1 & refl))

pub sample_and_return_unread_settled : AllowsOne sister.Kinds.ps sister.Kinds.r sister.Reads.Post
sample_and_return_unread_settled κs a x y v w = one_buffer 2

pub encode_kv_as_row_settled : AllowsOne encode.Kinds.ps encode.Kinds.r encode.Reads.Post
encode_kv_as_row_settled κs a x y v w = one_buffer 4

pub decode_kv_from_row_settled : AllowsOne decode.Kinds.ps decode.Kinds.r decode.Reads.Post
decode_kv_from_row_settled κs a x y v w p q = (
  λ i. record { number = (p.0 ∙⁻¹ q.0) i; length = (p.1.0 ∙⁻¹ q.1.0) i },
  skip 3 (p.1.1.0 ∙⁻¹ q.1.1.0 & p.1.1.1 ∙⁻¹ q.1.1.1 & refl),
)

pub build_database_settled : AllowsOne build.Kinds.ps build.Kinds.r build.Reads.Post
build_database_settled κs a x y v w = one_buffer 8

pub fresh_settled : AllowsOne fresh.Kinds.ps fresh.Kinds.r fresh.Reads.Post
fresh_settled κs a x y v w p q = (λ i. record { number = (p.0 ∙⁻¹ q.0) i; table = (p.1 ∙⁻¹ q.1) i }, refl)

pub is_malformed_settled : AllowsOne is-malformed.Kinds.ps is-malformed.Kinds.r is-malformed.Reads.Post
is_malformed_settled κs a x y v w p q = (p ∙⁻¹ q, refl)

pub query_for_4_wise_xor_filter_settled : AllowsOne query.Kinds.ps query.Kinds.r query.Reads.Post
query_for_4_wise_xor_filter_settled κs a x y v w p q = (
  ap (λ (s : OpenSaid). record { number = s.number; ticket = s.ticket; read = s.read; table = s.table }) (p.0 ∙⁻¹ q.0),
  ap (λ (l : OpenLeft). past 1 (l.slab, past 8 (l.secret, (l.error, (l.query, tt))))) (p.1 ∙⁻¹ q.1),
)

pub process_response_settled : AllowsOne reply.Kinds.ps reply.Kinds.r reply.Reads.Post
process_response_settled κs a x y v w p q = (
  ap (λ (s : ReplySaid). record { number = s.number; length = s.length; table = s.table }) (p.0 ∙⁻¹ q.0),
  skip 1 (p.1.0 ∙⁻¹ q.1.0 & skip 3 (p.1.1 ∙⁻¹ q.1.1 & refl)),
)

pub discard_query_settled : AllowsOne discard.Kinds.ps discard.Kinds.r discard.Reads.Post
discard_query_settled κs a x y v w p q =
    (λ i. record { number = (p.0 ∙⁻¹ q.0) i; table = (p.1.0 ∙⁻¹ q.1.0) i }, skip 1 (p.1.1 ∙⁻¹ q.1.1 & refl))

pub write_query_line_settled : AllowsOne write.Kinds.ps write.Kinds.r write.Reads.Post
write_query_line_settled κs a x y v w p q =
    (λ i. record { number = (p.0 ∙⁻¹ q.0) i; length = (p.1.0 ∙⁻¹ q.1.0) i }, skip 2 (p.1.1 ∙⁻¹ q.1.1 & refl))

pub read_response_line_settled : AllowsOne read.Kinds.ps read.Kinds.r read.Reads.Post
read_response_line_settled κs a x y v w p q = (
  λ i. record { number = (p.0 ∙⁻¹ q.0) i; ticket = (p.1.0 ∙⁻¹ q.1.0) i; columns = (p.1.1.0 ∙⁻¹ q.1.1.0) i },
  skip 1 (p.1.1.1 ∙⁻¹ q.1.1.1 & refl),
)
