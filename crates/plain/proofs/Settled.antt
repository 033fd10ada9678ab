-- Two results that a function's own contract allows for one input coincide, the answer and each lent buffer alike.
use Rattle.std.proofs.Common.{refl}
use mathlib.Core.Path.{◌∙⁻¹◌}
use Rattle.laws.specs.Uniqueness.{AllowsOne}
use Rattle.laws.proofs.Contracts.{◌&◌, skip}
use Rattle.answers.proofs.Apart.{same_fitting, same_parsing}
use Rattle.plain.proofs.matrix.plain_product
use Rattle.plain.proofs.matrix.transpose
use Rattle.plain.proofs.bytes.to_bytes
use Rattle.plain.proofs.bytes.from_bytes
use Rattle.plain.proofs.bytes.put_word
use Rattle.plain.proofs.bytes.word_of

pub plain_product_settled : AllowsOne plain_product.Kinds.ps plain_product.Kinds.r plain_product.Reads.Post
plain_product_settled κs a x y v w p q =
    (same_fitting (p.0 ∙⁻¹ q.0), skip 5 (p.1 ∙⁻¹ q.1 & refl))

pub transpose_settled : AllowsOne transpose.Kinds.ps transpose.Kinds.r transpose.Reads.Post
transpose_settled κs a x y v w p q =
    (same_fitting (p.0 ∙⁻¹ q.0), skip 3 (p.1 ∙⁻¹ q.1 & refl))

pub to_bytes_settled : AllowsOne to_bytes.Kinds.ps to_bytes.Kinds.r to_bytes.Reads.Post
to_bytes_settled κs a x y v w p q =
    (same_fitting (p.0 ∙⁻¹ q.0), skip 3 (p.1 ∙⁻¹ q.1 & refl))

pub from_bytes_settled : AllowsOne from_bytes.Kinds.ps from_bytes.Kinds.r from_bytes.Reads.Post
from_bytes_settled κs a x y v w p q = (
  same_parsing (p.0 ∙⁻¹ q.0) (p.1.0 ∙⁻¹ q.1.0) (p.1.1.0 ∙⁻¹ q.1.1.0),
  skip 1 (p.1.1.1 ∙⁻¹ q.1.1.1 & refl),
)

pub put_word_settled : AllowsOne put_word.Kinds.ps put_word.Kinds.r put_word.Reads.Post
put_word_settled κs a x y v w p q = (refl, skip 1 (p ∙⁻¹ q & refl))

pub word_of_settled : AllowsOne word_of.Kinds.ps word_of.Kinds.r word_of.Reads.Post
word_of_settled κs a x y v w p q = (p ∙⁻¹ q, refl)
