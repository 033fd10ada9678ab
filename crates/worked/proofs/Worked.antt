-- The worked cases are as document 01 states them.
use mathlib.Core.Path.{refl}
use Rattle.laws.specs.Lists.{build, join, laid}
use Rattle.laws.specs.Sums.{sum}
use Rattle.laws.specs.Search.{some, lowest}
use Rattle.arith.specs.Packing.{packing_shape_bad}
use Rattle.arith.specs.Packing.{factor_of, slot_bits, words_of, word_of, pack_row, packed, element_of, compress_number}
use Rattle.arith.specs.Product.{entry_of, product, operands_bad, product_number}
use Rattle.samples.specs.Sampler.{accepted, ternary, given, holds_enough, shortest, too_few, sample_number}
use Rattle.leaves.specs.Positions.{among}
use Rattle.leaves.specs.Rounding.{rounded}
use Rattle.queries.specs.Open.{wraps, marked}
use Rattle.worked.specs.Worked.{worked, AsStated}

pub as_stated : AsStated worked
unfolding sum build join laid packing_shape_bad factor_of slot_bits words_of word_of pack_row packed element_of compress_number entry_of product operands_bad product_number some lowest accepted ternary given holds_enough shortest too_few sample_number among rounded wraps marked
as_stated = (refl, (refl, (refl, (refl, (refl, (refl, (refl, (refl, (refl, (refl, (refl, (refl, tt))))))))))))
