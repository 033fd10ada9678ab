-- Two results that a function's own contract allows for one answer coincide: each is a definition's value.
use mathlib.Core.Path.{refl, ◌∙⁻¹◌}
use denote.RattleType.{RattleType}
use denote.Param.Laws.{Laws}
use mir.Syntax.{Dict}
use Rattle.laws.specs.Uniqueness.{AllowsOne, AnswersOne}
use Rattle.answers.specs.declared.refusal.Refusal.{Ghosts}
use Rattle.answers.proofs.refusal.told
use Rattle.answers.proofs.matrix.FittingRefusalRefusal.number as fitting_refusal
use Rattle.answers.proofs.bytes.ParsingRefusalRefusal.number as parsing_refusal
use Rattle.answers.proofs.bytes.ParsedFromResultTuple2UsizeUsizeParsingRefusal.from as told_parsing
use Rattle.answers.proofs.packing.PackingRefusalRefusal.number as packing_refusal
use Rattle.answers.proofs.sampler.SamplingRefusalRefusal.number as sampling_refusal
use Rattle.answers.proofs.sampler.SampledFromResultUsizeSamplingRefusal.from as told_sampling
use Rattle.answers.proofs.codec.EncodingRefusalRefusal.number as encoding_refusal
use Rattle.answers.proofs.codec.DecodingRefusalRefusal.number as decoding_refusal
use Rattle.answers.proofs.codec.DecodedFromResultUsizeDecodingRefusal.from as told_decoding
use Rattle.answers.proofs.database.BuildingRefusalRefusal.number as building_refusal
use Rattle.answers.proofs.lines.WritingRefusalRefusal.number as writing_refusal
use Rattle.answers.proofs.lines.LineWrittenFromResultUsizeWritingRefusal.from as told_writing
use Rattle.answers.proofs.lines.ReadingRefusalRefusal.number as reading_refusal
use Rattle.answers.proofs.lines.LineReadFromResultTuple2U32UsizeReadingRefusal.from as told_reading
use denote.Struct.Field.{unit-field}
use Rattle.answers.specs.contracts.matrix.FittingRefusal as fitting_reasons
use Rattle.answers.specs.contracts.packing.PackingRefusal as packing_reasons
use Rattle.answers.specs.contracts.codec.EncodingRefusal as encoding_reasons
use Rattle.answers.specs.contracts.database.BuildingRefusal as building_reasons

-- of every kind of answer at once
pub told_settled : (T R : RattleType) (t : Laws T) (r : Laws R) (g : Ghosts R.Denot) (d e : Dict)
    → AnswersOne (told.Kinds.ps T R t r) (told.Kinds.r T R t r) (told.Reads.Post T R t r g d e)
told_settled T R t r g d e κs a x y v w p q = p ∙⁻¹ q

pub fitting_refusal_settled : AllowsOne fitting_refusal.Kinds.ps fitting_refusal.Kinds.r fitting_refusal.Reads.Post
fitting_refusal_settled κs a x y v w p q = (p ∙⁻¹ q, refl)

pub parsing_refusal_settled : AllowsOne parsing_refusal.Kinds.ps parsing_refusal.Kinds.r parsing_refusal.Reads.Post
parsing_refusal_settled κs a x y v w p q = (p ∙⁻¹ q, refl)

pub told_parsing_settled : AllowsOne told_parsing.Kinds.ps told_parsing.Kinds.r told_parsing.Reads.Post
told_parsing_settled κs a x y v w p q = (p ∙⁻¹ q, refl)

pub packing_refusal_settled : AllowsOne packing_refusal.Kinds.ps packing_refusal.Kinds.r packing_refusal.Reads.Post
packing_refusal_settled κs a x y v w p q = (p ∙⁻¹ q, refl)

pub sampling_refusal_settled : AllowsOne sampling_refusal.Kinds.ps sampling_refusal.Kinds.r sampling_refusal.Reads.Post
sampling_refusal_settled κs a x y v w p q = (p ∙⁻¹ q, refl)

pub told_sampling_settled : AllowsOne told_sampling.Kinds.ps told_sampling.Kinds.r told_sampling.Reads.Post
told_sampling_settled κs a x y v w p q = (p ∙⁻¹ q, refl)

pub encoding_refusal_settled : AllowsOne encoding_refusal.Kinds.ps encoding_refusal.Kinds.r encoding_refusal.Reads.Post
encoding_refusal_settled κs a x y v w p q = (p ∙⁻¹ q, refl)

pub decoding_refusal_settled : AllowsOne decoding_refusal.Kinds.ps decoding_refusal.Kinds.r decoding_refusal.Reads.Post
decoding_refusal_settled κs a x y v w p q = (p ∙⁻¹ q, refl)

pub told_decoding_settled : AllowsOne told_decoding.Kinds.ps told_decoding.Kinds.r told_decoding.Reads.Post
told_decoding_settled κs a x y v w p q = (p ∙⁻¹ q, refl)

pub building_refusal_settled : AllowsOne building_refusal.Kinds.ps building_refusal.Kinds.r building_refusal.Reads.Post
building_refusal_settled κs a x y v w p q = (p ∙⁻¹ q, refl)

pub writing_refusal_settled : AllowsOne writing_refusal.Kinds.ps writing_refusal.Kinds.r writing_refusal.Reads.Post
writing_refusal_settled κs a x y v w p q = (p ∙⁻¹ q, refl)

pub told_writing_settled : AllowsOne told_writing.Kinds.ps told_writing.Kinds.r told_writing.Reads.Post
told_writing_settled κs a x y v w p q = (p ∙⁻¹ q, refl)

pub reading_refusal_settled : AllowsOne reading_refusal.Kinds.ps reading_refusal.Kinds.r reading_refusal.Reads.Post
reading_refusal_settled κs a x y v w p q = (p ∙⁻¹ q, refl)

pub told_reading_settled : AllowsOne told_reading.Kinds.ps told_reading.Kinds.r told_reading.Reads.Post
told_reading_settled κs a x y v w p q = (p ∙⁻¹ q, refl)

-- and of each entry's answer by itself
pub told_fitting_settled : (t : Laws unit-field.row) (r : Laws fitting_reasons.the_row) (g : Ghosts (fitting_reasons.the_row).Denot) (d e : Dict)
    → AnswersOne (told.Kinds.ps unit-field.row fitting_reasons.the_row t r) (told.Kinds.r unit-field.row fitting_reasons.the_row t r) (told.Reads.Post unit-field.row fitting_reasons.the_row t r g d e)
told_fitting_settled = told_settled unit-field.row fitting_reasons.the_row

pub told_packing_settled : (t : Laws unit-field.row) (r : Laws packing_reasons.the_row) (g : Ghosts (packing_reasons.the_row).Denot) (d e : Dict)
    → AnswersOne (told.Kinds.ps unit-field.row packing_reasons.the_row t r) (told.Kinds.r unit-field.row packing_reasons.the_row t r) (told.Reads.Post unit-field.row packing_reasons.the_row t r g d e)
told_packing_settled = told_settled unit-field.row packing_reasons.the_row

pub told_encoding_settled : (t : Laws unit-field.row) (r : Laws encoding_reasons.the_row) (g : Ghosts (encoding_reasons.the_row).Denot) (d e : Dict)
    → AnswersOne (told.Kinds.ps unit-field.row encoding_reasons.the_row t r) (told.Kinds.r unit-field.row encoding_reasons.the_row t r) (told.Reads.Post unit-field.row encoding_reasons.the_row t r g d e)
told_encoding_settled = told_settled unit-field.row encoding_reasons.the_row

pub told_building_settled : (t : Laws unit-field.row) (r : Laws building_reasons.the_row) (g : Ghosts (building_reasons.the_row).Denot) (d e : Dict)
    → AnswersOne (told.Kinds.ps unit-field.row building_reasons.the_row t r) (told.Kinds.r unit-field.row building_reasons.the_row t r) (told.Reads.Post unit-field.row building_reasons.the_row t r g d e)
told_building_settled = told_settled unit-field.row building_reasons.the_row
