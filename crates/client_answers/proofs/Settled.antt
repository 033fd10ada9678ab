-- Two results that a function's own contract allows for one answer coincide: each is a definition's value.
use mathlib.Core.Path.{refl, ◌∙⁻¹◌}
use Rattle.laws.specs.Uniqueness.{AllowsOne, AnswersOne}
use Rattle.client_answers.proofs.table.MakingRefusalRefusal.number as making_refusal
use Rattle.client_answers.proofs.«open».OpeningRefusalRefusal.number as opening_refusal
use Rattle.client_answers.proofs.«open».OpenToldFromResultTuple2U32UsizeOpeningRefusal.from as told_opening
use Rattle.client_answers.proofs.reply.ReplyingRefusalRefusal.number as replying_refusal
use Rattle.client_answers.proofs.reply.ReplyToldFromResultUsizeReplyingRefusal.from as told_replying
use Rattle.client_answers.proofs.discard.DiscardingRefusalRefusal.number as discarding_refusal
use denote.RattleType.{RattleType}
use denote.Struct.Field.{unit-field}
use denote.Param.Laws.{Laws}
use mir.Syntax.{Dict}
use Rattle.answers.specs.declared.refusal.Refusal.{Ghosts}
use Rattle.answers.proofs.refusal.told
use Rattle.answers.proofs.Settled.{told_settled}
use Rattle.client_answers.specs.contracts.table.MakingRefusal as making_reasons
use Rattle.client_answers.specs.contracts.discard.DiscardingRefusal as discarding_reasons

pub making_refusal_settled : AllowsOne making_refusal.Kinds.ps making_refusal.Kinds.r making_refusal.Reads.Post
making_refusal_settled κs a x y v w p q = (p ∙⁻¹ q, refl)

pub opening_refusal_settled : AllowsOne opening_refusal.Kinds.ps opening_refusal.Kinds.r opening_refusal.Reads.Post
opening_refusal_settled κs a x y v w p q = (p ∙⁻¹ q, refl)

pub told_opening_settled : AllowsOne told_opening.Kinds.ps told_opening.Kinds.r told_opening.Reads.Post
told_opening_settled κs a x y v w p q = (p ∙⁻¹ q, refl)

pub replying_refusal_settled : AllowsOne replying_refusal.Kinds.ps replying_refusal.Kinds.r replying_refusal.Reads.Post
replying_refusal_settled κs a x y v w p q = (p ∙⁻¹ q, refl)

pub told_replying_settled : AllowsOne told_replying.Kinds.ps told_replying.Kinds.r told_replying.Reads.Post
told_replying_settled κs a x y v w p q = (p ∙⁻¹ q, refl)

pub discarding_refusal_settled : AllowsOne discarding_refusal.Kinds.ps discarding_refusal.Kinds.r discarding_refusal.Reads.Post
discarding_refusal_settled κs a x y v w p q = (p ∙⁻¹ q, refl)

-- and of each entry's answer by itself
pub told_making_settled : (T : RattleType) (t : Laws T) (r : Laws making_reasons.the_row) (g : Ghosts (making_reasons.the_row).Denot) (d e : Dict)
    → AnswersOne (told.Kinds.ps T making_reasons.the_row t r) (told.Kinds.r T making_reasons.the_row t r) (told.Reads.Post T making_reasons.the_row t r g d e)
told_making_settled T = told_settled T making_reasons.the_row

pub told_discarding_settled : (t : Laws unit-field.row) (r : Laws discarding_reasons.the_row) (g : Ghosts (discarding_reasons.the_row).Denot) (d e : Dict)
    → AnswersOne (told.Kinds.ps unit-field.row discarding_reasons.the_row t r) (told.Kinds.r unit-field.row discarding_reasons.the_row t r) (told.Reads.Post unit-field.row discarding_reasons.the_row t r g d e)
told_discarding_settled = told_settled unit-field.row discarding_reasons.the_row
