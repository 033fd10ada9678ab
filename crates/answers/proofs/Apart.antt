-- An answer can be made again from what it tells, so two that tell the same are one.
use mathlib.Core.Path.{◌≡◌, refl}
use mathlib.Core.Bool.{cond}
use Prim.Native.Nat.{ℕ}
use lib.Dec.{eqb}
use Rattle.std.specs.Prelude.{Result, Ok, Err}
use Rattle.laws.proofs.Contracts.{told_apart}
use Rattle.answers.specs.declared.matrix.FittingRefusal.{FittingRefusal}
use Rattle.answers.specs.declared.matrix.FittingRefusal.TheVariants as fitting
use Rattle.answers.specs.Matrix.{fitting_number}
use Rattle.answers.specs.declared.bytes.ParsingRefusal.{ParsingRefusal}
use Rattle.answers.specs.declared.bytes.ParsingRefusal.TheVariants as parsing
use Rattle.answers.specs.Bytes.{told_parsing, parsing_number, parsing_rows, parsing_columns}
use Rattle.answers.specs.declared.packing.PackingRefusal.{PackingRefusal}
use Rattle.answers.specs.declared.packing.PackingRefusal.TheVariants as packing
use Rattle.answers.specs.Packing.{packing_number}
use Rattle.answers.specs.declared.sampler.SamplingRefusal.{SamplingRefusal}
use Rattle.answers.specs.declared.sampler.SamplingRefusal.TheVariants as sampling
use Rattle.answers.specs.Sampler.{told_sampling, sampling_number, sampling_read}
use Rattle.answers.specs.declared.codec.EncodingRefusal.{EncodingRefusal}
use Rattle.answers.specs.declared.codec.EncodingRefusal.TheVariants as encoding
use Rattle.answers.specs.declared.codec.DecodingRefusal.{DecodingRefusal}
use Rattle.answers.specs.declared.codec.DecodingRefusal.TheVariants as decoding
use Rattle.answers.specs.Codec.{encoding_number, told_decoding, decoding_number, decoding_length}
use Rattle.answers.specs.declared.database.BuildingRefusal.{BuildingRefusal}
use Rattle.answers.specs.declared.database.BuildingRefusal.TheVariants as building
use Rattle.answers.specs.Database.{building_number}
use Rattle.answers.specs.declared.lines.WritingRefusal.{WritingRefusal}
use Rattle.answers.specs.declared.lines.WritingRefusal.TheVariants as writing
use Rattle.answers.specs.declared.lines.ReadingRefusal.{ReadingRefusal}
use Rattle.answers.specs.declared.lines.ReadingRefusal.TheVariants as reading
use Rattle.answers.specs.Lines.{told_writing, writing_number, writing_length, told_reading, reading_number, reading_ticket, reading_columns}

abbrev fitting_of : ℕ → Result Unit FittingRefusal
fitting_of number =
    cond (eqb number 0) (Ok tt)
    (Err fitting.Shape)

fitting_back : (x : Result Unit FittingRefusal) → fitting_of (fitting_number x) ≡ x
fitting_back (Ok done) = refl
fitting_back (Err fitting.Shape) = refl

pub same_fitting : {x y : Result Unit FittingRefusal} → fitting_number x ≡ fitting_number y → x ≡ y
same_fitting = told_apart fitting_number fitting_of fitting_back

abbrev parsing_of : ℕ → ℕ → ℕ → Result (ℕ × ℕ) ParsingRefusal
parsing_of number rows columns =
    cond (eqb number 0) (Ok (rows, columns))
    (cond (eqb number 11) (Err parsing.Malformed) (Err parsing.Shape))

parsing_back : (x : Result (ℕ × ℕ) ParsingRefusal) → parsing_of (parsing_number x) (parsing_rows x) (parsing_columns x) ≡ x
parsing_back (Ok pair) = refl
parsing_back (Err parsing.Malformed) = refl
parsing_back (Err parsing.Shape) = refl

pub same_parsing : {x y : Result (ℕ × ℕ) ParsingRefusal} → parsing_number x ≡ parsing_number y → parsing_rows x ≡ parsing_rows y → parsing_columns x ≡ parsing_columns y → x ≡ y
same_parsing p q r =
    told_apart told_parsing (λ t. parsing_of t.number t.rows t.columns) parsing_back
    (λ i. record { number = p i; rows = q i; columns = r i })

abbrev packing_of : ℕ → Result Unit PackingRefusal
packing_of number =
    cond (eqb number 0) (Ok tt)
    (cond (eqb number 1) (Err packing.Width) (Err packing.Shape))

packing_back : (x : Result Unit PackingRefusal) → packing_of (packing_number x) ≡ x
packing_back (Ok done) = refl
packing_back (Err packing.Width) = refl
packing_back (Err packing.Shape) = refl

pub same_packing : {x y : Result Unit PackingRefusal} → packing_number x ≡ packing_number y → x ≡ y
same_packing = told_apart packing_number packing_of packing_back

abbrev sampling_of : ℕ → ℕ → Result ℕ SamplingRefusal
sampling_of number read =
    cond (eqb number 0) (Ok read)
    (cond (eqb number 2) (Err sampling.Shape)
    (cond (eqb number 4) (Err sampling.Interval) (Err sampling.Short)))

sampling_back : (x : Result ℕ SamplingRefusal) → sampling_of (sampling_number x) (sampling_read x) ≡ x
sampling_back (Ok read) = refl
sampling_back (Err sampling.Shape) = refl
sampling_back (Err sampling.Interval) = refl
sampling_back (Err sampling.Short) = refl

pub same_sampling : {x y : Result ℕ SamplingRefusal} → sampling_number x ≡ sampling_number y → sampling_read x ≡ sampling_read y → x ≡ y
same_sampling p q =
    told_apart told_sampling (λ t. sampling_of t.number t.read) sampling_back
    (λ i. record { number = p i; read = q i })

abbrev encoding_of : ℕ → Result Unit EncodingRefusal
encoding_of number =
    cond (eqb number 0) (Ok tt)
    (cond (eqb number 1) (Err encoding.Width)
    (cond (eqb number 2) (Err encoding.Shape) (Err encoding.TooLong)))

encoding_back : (x : Result Unit EncodingRefusal) → encoding_of (encoding_number x) ≡ x
encoding_back (Ok done) = refl
encoding_back (Err encoding.Width) = refl
encoding_back (Err encoding.Shape) = refl
encoding_back (Err encoding.TooLong) = refl

pub same_encoding : {x y : Result Unit EncodingRefusal} → encoding_number x ≡ encoding_number y → x ≡ y
same_encoding = told_apart encoding_number encoding_of encoding_back

abbrev decoding_of : ℕ → ℕ → Result ℕ DecodingRefusal
decoding_of number length =
    cond (eqb number 0) (Ok length)
    (cond (eqb number 1) (Err decoding.Width)
    (cond (eqb number 2) (Err decoding.Shape)
    (cond (eqb number 17) (Err decoding.Element) (Err decoding.Marker))))

decoding_back : (x : Result ℕ DecodingRefusal) → decoding_of (decoding_number x) (decoding_length x) ≡ x
decoding_back (Ok length) = refl
decoding_back (Err decoding.Width) = refl
decoding_back (Err decoding.Shape) = refl
decoding_back (Err decoding.Element) = refl
decoding_back (Err decoding.Marker) = refl

pub same_decoding : {x y : Result ℕ DecodingRefusal} → decoding_number x ≡ decoding_number y → decoding_length x ≡ decoding_length y → x ≡ y
same_decoding p q =
    told_apart told_decoding (λ t. decoding_of t.number t.length) decoding_back
    (λ i. record { number = p i; length = q i })

abbrev building_of : ℕ → Result Unit BuildingRefusal
building_of number =
    cond (eqb number 0) (Ok tt)
    (cond (eqb number 1) (Err building.Width)
    (cond (eqb number 2) (Err building.Shape)
    (cond (eqb number 17) (Err building.Element) (Err building.Placement))))

building_back : (x : Result Unit BuildingRefusal) → building_of (building_number x) ≡ x
building_back (Ok done) = refl
building_back (Err building.Width) = refl
building_back (Err building.Shape) = refl
building_back (Err building.Element) = refl
building_back (Err building.Placement) = refl

pub same_building : {x y : Result Unit BuildingRefusal} → building_number x ≡ building_number y → x ≡ y
same_building = told_apart building_number building_of building_back

abbrev writing_of : ℕ → ℕ → Result ℕ WritingRefusal
writing_of number length =
    cond (eqb number 0) (Ok length)
    (cond (eqb number 11) (Err writing.NoTicket) (Err writing.Shape))

writing_back : (x : Result ℕ WritingRefusal) → writing_of (writing_number x) (writing_length x) ≡ x
writing_back (Ok length) = refl
writing_back (Err writing.NoTicket) = refl
writing_back (Err writing.Shape) = refl

pub same_writing : {x y : Result ℕ WritingRefusal} → writing_number x ≡ writing_number y → writing_length x ≡ writing_length y → x ≡ y
same_writing p q =
    told_apart told_writing (λ t. writing_of t.number t.length) writing_back
    (λ i. record { number = p i; length = q i })

abbrev reading_of : ℕ → ℕ → ℕ → Result (ℕ × ℕ) ReadingRefusal
reading_of number ticket columns =
    cond (eqb number 0) (Ok (ticket, columns))
    (cond (eqb number 11) (Err reading.Malformed) (Err reading.Shape))

reading_back : (x : Result (ℕ × ℕ) ReadingRefusal) → reading_of (reading_number x) (reading_ticket x) (reading_columns x) ≡ x
reading_back (Ok pair) = refl
reading_back (Err reading.Malformed) = refl
reading_back (Err reading.Shape) = refl

pub same_reading : {x y : Result (ℕ × ℕ) ReadingRefusal} → reading_number x ≡ reading_number y → reading_ticket x ≡ reading_ticket y → reading_columns x ≡ reading_columns y → x ≡ y
same_reading p q r =
    told_apart told_reading (λ t. reading_of t.number t.ticket t.columns) reading_back
    (λ i. record { number = p i; ticket = q i; columns = r i })
