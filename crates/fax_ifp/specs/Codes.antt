-- The codes of what packets tell (ITU-T T.38 of 1998: T30_INDICATOR, T30_DATA and the types of a field), each list in
-- the standard's order.
use Rattle.std.specs.Prelude.{ℕ, Bool, List, [], ◌∷◌, Option, if◌then◌else◌}
use Rattle.fax_frames.specs.declared.rate.Rate.{Rate}
use Rattle.fax_frames.specs.declared.rate.Rate.TheVariants as rates
use Rattle.fax_frames.specs.FieldBits.{look_up}
use Rattle.fax_ifp.specs.declared.codes.Indicator.{Indicator}
use Rattle.fax_ifp.specs.declared.codes.Indicator.TheVariants.{NoSignal, Cng, Ced, V21Preamble, V27At2400Training, V27At4800Training, V29At7200Training, V29At9600Training, V17At7200ShortTraining, V17At7200LongTraining, V17At9600ShortTraining, V17At9600LongTraining, V17At12000ShortTraining, V17At12000LongTraining, V17At14400ShortTraining, V17At14400LongTraining}
use Rattle.fax_ifp.specs.declared.codes.DataType.{DataType}
use Rattle.fax_ifp.specs.declared.codes.DataType.TheVariants.{V21, V27At2400, V27At4800, V29At7200, V29At9600, V17At7200, V17At9600, V17At12000, V17At14400}
use Rattle.fax_ifp.specs.declared.codes.FieldType.{FieldType}
use Rattle.fax_ifp.specs.declared.codes.FieldType.TheVariants.{HdlcData, HdlcSigEnd, HdlcFcsOk, HdlcFcsBad, HdlcFcsOkSigEnd, HdlcFcsBadSigEnd, T4NonEcmData, T4NonEcmSigEnd}

-- the indicators
abbrev pub indicators : List (ℕ × Indicator)
indicators = (0, NoSignal) ∷ (1, Cng) ∷ (2, Ced)
    ∷ (3, V21Preamble) ∷ (4, V27At2400Training) ∷ (5, V27At4800Training) ∷ (6, V29At7200Training)
    ∷ (7, V29At9600Training) ∷ (8, V17At7200ShortTraining) ∷ (9, V17At7200LongTraining) ∷ (
      10,
      V17At9600ShortTraining,
    ) ∷ (11, V17At9600LongTraining) ∷ (12, V17At12000ShortTraining) ∷ (
      13,
      V17At12000LongTraining,
    ) ∷ (14, V17At14400ShortTraining) ∷ (15, V17At14400LongTraining) ∷ []

-- the types of data: a modulation, and its rate in bits a second
abbrev pub data_types : List (ℕ × DataType)
data_types =
    (0, V21) ∷ (1, V27At2400) ∷ (2, V27At4800) ∷ (3, V29At7200) ∷ (4, V29At9600) ∷
    (5, V17At7200) ∷ (6, V17At9600) ∷ (7, V17At12000) ∷ (8, V17At14400) ∷ []

-- the types of a field
abbrev pub field_types : List (ℕ × FieldType)
field_types = (0, HdlcData) ∷ (1, HdlcSigEnd) ∷ (2, HdlcFcsOk) ∷ (3, HdlcFcsBad)
    ∷ (4, HdlcFcsOkSigEnd) ∷ (5, HdlcFcsBadSigEnd) ∷ (6, T4NonEcmData) ∷ (7, T4NonEcmSigEnd) ∷ []

-- what has a code, where something has
abbrev pub indicator_at : ℕ → Option Indicator
indicator_at code = look_up indicators code

abbrev pub data_type_at : ℕ → Option DataType
data_type_at code = look_up data_types code

abbrev pub field_type_at : ℕ → Option FieldType
field_type_at code = look_up field_types code

-- the code of an indicator
abbrev pub indicator_code : Indicator → ℕ
indicator_code NoSignal = 0
indicator_code Cng = 1
indicator_code Ced = 2
indicator_code V21Preamble = 3
indicator_code V27At2400Training = 4
indicator_code V27At4800Training = 5
indicator_code V29At7200Training = 6
indicator_code V29At9600Training = 7
indicator_code V17At7200ShortTraining = 8
indicator_code V17At7200LongTraining = 9
indicator_code V17At9600ShortTraining = 10
indicator_code V17At9600LongTraining = 11
indicator_code V17At12000ShortTraining = 12
indicator_code V17At12000LongTraining = 13
indicator_code V17At14400ShortTraining = 14
indicator_code V17At14400LongTraining = 15

-- the code of a type of data
abbrev pub data_type_code : DataType → ℕ
data_type_code V21 = 0
data_type_code V27At2400 = 1
data_type_code V27At4800 = 2
data_type_code V29At7200 = 3
data_type_code V29At9600 = 4
data_type_code V17At7200 = 5
data_type_code V17At9600 = 6
data_type_code V17At12000 = 7
data_type_code V17At14400 = 8

-- the code of a field's type
abbrev pub field_type_code : FieldType → ℕ
field_type_code HdlcData = 0
field_type_code HdlcSigEnd = 1
field_type_code HdlcFcsOk = 2
field_type_code HdlcFcsBad = 3
field_type_code HdlcFcsOkSigEnd = 4
field_type_code HdlcFcsBadSigEnd = 5
field_type_code T4NonEcmData = 6
field_type_code T4NonEcmSigEnd = 7

-- the type of a rate's data
abbrev pub data_of : Rate → DataType
data_of rates.V27At2400 = V27At2400
data_of rates.V27At4800 = V27At4800
data_of rates.V29At7200 = V29At7200
data_of rates.V29At9600 = V29At9600
data_of rates.V17At7200 = V17At7200
data_of rates.V17At9600 = V17At9600
data_of rates.V17At12000 = V17At12000
data_of rates.V17At14400 = V17At14400

-- the indicator of a rate's training, of which V.17 has a long and a short one
abbrev pub training_indicator : Rate → Bool → Indicator
training_indicator rates.V27At2400 long = V27At2400Training
training_indicator rates.V27At4800 long = V27At4800Training
training_indicator rates.V29At7200 long = V29At7200Training
training_indicator rates.V29At9600 long = V29At9600Training
training_indicator rates.V17At7200 long =
    if long then V17At7200LongTraining else V17At7200ShortTraining
training_indicator rates.V17At9600 long =
    if long then V17At9600LongTraining else V17At9600ShortTraining
training_indicator rates.V17At12000 long =
    if long then V17At12000LongTraining else V17At12000ShortTraining
training_indicator rates.V17At14400 long =
    if long then V17At14400LongTraining else V17At14400ShortTraining
