-- What holds of the codes of T.38, and of the codes that a rate has.
use Rattle.std.specs.Prelude.{◌≡◌, ℕ, Bool, true, Some}
use Rattle.fax_frames.specs.declared.rate.Rate.{Rate}
use Rattle.fax_frames.specs.Rates.{kind_of, training_of}
use Rattle.fax_ifp.specs.declared.codes.Indicator.{Indicator}
use Rattle.fax_ifp.specs.declared.codes.DataType.{DataType}
use Rattle.fax_ifp.specs.declared.codes.FieldType.{FieldType}
use Rattle.fax_ifp.specs.Codes.{indicator_at, data_type_at, field_type_at, indicator_code, data_type_code, field_type_code, data_of, training_indicator}
use Rattle.fax_ifp.specs.Pieces.{is_training, kind_of_training}

-- each stands at its code
abbrev pub IndicatorsStandAtTheirCodes : Type 0
IndicatorsStandAtTheirCodes = (indicator : Indicator)
    → indicator_at (indicator_code indicator) ≡ Some indicator

abbrev pub DataTypesStandAtTheirCodes : Type 0
DataTypesStandAtTheirCodes = (kind : DataType) → data_type_at (data_type_code kind) ≡ Some kind

abbrev pub FieldTypesStandAtTheirCodes : Type 0
FieldTypesStandAtTheirCodes = (field : FieldType)
    → field_type_at (field_type_code field) ≡ Some field

-- and at no other code
abbrev pub IndicatorsHaveOneCode : Type 0
IndicatorsHaveOneCode = (code : ℕ) (indicator : Indicator)
    → indicator_at code ≡ Some indicator → indicator_code indicator ≡ code

abbrev pub DataTypesHaveOneCode : Type 0
DataTypesHaveOneCode = (code : ℕ) (kind : DataType)
    → data_type_at code ≡ Some kind → data_type_code kind ≡ code

abbrev pub FieldTypesHaveOneCode : Type 0
FieldTypesHaveOneCode = (code : ℕ) (field : FieldType)
    → field_type_at code ≡ Some field → field_type_code field ≡ code

-- the codes that a rate has are those of its training and of its data
abbrev pub TrainingsAreIndicators : Type 0
TrainingsAreIndicators = (rate : Rate) (long : Bool)
    → training_of rate long ≡ indicator_code (training_indicator rate long)

abbrev pub KindsAreDataTypes : Type 0
KindsAreDataTypes = (rate : Rate) → kind_of rate ≡ data_type_code (data_of rate)

-- a rate's training begins an image of the rate's data
abbrev pub TrainingsTrain : Type 0
TrainingsTrain = (rate : Rate) (long : Bool) → is_training (training_of rate long) ≡ true

abbrev pub TrainingsBeginTheirData : Type 0
TrainingsBeginTheirData = (rate : Rate) (long : Bool)
    → kind_of_training (training_of rate long) ≡ kind_of rate
