-- The codes of T.38.
use Rattle.std.proofs.Common.{◌≡◌, ℕ, ◌==◌, nat_eq, Bool, true, false, ◌&&◌, List, [], ◌∷◌, Some, refl, sym, ◌∙◌, ap, arith, if◌then◌else◌}
use Rattle.std.proofs.lemmas.Bool.Decides.{nat_tests}
use Rattle.fax_frames.specs.declared.rate.Rate.TheVariants.{V27At2400, V17At7200, V17At9600, V17At12000, V17At14400}
use Rattle.fax_frames.specs.FieldBits.{look_up}
use Rattle.fax_ifp.specs.declared.codes.Indicator.TheVariants.{NoSignal}
use Rattle.fax_ifp.specs.declared.codes.DataType.TheVariants.{V21}
use Rattle.fax_ifp.specs.declared.codes.FieldType.TheVariants.{HdlcData}
use Rattle.fax_ifp.specs.Codes.{indicators, data_types, field_types, indicator_code, data_type_code, field_type_code}
use Rattle.fax_ifp.specs.CodeLaws.{IndicatorsStandAtTheirCodes, DataTypesStandAtTheirCodes, FieldTypesStandAtTheirCodes, IndicatorsHaveOneCode, DataTypesHaveOneCode, FieldTypesHaveOneCode, TrainingsAreIndicators, KindsAreDataTypes, TrainingsTrain, TrainingsBeginTheirData}

pub indicators_stand : IndicatorsStandAtTheirCodes
indicators_stand NoSignal = refl
indicators_stand other = refl

pub data_types_stand : DataTypesStandAtTheirCodes
data_types_stand V21 = refl
data_types_stand other = refl

pub field_types_stand : FieldTypesStandAtTheirCodes
field_types_stand HdlcData = refl
field_types_stand other = refl

same_eqb : (m n : ℕ) → (m == n) ≡ true → m ≡ n
same_eqb m n e = grind (arith, nat_tests)

same_nat : (m n : ℕ) → nat_eq m n ≡ true → m ≡ n
same_nat m n e = grind (arith, nat_tests)

-- a table whose entries have the codes of a function
abbrev agrees : {A : Type 0} → (A → ℕ) → List (ℕ × A) → Bool
agrees code_of [] = true
agrees code_of (entry ∷ table) = nat_eq (code_of entry.1) entry.0 && agrees code_of table

-- what is found in it has the code that was looked for
found_at : {A : Type 0} (code_of : A → ℕ) (table : List (ℕ × A)) (code : ℕ) (found : A) → agrees code_of table ≡ true →
    look_up table code ≡ Some found → code_of found ≡ code
found_at code_of [] code found agree e = cc
found_at code_of (entry ∷ table) code found agree e =
    by (entry.0 == code) (nat_eq (code_of entry.1) entry.0) (same_eqb entry.0 code) (same_nat (code_of entry.1) entry.0) (found_at code_of table code found) agree e
  where
    by : (here same : Bool) → (here ≡ true → entry.0 ≡ code) → (same ≡ true → code_of entry.1 ≡ entry.0) →
        (agrees code_of table ≡ true → look_up table code ≡ Some found → code_of found ≡ code) →
        (same && agrees code_of table) ≡ true → (if here then Some entry.1 else look_up table code) ≡ Some found → code_of found ≡ code
    by true true h s later agree e = let is : entry.1 ≡ found = cc in ap code_of (sym is) ∙ s refl ∙ h refl
    by false true h s later agree e = later agree e
    by true false h s later agree e = cc
    by false false h s later agree e = cc

pub indicators_once : IndicatorsHaveOneCode
indicators_once code indicator e = found_at indicator_code indicators code indicator refl e

pub data_types_once : DataTypesHaveOneCode
data_types_once code kind e = found_at data_type_code data_types code kind refl e

pub field_types_once : FieldTypesHaveOneCode
field_types_once code field e = found_at field_type_code field_types code field refl e

pub trainings_are_indicators : TrainingsAreIndicators
trainings_are_indicators V17At7200 true = refl
trainings_are_indicators V17At7200 false = refl
trainings_are_indicators V17At9600 true = refl
trainings_are_indicators V17At9600 false = refl
trainings_are_indicators V17At12000 true = refl
trainings_are_indicators V17At12000 false = refl
trainings_are_indicators V17At14400 true = refl
trainings_are_indicators V17At14400 false = refl
trainings_are_indicators other long = refl

pub kinds_are_data_types : KindsAreDataTypes
kinds_are_data_types V27At2400 = refl
kinds_are_data_types other = refl

pub trainings_train : TrainingsTrain
trainings_train V17At7200 true = refl
trainings_train V17At7200 false = refl
trainings_train V17At9600 true = refl
trainings_train V17At9600 false = refl
trainings_train V17At12000 true = refl
trainings_train V17At12000 false = refl
trainings_train V17At14400 true = refl
trainings_train V17At14400 false = refl
trainings_train other long = refl

pub trainings_begin : TrainingsBeginTheirData
trainings_begin V17At7200 true = refl
trainings_begin V17At7200 false = refl
trainings_begin V17At9600 true = refl
trainings_begin V17At9600 false = refl
trainings_begin V17At12000 true = refl
trainings_begin V17At12000 false = refl
trainings_begin V17At14400 true = refl
trainings_begin V17At14400 false = refl
trainings_begin other long = refl
