use Rattle.fax_ifp.proofs.CodesLemmas.{trainings_are_indicators, kinds_are_data_types, trainings_train, trainings_begin}
use Rattle.fax_ifp.proofs.laws.rates_have_their_codes.Goals as goal

pub returns : goal.returns
returns c = record {
  training = trainings_are_indicators;
  kind = kinds_are_data_types;
  trains = trainings_train;
  begins = trainings_begin;
}
