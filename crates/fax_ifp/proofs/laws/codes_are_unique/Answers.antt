use Rattle.fax_ifp.proofs.CodesLemmas.{indicators_stand, data_types_stand, field_types_stand, indicators_once, data_types_once, field_types_once}
use Rattle.fax_ifp.proofs.laws.codes_are_unique.Goals as goal

pub returns : goal.returns
returns c = record {
  indicators = indicators_stand;
  data_types = data_types_stand;
  field_types = field_types_stand;
  one_indicator = indicators_once;
  one_data_type = data_types_once;
  one_field_type = field_types_once;
}
