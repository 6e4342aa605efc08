use Rattle.fax_legs.proofs.Goodbyes.{expected_is}
use Rattle.fax_legs.proofs.laws.goodbyes_are_expected.Goals as goal

pub returns : goal.returns
returns c = expected_is
