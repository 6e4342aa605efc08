use Rattle.fax_legs.proofs.Cuts.{others_go}
use Rattle.fax_legs.proofs.laws.others_go_as_they_are.Goals as goal

pub returns : goal.returns
returns c = others_go
