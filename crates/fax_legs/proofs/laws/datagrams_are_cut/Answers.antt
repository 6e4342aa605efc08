use Rattle.fax_legs.proofs.Cuts.{are_cut}
use Rattle.fax_legs.proofs.laws.datagrams_are_cut.Goals as goal

pub returns : goal.returns
returns c = are_cut
