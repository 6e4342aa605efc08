use Rattle.fax_legs.proofs.Handings.{nothing_old}
use Rattle.fax_legs.proofs.laws.nothing_old_is_sent.Goals as goal

pub returns : goal.returns
returns c = nothing_old
