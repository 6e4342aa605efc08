use Rattle.fax_undelivered.proofs.NotDropped.{nothing_is_dropped}
use Rattle.fax_undelivered.proofs.laws.nothing_is_dropped.Goals as goal

pub returns : goal.returns
returns c = nothing_is_dropped
