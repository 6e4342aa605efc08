use Rattle.fax_undelivered.proofs.NotDropped.{stored_ends_are_events}
use Rattle.fax_undelivered.proofs.laws.stored_ends_are_events.Goals as goal

pub returns : goal.returns
returns g c = stored_ends_are_events _ _ _ _ _ _ _
