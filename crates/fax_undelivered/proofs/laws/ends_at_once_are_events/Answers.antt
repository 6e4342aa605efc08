use Rattle.fax_undelivered.proofs.Alone.{ends_at_once}
use Rattle.fax_undelivered.proofs.laws.ends_at_once_are_events.Goals as goal

pub returns : goal.returns
returns g c = ends_at_once _ _ _
