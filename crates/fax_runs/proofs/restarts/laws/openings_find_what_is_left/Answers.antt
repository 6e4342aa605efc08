use Rattle.fax_runs.proofs.restarts.WholePasts.{openings_find_what_is_left}
use Rattle.fax_runs.proofs.restarts.laws.openings_find_what_is_left.Goals as goal

pub returns : goal.returns
returns g c = openings_find_what_is_left _ _ _ c.openings_find_what_waits.ensures c.restarts_find_what_is_left.ensures.found
