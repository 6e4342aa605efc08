use Rattle.fax_trunks.proofs.RegistrationProofs.{refresh_leaves_time, refreshes_in_time}
use Rattle.fax_trunks.proofs.laws.a_registration_is_refreshed.Goals as goal

pub returns-clause-sent : goal.returns-clause-sent
returns-clause-sent c = refreshes_in_time

pub returns-clause-time : goal.returns-clause-time
returns-clause-time c = refresh_leaves_time
