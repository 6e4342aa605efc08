use Rattle.fax_dialogs.proofs.SessionProofs.{glare_is_resolved, ours_wait_for_theirs, theirs_wait_for_ours}
use Rattle.fax_dialogs.proofs.laws.invites_wait_for_each_other.Goals as goal

pub returns-clause-theirs : goal.returns-clause-theirs
returns-clause-theirs c = theirs_wait_for_ours

pub returns-clause-ours : goal.returns-clause-ours
returns-clause-ours c = ours_wait_for_theirs

pub returns-clause-glare : goal.returns-clause-glare
returns-clause-glare c = glare_is_resolved
