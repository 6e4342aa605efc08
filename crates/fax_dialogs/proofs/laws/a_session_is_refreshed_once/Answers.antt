use Rattle.fax_dialogs.proofs.TimerProofs.{refresh_is_due, refreshed_once}
use Rattle.fax_dialogs.proofs.laws.a_session_is_refreshed_once.Goals as goal

pub returns-clause-once : goal.returns-clause-once
returns-clause-once c = refreshed_once

pub returns-clause-due : goal.returns-clause-due
returns-clause-due c = refresh_is_due
