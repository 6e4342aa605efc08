use Rattle.fax_dialogs.proofs.TimerProofs.{end_is_told_once, timer_expires}
use Rattle.fax_dialogs.proofs.laws.a_session_expires.Goals as goal

pub returns-clause-within : goal.returns-clause-within
returns-clause-within c = timer_expires

pub returns-clause-once : goal.returns-clause-once
returns-clause-once c = end_is_told_once
