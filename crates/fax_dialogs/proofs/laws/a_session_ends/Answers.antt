use Rattle.fax_dialogs.proofs.SessionEndProofs.{session_ends}
use Rattle.fax_dialogs.proofs.laws.a_session_ends.Goals as goal

pub returns : goal.returns
returns c = session_ends
