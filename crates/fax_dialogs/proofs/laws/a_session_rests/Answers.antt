use Rattle.fax_dialogs.proofs.SessionProofs.{session_rests}
use Rattle.fax_dialogs.proofs.laws.a_session_rests.Goals as goal

pub returns : goal.returns
returns c = session_rests
