use Rattle.fax_dialogs.proofs.DialogProofs.{one_takes_it}
use Rattle.fax_dialogs.proofs.laws.one_dialog_takes_a_request.Goals as goal

pub returns : goal.returns
returns c = one_takes_it
