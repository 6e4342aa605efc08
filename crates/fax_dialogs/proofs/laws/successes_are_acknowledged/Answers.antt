use Rattle.fax_dialogs.proofs.SessionProofs.{successes_are_acknowledged}
use Rattle.fax_dialogs.proofs.laws.successes_are_acknowledged.Goals as goal

pub returns : goal.returns
returns c = successes_are_acknowledged
