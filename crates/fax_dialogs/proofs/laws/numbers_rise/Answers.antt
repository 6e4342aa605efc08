use Rattle.fax_dialogs.proofs.DialogProofs.{numbers_rise}
use Rattle.fax_dialogs.proofs.laws.numbers_rise.Goals as goal

pub returns : goal.returns
returns c = numbers_rise
