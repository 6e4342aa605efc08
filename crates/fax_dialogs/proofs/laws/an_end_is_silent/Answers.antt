use Rattle.fax_dialogs.proofs.SessionEndProofs.{bye_is_sent_once, end_is_silent}
use Rattle.fax_dialogs.proofs.laws.an_end_is_silent.Goals as goal

pub returns-clause-silent : goal.returns-clause-silent
returns-clause-silent c = end_is_silent

pub returns-clause-once : goal.returns-clause-once
returns-clause-once c = bye_is_sent_once
