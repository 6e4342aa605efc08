use Rattle.fax_answer.proofs.Rising.{confirms_signals}
use Rattle.fax_answer.proofs.laws.confirms_signals.Goals as goal

pub returns : goal.returns
returns c = confirms_signals
