use Rattle.fax_gateway.proofs.SentPages.{leg_confirms_signals}
use Rattle.fax_gateway.proofs.laws.confirms_signals.Goals as goal

pub returns : goal.returns
returns c = leg_confirms_signals
