use Rattle.fax_ifp.proofs.SentSignals.{images_are_signals}
use Rattle.fax_ifp.proofs.laws.images_are_signals.Goals as goal

pub returns : goal.returns
returns c = images_are_signals
