use Rattle.fax_ifp.proofs.ReadBackLemmas.{indicators}
use Rattle.fax_ifp.proofs.laws.indicators_are_read_back.Goals as goal

pub returns : goal.returns
returns c = indicators
