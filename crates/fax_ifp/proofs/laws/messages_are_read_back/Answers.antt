use Rattle.fax_ifp.proofs.ReadBackLemmas.{messages_back}
use Rattle.fax_ifp.proofs.laws.messages_are_read_back.Goals as goal

pub returns : goal.returns
returns c = messages_back
