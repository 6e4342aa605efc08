use Rattle.fax_desk.proofs.LawLemmas.{serving}
use Rattle.fax_desk.proofs.laws.no_ring_while_stopping.Goals as goal

pub returns : goal.returns
returns c = serving
