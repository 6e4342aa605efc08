use Rattle.fax_desk.proofs.LawLemmas.{remembered}
use Rattle.fax_desk.proofs.laws.no_ring_beyond_the_memory.Goals as goal

pub returns : goal.returns
returns c = remembered
