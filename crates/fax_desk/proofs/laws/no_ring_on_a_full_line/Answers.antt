use Rattle.fax_desk.proofs.LawLemmas.{not_full}
use Rattle.fax_desk.proofs.laws.no_ring_on_a_full_line.Goals as goal

pub returns : goal.returns
returns c = not_full
