use Rattle.fax_udptl.proofs.SlotLemmas.{newest_at_first, newest_go_on}
use Rattle.fax_udptl.proofs.laws.newest_slots_go_on.Goals as goal

pub returns : goal.returns
returns c = record { at_first = newest_at_first; one_more = newest_go_on }
