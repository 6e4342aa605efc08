use Rattle.fax_udptl.proofs.SlotLemmas.{newest_of_decided}
use Rattle.fax_udptl.proofs.laws.decided_are_lost_then_packets.Goals as goal

pub returns : goal.returns
returns c = newest_of_decided
