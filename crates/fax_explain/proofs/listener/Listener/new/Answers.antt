use Rattle.fax_udptl.specs.Slots.{newest_slots, slots}
use Rattle.fax_explain.proofs.listener.Listener.new.Goals as goal

pub returns-clause-hearing : goal.returns-clause-hearing
unfolding newest_slots slots
returns-clause-hearing c = record { after = c.new.ensures; heard = record { tracked = c.new-2.ensures; counted = c.new-4.ensures.octets } }
