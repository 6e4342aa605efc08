use Rattle.fax_udptl.proofs.Honest.{slots_are_sent, slots_are_a_part}
use Rattle.fax_udptl.proofs.laws.slots_are_sent.Goals as goal

pub returns : goal.returns
returns c = record { each = slots_are_sent; in_a_row = slots_are_a_part }
