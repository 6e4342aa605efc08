use Rattle.fax_switch.proofs.SwitchProofs.{peers_are_of_their_dials}
use Rattle.fax_switch.proofs.laws.peers_are_of_their_dials.Goals as goal

pub returns : goal.returns
returns c = peers_are_of_their_dials
