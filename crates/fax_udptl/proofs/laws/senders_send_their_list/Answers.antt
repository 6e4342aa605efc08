use Rattle.fax_udptl.proofs.Honest.{senders_send_their_list}
use Rattle.fax_udptl.proofs.laws.senders_send_their_list.Goals as goal

pub returns : goal.returns
returns c = senders_send_their_list
