use Rattle.fax_sip_service.proofs.PeerLemmas.{each_peer}
use Rattle.fax_sip_service.proofs.laws.peers_are_of_their_jobs.Goals as goal

pub returns : goal.returns
returns c = each_peer
