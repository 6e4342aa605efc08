use Rattle.fax_sdp.proofs.CountLemmas.{session_counted}
use Rattle.fax_sdp.proofs.reading.read_sdp.Goals as goal

pub returns-clause-counted : goal.returns-clause-counted
returns-clause-counted c = session_counted c.args.octets.now c.session_of.result c.session_of.ensures
