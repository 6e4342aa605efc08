use Rattle.fax_ifp.proofs.TailLemmas.{octets_after}
use Rattle.fax_ifp.proofs.laws.octets_after_are_not_read.Goals as goal

pub returns : goal.returns
returns c = octets_after
