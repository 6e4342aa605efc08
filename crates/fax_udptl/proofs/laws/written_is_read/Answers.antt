use Rattle.fax_udptl.proofs.WrittenLemmas.{datagram_back}
use Rattle.fax_udptl.proofs.laws.written_is_read.Goals as goal

pub returns : goal.returns
returns c d fits = datagram_back d fits.number fits.primary fits.secondaries fits.count
