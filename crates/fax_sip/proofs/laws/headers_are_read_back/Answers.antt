use Rattle.fax_sip.proofs.WrittenLemmas.{headers_are_read_back}
use Rattle.fax_sip.proofs.laws.headers_are_read_back.Goals as goal

pub returns : goal.returns
returns c = headers_are_read_back
