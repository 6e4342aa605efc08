use Rattle.fax_spool.proofs.Turned.{one_turned_octet}
use Rattle.fax_spool.proofs.laws.one_turned_octet.Goals as goal

pub returns : goal.returns
returns c = one_turned_octet
