use Rattle.fax_ifp.proofs.ImageLaws.{started_is_an_octet}
use Rattle.fax_ifp.proofs.laws.started_is_an_octet.Goals as goal

pub returns : goal.returns
returns c = started_is_an_octet
