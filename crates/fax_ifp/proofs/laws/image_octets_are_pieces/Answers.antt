use Rattle.fax_ifp.proofs.ImageLaws.{image_octets_are_pieces}
use Rattle.fax_ifp.proofs.laws.image_octets_are_pieces.Goals as goal

pub returns : goal.returns
returns c = image_octets_are_pieces
