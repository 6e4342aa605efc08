use Rattle.fax_pbm.proofs.RowLemmas.{black_octet, white_octet}
use Rattle.fax_pbm.proofs.painting.paint_octet.Goals as goal

pub returns-in-0 : goal.returns-in-0
returns-in-0 c = let white = white_octet in cc (white, c.in-0.is, c.paint.ensures)

pub returns-in-255 : goal.returns-in-255
returns-in-255 c = let black = black_octet in cc (black, c.in-255.is, c.paint-in-255.ensures)
