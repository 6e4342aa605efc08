use Rattle.std.proofs.Common.{sym}
use Rattle.fax_runcodes.proofs.PaintedLemmas.{length-painted_all}
use Rattle.fax_runcodes.proofs.row.RowRef.width.Goals as goal

pub returns-clause-len : goal.returns-clause-len
returns-clause-len c = rw (← c.self.view_is) (sym (length-painted_all c.self.inside.places.now c.self.inside.elements c.self.invariant.0))
