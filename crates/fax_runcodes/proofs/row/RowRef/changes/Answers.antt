use Rattle.std.proofs.Common.{◌≡◌, length, sym}
use Rattle.fax_runcodes.proofs.PaintedLemmas.{length-painted_all}
use Rattle.fax_runcodes.proofs.ChangesOfRow.{painted_are_changes}
use Rattle.fax_runcodes.proofs.row.RowRef.changes.Goals as goal

pub returns-clause-rising : goal.returns-clause-rising
returns-clause-rising c =
    let size : length c.args.self.now ≡ c.self.inside.elements = rw (← c.self.view_is) (length-painted_all c.self.inside.places.now c.self.inside.elements c.self.invariant.0) in
    rw (size) c.self.invariant.0

pub returns-clause-painted : goal.returns-clause-painted
returns-clause-painted c =
    let size : length c.args.self.now ≡ c.self.inside.elements = rw (← c.self.view_is) (length-painted_all c.self.inside.places.now c.self.inside.elements c.self.invariant.0) in
    rw (size) (sym c.self.view_is)

pub returns-clause-changes : goal.returns-clause-changes
returns-clause-changes c = rw (← c.self.view_is) (painted_are_changes c.self.inside.places.now c.self.inside.elements c.self.invariant.0)
