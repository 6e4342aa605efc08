use Rattle.std.proofs.Common.{◌≡◌, length, subst}
use Rattle.fax_runcodes.specs.Rows.{IsWidth}
use Rattle.fax_runcodes.proofs.PaintedLemmas.{length-painted_all}
use Rattle.fax_runcodes.proofs.row.RowBuilder.lend.Goals as goal

pub invariant_of-result : goal.invariant_of-result
invariant_of-result c =
    let size : length c.args.self.now ≡ c.self.inside.len = rw (← c.self.view_is) (length-painted_all c.self.inside.changes.items c.self.inside.len c.self.invariant.0) in
    rw c.as_slice.ensures.value (c.self.invariant.0, subst IsWidth size c.requires)
