use Rattle.std.proofs.Common.{List, ap, arith}
use Rattle.fax_runcodes.specs.Rows.{Elements}
use Rattle.fax_pagestore.specs.Octets.{octets_of_rows}
use Rattle.fax_pagestore.proofs.OctetsLemmas.{octets_of_extents, octets_of_extents-le}
use Rattle.fax_pagestore.proofs.store.packed.PackedRowsRowStore.held.Goals as goal

pub overflow_add-result : goal.overflow_add-result
overflow_add-result c =
    let few = octets_of_extents-le c.self.inside.places.items c.self.inside.extents.items c.self.invariant.0 c.self.invariant.3 in
    omega (arith, c.len.ensures, c.len-2.ensures, c.self.invariant.2, c.self.inside.extents.ok.0, c.self.inside.places.ok.0)

pub returns : goal.returns
returns c =
    let all = octets_of_extents c.self.inside.places.items c.self.inside.extents.items c.self.invariant.0 c.self.invariant.3 in
    let same = ap (λ (rows : List Elements). octets_of_rows rows) c.self.view_is in
    omega (arith, c.len.ensures, c.len-2.ensures, c.self.inside.extents.ok.0, c.self.inside.places.ok.0)
