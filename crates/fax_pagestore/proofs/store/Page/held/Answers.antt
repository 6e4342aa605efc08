use Rattle.std.proofs.Common.{arith}
use Rattle.fax_pagestore.proofs.OctetsLemmas.{octets_of_rows-few}
use Rattle.fax_pagestore.proofs.store.Page.held.Goals as goal

pub returns-clause-few : goal.returns-clause-few
returns-clause-few g c =
    let few = octets_of_rows-few c.self.inside.format.width _ c.self.invariant.each c.self.invariant.few in
    omega (arith, c.held.ensures)
