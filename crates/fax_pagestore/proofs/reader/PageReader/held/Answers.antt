use Rattle.std.proofs.Common.{arith}
use Rattle.fax_pagestore.proofs.OctetsLemmas.{octets_of_rows-few}
use Rattle.fax_pagestore.proofs.reader.PageReader.held.Goals as goal

pub overflow_add-result : goal.overflow_add-result
overflow_add-result g c =
    let few = octets_of_rows-few c.self.inside.format.width _ c.self.invariant.2 c.self.invariant.1 in
    omega (arith, c.held.ensures, c.pending.ensures.few)

pub returns-clause-few : goal.returns-clause-few
returns-clause-few g c =
    let few = octets_of_rows-few c.self.inside.format.width _ c.self.invariant.2 c.self.invariant.1 in
    omega (arith, c.held.ensures, c.pending.ensures.few)
