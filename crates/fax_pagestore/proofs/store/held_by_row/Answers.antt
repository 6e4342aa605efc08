use Rattle.std.proofs.Common.{length, subst, arith}
use Rattle.fax_runcodes.specs.Rows.{IsWidth}
use Rattle.fax_pagestore.proofs.OctetsLemmas.{octets_of_places, octets_of_row-few}
use Rattle.fax_pagestore.proofs.store.held_by_row.Goals as goal

pub returns-clause-octets : goal.returns-clause-octets
returns-clause-octets c =
    let own = octets_of_places c.args.row.now c.changes.result.now (length c.args.row.now) c.changes.ensures.rising c.changes.ensures.painted in
    omega arith

pub returns-clause-few : goal.returns-clause-few
returns-clause-few c =
    let own = octets_of_places c.args.row.now c.changes.result.now (length c.args.row.now) c.changes.ensures.rising c.changes.ensures.painted in
    let few = octets_of_row-few c.args.row.now (subst IsWidth c.width.ensures.len c.width.ensures.is_width) in
    omega arith
