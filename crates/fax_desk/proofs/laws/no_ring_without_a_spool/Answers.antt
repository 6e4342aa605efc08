use Rattle.fax_desk.proofs.LawLemmas.{storage}
use Rattle.fax_desk.proofs.laws.no_ring_without_a_spool.Goals as goal

pub returns : goal.returns
returns c = storage
