use Rattle.fax_laws.proofs.delivery.Whole as lemmas
use Rattle.fax_laws.proofs.delivery.WholeLegs as by_legs
use Rattle.fax_laws.proofs.delivery.laws.jobs_get_through.Goals as goal

pub returns-clause-packets : goal.returns-clause-packets
returns-clause-packets c = lemmas.jobs_get_through

pub returns-clause-datagrams : goal.returns-clause-datagrams
returns-clause-datagrams c = by_legs.jobs_pass
