use Rattle.fax_laws.proofs.exchanges.Played as lemmas
use Rattle.fax_laws.proofs.exchanges.laws.exchanges_end_well.Goals as goal

pub returns : goal.returns
returns c = lemmas.exchanges_end_well c.reports_are_deliveries.ensures c.gateways_pass_pages.ensures
