use Rattle.fax_laws.proofs.delivery.WholeGateway as lemmas
use Rattle.fax_laws.proofs.delivery.laws.reports_are_deliveries.Goals as goal

pub returns : goal.returns
returns c = lemmas.reports_are_deliveries
