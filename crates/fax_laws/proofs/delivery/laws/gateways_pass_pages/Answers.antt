use Rattle.fax_laws.proofs.delivery.WholeGateway as lemmas
use Rattle.fax_laws.proofs.delivery.laws.gateways_pass_pages.Goals as goal

pub returns : goal.returns
returns c = lemmas.gateways_pass_pages
