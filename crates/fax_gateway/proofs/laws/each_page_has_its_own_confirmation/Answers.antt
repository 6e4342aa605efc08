use Rattle.fax_gateway.proofs.OwnConfirmed.{has_its_own}
use Rattle.fax_gateway.proofs.laws.each_page_has_its_own_confirmation.Goals as goal

pub returns : goal.returns
returns c = has_its_own
