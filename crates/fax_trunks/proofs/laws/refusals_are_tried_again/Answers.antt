use Rattle.fax_trunks.proofs.RegistrationProofs.{refusals_are_tried_again}
use Rattle.fax_trunks.proofs.laws.refusals_are_tried_again.Goals as goal

pub returns : goal.returns
returns c = refusals_are_tried_again
