use Rattle.fax_trunks.proofs.RegistrationProofs.{registration_ends}
use Rattle.fax_trunks.proofs.laws.a_registration_ends.Goals as goal

pub returns : goal.returns
returns c = registration_ends
