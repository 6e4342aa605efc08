use Rattle.fax_trunks.proofs.RegistrationProofs.{registration_rests}
use Rattle.fax_trunks.proofs.laws.a_registration_rests.Goals as goal

pub returns : goal.returns
returns c = registration_rests
