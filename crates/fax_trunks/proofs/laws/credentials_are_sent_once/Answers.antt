use Rattle.fax_trunks.proofs.RegistrationProofs.{credentials_are_sent_once}
use Rattle.fax_trunks.proofs.laws.credentials_are_sent_once.Goals as goal

pub returns : goal.returns
returns c = credentials_are_sent_once
