use Rattle.fax_trunks.proofs.RegistrationProofs.{registers_apart}
use Rattle.fax_trunks.proofs.laws.registers_are_apart.Goals as goal

pub returns : goal.returns
returns c = registers_apart
