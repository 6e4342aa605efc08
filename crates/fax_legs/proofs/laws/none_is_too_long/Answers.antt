use Rattle.fax_legs.proofs.Cuts.{not_too_long}
use Rattle.fax_legs.proofs.laws.none_is_too_long.Goals as goal

pub returns : goal.returns
returns c = not_too_long
