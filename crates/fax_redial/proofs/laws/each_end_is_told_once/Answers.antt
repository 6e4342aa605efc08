use Rattle.fax_redial.proofs.Befalling.{counted_along}
use Rattle.fax_redial.proofs.laws.each_end_is_told_once.Goals as goal

pub returns : goal.returns
returns c = counted_along
