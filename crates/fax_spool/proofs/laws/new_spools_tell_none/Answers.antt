use Rattle.fax_spool.proofs.Reopening.{new_spools_tell_none}
use Rattle.fax_spool.proofs.laws.new_spools_tell_none.Goals as goal

pub returns : goal.returns
returns c = new_spools_tell_none
