use Rattle.fax_runs.proofs.restarts.Crossings.{new_files}
use Rattle.fax_runs.proofs.restarts.laws.new_files_have_no_past.Goals as goal

pub returns : goal.returns
returns c = new_files c.new_spools_tell_none.ensures
