use Rattle.fax_runs.proofs.restarts.Files.{whole_pasts_have_files}
use Rattle.fax_runs.proofs.restarts.laws.whole_pasts_have_files.Goals as goal

pub returns : goal.returns
returns c = whole_pasts_have_files
