use Rattle.fax_runs.proofs.restarts.Files.{pasts_have_files}
use Rattle.fax_runs.proofs.restarts.laws.pasts_have_files.Goals as goal

pub returns : goal.returns
returns c = pasts_have_files
