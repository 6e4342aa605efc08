use Rattle.fax_runcodes.proofs.WriteLemmas.{written_run_spells}
use Rattle.fax_runcodes.proofs.laws.written_runs_are_spelt.Goals as goal

pub returns : goal.returns
returns c = written_run_spells
