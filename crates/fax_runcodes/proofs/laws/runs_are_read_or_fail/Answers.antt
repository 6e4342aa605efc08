use Rattle.fax_runcodes.proofs.ReadOrFail as lemmas
use Rattle.fax_runcodes.proofs.laws.runs_are_read_or_fail.Goals as goal

pub returns : goal.returns
returns c = lemmas.runs_are_read_or_fail
