use Rattle.fax_mhcode.proofs.ReadOrFail as lemmas
use Rattle.fax_mhcode.proofs.laws.lines_are_read_or_fail.Goals as goal

pub returns : goal.returns
returns c = lemmas.lines_are_read_or_fail
