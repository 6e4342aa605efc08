use Rattle.fax_frames.proofs.ReadBack as lemmas
use Rattle.fax_frames.proofs.laws.written_dcs_are_read.Goals as goal

pub returns : goal.returns
returns c = lemmas.written_dcs_are_read
