use Rattle.fax_frames.proofs.ReadBack as lemmas
use Rattle.fax_frames.proofs.laws.written_plain_are_read.Goals as goal

pub returns : goal.returns
returns c = lemmas.written_plain_are_read
