use Rattle.fax_frames.proofs.BitOrder as lemmas
use Rattle.fax_frames.proofs.laws.codes_are_spelt.Goals as goal

pub returns : goal.returns
returns c = lemmas.codes_are_spelt
