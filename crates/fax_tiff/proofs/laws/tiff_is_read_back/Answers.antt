use Rattle.fax_tiff.proofs.TiffBackLemmas as lemmas
use Rattle.fax_tiff.proofs.laws.tiff_is_read_back.Goals as goal

pub returns : goal.returns
returns c = lemmas.tiff_is_read_back
