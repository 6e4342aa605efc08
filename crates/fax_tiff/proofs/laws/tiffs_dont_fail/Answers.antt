use Rattle.fax_tiff.proofs.MeaningLemmas as lemmas
use Rattle.fax_tiff.proofs.laws.tiffs_dont_fail.Goals as goal

pub returns : goal.returns
returns c = lemmas.tiffs_dont_fail
