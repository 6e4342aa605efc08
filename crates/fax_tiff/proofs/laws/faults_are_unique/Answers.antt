use Rattle.fax_tiff.proofs.MeaningLemmas as lemmas
use Rattle.fax_tiff.proofs.laws.faults_are_unique.Goals as goal

pub returns : goal.returns
returns c = lemmas.tiff_faults_are_unique
