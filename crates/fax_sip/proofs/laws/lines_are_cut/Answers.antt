use Rattle.fax_sip.proofs.WrittenLemmas.{lines_are_cut}
use Rattle.fax_sip.proofs.laws.lines_are_cut.Goals as goal

pub returns : goal.returns
returns c = lines_are_cut
