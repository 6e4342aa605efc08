use Rattle.fax_sip_service.proofs.LawLemmas.{each_word}
use Rattle.fax_sip_service.proofs.laws.each_word_is_said.Goals as goal

pub returns : goal.returns
returns c = each_word
