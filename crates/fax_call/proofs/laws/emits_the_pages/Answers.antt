use Rattle.fax_call.proofs.Emitted as lemmas
use Rattle.fax_call.proofs.laws.emits_the_pages.Goals as goal

pub returns : goal.returns
returns c = lemmas.emits_the_pages
