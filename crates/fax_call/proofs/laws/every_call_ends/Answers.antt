use Rattle.fax_call.proofs.Ending as lemmas
use Rattle.fax_call.proofs.laws.every_call_ends.Goals as goal

pub returns : goal.returns
returns c = lemmas.every_call_ends
