use Rattle.fax_call.proofs.Told as lemmas
use Rattle.fax_call.proofs.laws.tells_what_was_answered.Goals as goal

pub returns : goal.returns
returns c = lemmas.tells_what_was_answered
