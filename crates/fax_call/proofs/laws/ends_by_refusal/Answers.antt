use Rattle.fax_call.proofs.Refusals as lemmas
use Rattle.fax_call.proofs.laws.ends_by_refusal.Goals as goal

pub returns : goal.returns
returns c = lemmas.ends_by_refusal
