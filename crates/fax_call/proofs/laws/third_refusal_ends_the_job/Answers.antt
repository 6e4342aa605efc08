use Rattle.fax_call.proofs.RefusedPages as lemmas
use Rattle.fax_call.proofs.laws.third_refusal_ends_the_job.Goals as goal

pub returns : goal.returns
returns c = lemmas.third_refusal_ends
