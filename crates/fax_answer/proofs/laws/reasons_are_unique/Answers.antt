use Rattle.fax_answer.proofs.OneReason.{one_reason}
use Rattle.fax_answer.proofs.laws.reasons_are_unique.Goals as goal

pub returns : goal.returns
returns c = one_reason
