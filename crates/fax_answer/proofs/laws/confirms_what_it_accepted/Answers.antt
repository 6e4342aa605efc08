use Rattle.fax_answer.proofs.Accepted.{confirms_what_it_accepted}
use Rattle.fax_answer.proofs.laws.confirms_what_it_accepted.Goals as goal

pub returns : goal.returns
returns c = confirms_what_it_accepted
