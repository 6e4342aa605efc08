use Rattle.fax_undelivered.proofs.Numbered.{pages_are_listed}
use Rattle.fax_undelivered.proofs.laws.pages_are_listed.Goals as goal

pub returns : goal.returns
returns c = pages_are_listed
