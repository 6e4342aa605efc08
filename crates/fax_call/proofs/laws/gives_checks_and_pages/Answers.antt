use Rattle.fax_call.proofs.GivenSignals.{gives_checks_and_pages}
use Rattle.fax_call.proofs.laws.gives_checks_and_pages.Goals as goal

pub returns : goal.returns
returns c = gives_checks_and_pages
