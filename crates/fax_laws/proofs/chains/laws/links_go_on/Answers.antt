use Rattle.fax_laws.proofs.chains.GoOn.{links_begin, links_go_on, some_are_linked}
use Rattle.fax_laws.proofs.chains.laws.links_go_on.Goals as goal

pub returns-clause-begin : goal.returns-clause-begin
returns-clause-begin c = links_begin

pub returns-clause-go_on : goal.returns-clause-go_on
returns-clause-go_on c = links_go_on c.traces_go_on.ensures

pub returns-clause-some : goal.returns-clause-some
returns-clause-some c = some_are_linked c.traces_go_on.ensures
