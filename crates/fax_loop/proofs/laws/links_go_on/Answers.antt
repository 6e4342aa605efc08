use Rattle.fax_loop.proofs.GoingOn.{links_are_played, links_begin, links_go_on}
use Rattle.fax_loop.proofs.laws.links_go_on.Goals as goal

pub returns-clause-begin : goal.returns-clause-begin
returns-clause-begin c = links_begin

pub returns-clause-go_on : goal.returns-clause-go_on
returns-clause-go_on c = links_go_on c.traces_go_on.ensures

pub returns-clause-played : goal.returns-clause-played
returns-clause-played c = links_are_played c.traces_go_on.ensures
