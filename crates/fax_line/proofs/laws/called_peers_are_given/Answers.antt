use Rattle.fax_line.proofs.Given.{called_peers_are_given, called_peers_are_given_without}
use Rattle.fax_line.proofs.laws.called_peers_are_given.Goals as goal

pub returns-clause-kept : goal.returns-clause-kept
returns-clause-kept g c = called_peers_are_given g.K.RunStore.is_same g.K.PageStore.puts g.K.RunStore.notes g.K.RunStore.ends

pub returns-clause-without : goal.returns-clause-without
returns-clause-without g c = called_peers_are_given_without
