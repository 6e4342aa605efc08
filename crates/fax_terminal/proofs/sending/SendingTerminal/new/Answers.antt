use Rattle.std.proofs.Common.{None}
use Rattle.fax_terminal.proofs.sending.SendingTerminal.new.Goals as goal

pub returns-clause-begun : goal.returns-clause-begun
returns-clause-begun g c = λ setup writes set. c.start.ensures.started setup writes None (c.in_ok-leg.ensures setup set.redundancy) (c.in_ok-endpoint.ensures.reached setup writes set)
