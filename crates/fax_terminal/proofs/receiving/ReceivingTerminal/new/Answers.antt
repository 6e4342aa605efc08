use Rattle.std.proofs.Common.{refl}
use Rattle.fax_terminal.proofs.receiving.ReceivingTerminal.new.Goals as goal

pub returns : goal.returns
returns g c = λ setup set. record { set = set.redundancy; calling = c.in_ok-endpoint.ensures setup set; rung = refl }
