use Rattle.std.proofs.Common.{subst, suc}
use Rattle.fax_clients.specs.Clients.{ClientOutput, GoesOn}
use Rattle.fax_clients.proofs.WaitLemmas.{written_none}
use Rattle.fax_clients.proofs.journal.Journal.go_on.Goals as goal

pub returns-then-not-is_ready : goal.returns-then-not-is_ready
returns-then-not-is_ready c =
    let next = subst (λ (o : ClientOutput). GoesOn o c.go_on.new.self) c.self.view_is c.go_on.ensures in
    (suc c.loop.invariant.0, (c.loop.self, c.go_on.new.self, c.loop.invariant.1, next, written_none c.go_on.new.self))

pub loop-preserved : goal.loop-preserved
loop-preserved c =
    let next = subst (λ (o : ClientOutput). GoesOn o c.go_on.new.self) c.self.view_is c.go_on.ensures in
    (suc c.loop.invariant.0, (c.loop.self, c.go_on.new.self, c.loop.invariant.1, next, c.write.ensures))
