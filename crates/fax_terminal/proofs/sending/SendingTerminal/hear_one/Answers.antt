use Rattle.std.proofs.Common.{Some, sym, subst}
use Rattle.fax_gateway.specs.declared.caller_endpoint.CallerEndpoint.{CallerEndpoint}
use Rattle.fax_gateway.specs.Reached.{IsCalled}
use Rattle.fax_terminal.proofs.sending.SendingTerminal.hear_one.Goals as goal

pub returns-clause-heard : goal.returns-clause-heard
returns-clause-heard c = λ setup writes l r.
    c.in_ok-hear.ensures.heard setup writes (Some l) (subst (λ (k : CallerEndpoint). IsCalled setup writes (Some l) k) (sym c.self.view_is) r)
