use Rattle.std.proofs.Common.{Some, ◌∙◌, sym, subst}
use Rattle.fax_gateway.specs.declared.caller_endpoint.CallerEndpoint.{CallerEndpoint}
use Rattle.fax_gateway.specs.CalledLegs.{CalledLeg}
use Rattle.fax_gateway.specs.Reached.{IsCalled}
use Rattle.fax_terminal.specs.Terminals.{calling_with}
use Rattle.fax_terminal.proofs.CallingLemmas.{caller_turns, calling_with-job}
use Rattle.fax_terminal.proofs.sending.SendingTerminal.turn.Goals as goal

pub returns-clause-turned : goal.returns-clause-turned
returns-clause-turned g c = λ setup writes l writing same r.
    let h = c.in_ok-hear.ensures.heard setup writes l r in
    let k : CalledLeg = calling_with writes c.args.now h.came l in
    let heard = subst (λ (e : CallerEndpoint). IsCalled setup writes (Some k) e) (sym c.self.view_is) h.called in
    let ticks = c.in_ok-datagram.ensures.ticked setup writes k writing (calling_with-job writes c.args.now h.came l ∙ same) (c.in_ok-reserve.ensures.reached setup writes (Some k) heard) in
    caller_turns setup writes l c.args.now _ _ _ _ _ c.in_ok-datagram.datagram h ticks c.in_ok-hear.ensures.sent c.hand_over.ensures.received c.hand_over.ensures.sent
