use Rattle.std.proofs.Common.{refl, sym, subst}
use Rattle.fax_gateway.specs.Driving.{most_datagrams}
use Rattle.fax_terminal.specs.Turns.{AnswererHears, ReceivingValue}
use Rattle.fax_terminal.proofs.AnsweringLemmas.{answerer_turned}
use Rattle.fax_terminal.proofs.receiving.ReceivingTerminal.turn.Goals as goal

pub returns : goal.returns
returns g c = λ setup leg r.
    let told = g.E.End.told in
    let before : ReceivingValue = record { endpoint = c.self.inside.endpoint; redundancy = c.self.inside.redundancy; has_rung = c.self.inside.has_rung } in
    let h = subst (λ (k : ReceivingValue). AnswererHears setup leg c.args.now most_datagrams (told c.args.end.now) (told c.hear.new.end) k) (sym c.self.view_is) (c.in_ok-hear.ensures.heard setup leg r) in
    answerer_turned g.K.PageStore.keeps c.store_and_send.result setup leg c.args.now (told c.args.end.now) (told c.hear.new.end) (told c.store_and_send.new.end) c.args.store.now c.store_and_send.new.store before _ c.tick-step.result
    c.store_and_send.ensures.fault c.store_and_send.ensures.page refl refl (λ s k q. c.tick-step.ensures.ticked s k (c.in_ok-reserve.ensures.reached s k q)) (λ s k q. c.tick-step.ensures.told s k (c.in_ok-reserve.ensures.reached s k q))
    c.store_and_send.ensures.given c.in_ok-hear.ensures.sent c.store_and_send.ensures.received c.store_and_send.ensures.sent h
