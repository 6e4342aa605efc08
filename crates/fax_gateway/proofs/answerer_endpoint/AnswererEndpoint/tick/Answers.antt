use Rattle.std.proofs.Common.{refl, sym, subst}
use Rattle.fax_gateway.specs.Reached.{CallingValue, IsCalling}
use Rattle.fax_gateway.proofs.Serving.{leg_ticks, leg_tells}
use Rattle.fax_gateway.proofs.answerer_endpoint.AnswererEndpoint.tick.Goals as goal

pub returns-clause-ticked : goal.returns-clause-ticked
returns-clause-ticked g c setup leg r =
    let inside = c.self.inside in
    let s = subst (λ (k : CallingValue). IsCalling setup leg k) (sym c.self.view_is) r in
    let new : CallingValue = record { number = inside.number; kept = c.tick.new.self; leg = c.send_if.new.self } in
    leg_ticks {S = g.row.S.Denot} setup leg c.args.now _ new c.in-Ok.step c.send_if.result refl c.in-Ok.ensures.ticked (c.send_if.ensures setup) s

pub returns-clause-told : goal.returns-clause-told
returns-clause-told g c setup leg r =
    let inside = c.self.inside in
    let s = subst (λ (k : CallingValue). IsCalling setup leg k) (sym c.self.view_is) r in
    let new : CallingValue = record { number = inside.number; kept = c.tick.new.self; leg = c.send_if.new.self } in
    leg_tells {S = g.row.S.Denot} setup leg c.args.now _ new c.in-Ok.step _ c.in-Ok.ensures.ticked (c.send_if.ensures setup) refl refl refl s
