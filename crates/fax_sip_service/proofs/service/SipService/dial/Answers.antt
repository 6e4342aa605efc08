use Rattle.std.proofs.Common.{inl, inr, subst}
use Rattle.fax_switch.specs.declared.place.Place.{Place}
use Rattle.fax_user_agent.specs.declared.out.LineOrder.TheVariants as order
use Rattle.fax_sip_service.specs.Services.{TakesOrder}
use Rattle.fax_sip_service.proofs.service.SipService.dial.Goals as goal

pub returns-in-Ok : goal.returns-in-Ok
returns-in-Ok c = inl c.in-Ok.ensures.ok

pub returns-in-Err : goal.returns-in-Err
returns-in-Err c =
    inr (c.tell_dialled.new.self, c.in-Err.ensures.err, subst (λ (place : Place). TakesOrder c.args.now (order.Refuse place 500) c.tell_dialled.new.self c.take_order.new.self) c.on_called_leg.ensures c.take_order.ensures)
