use Rattle.std.proofs.Common.{ap, sym}
use Rattle.fax_switch.specs.declared.place.Leg.{Leg}
use Rattle.fax_sip_service.specs.Services.{over_on}
use Rattle.fax_sip_service.proofs.ServiceLemmas.{told_as}
use Rattle.fax_sip_service.proofs.service.SipService.tell_over.Goals as goal

pub returns-in-Calling : goal.returns-in-Calling
returns-in-Calling c =
    told_as c.args.now _ _ _ c.args.self.now _ (ap (λ (leg : Leg). over_on leg (record { line = c.args.place.line; call = c.args.place.call })) (sym c.in-Calling.is)) c.silence.ensures c.tell_call_over.ensures

pub returns-in-Called : goal.returns-in-Called
returns-in-Called c =
    told_as c.args.now _ _ _ c.args.self.now _ (ap (λ (leg : Leg). over_on leg (record { line = c.args.place.line; call = c.args.place.call })) (sym c.in-Called.is)) c.silence.ensures c.tell_job_over.ensures
