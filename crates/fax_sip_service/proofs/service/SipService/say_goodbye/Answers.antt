use Rattle.std.proofs.Common.{subst}
use Rattle.fax_user_agent.specs.Agents.{IsQuiet}
use Rattle.fax_sip_service.specs.Services.{Does}
use Rattle.fax_sip_service.proofs.service.SipService.say_goodbye.Goals as goal

pub returns : goal.returns
returns c = (c.end_registrations.new.self, subst (λ s. Does IsQuiet IsQuiet s c.end_registrations.new.self) c.set_open.ensures c.end_registrations.ensures, c.collect.ensures)
