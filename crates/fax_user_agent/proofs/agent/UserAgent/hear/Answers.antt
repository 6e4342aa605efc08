use Rattle.std.proofs.Common.{sym, ap, ◌∙◌, is_some}
use Rattle.fax_sip.specs.Messages.{message_text}
use Rattle.fax_user_agent.specs.Senders.{trunk_of}
use Rattle.fax_user_agent.proofs.Hearing.{heard_err}
use Rattle.fax_user_agent.proofs.agent.UserAgent.hear.Goals as goal

-- it comes from a trunk, and is a message
pub returns-in_ok-take-in-Ok-clause-heard : goal.returns-in_ok-take-in-Ok-clause-heard
returns-in_ok-take-in-Ok-clause-heard c =
    let is_known = ap is_some (sym c.trunk_from.ensures ∙ c.in-Some.is) in
    (ap (λ agent. is_some (trunk_of agent.trunks c.args.from)) (sym c.self.view_is) ∙ is_known, message_text c.in-Ok.message, c.in-Ok.ensures, c.in_ok-take-in-Ok.ensures.ok)

pub returns-in_err-take-in-Ok-clause-heard : goal.returns-in_err-take-in-Ok-clause-heard
returns-in_err-take-in-Ok-clause-heard c =
    let is_known = ap is_some (sym c.trunk_from.ensures ∙ c.in-Some.is) in
    heard_err _ c.from_residual.result _ _ _ (message_text c.in-Ok.message) _ _ c.from_residual.ensures.1 (ap (λ agent. is_some (trunk_of agent.trunks c.args.from)) (sym c.self.view_is) ∙ is_known) c.in-Ok.ensures c.in_err-take-in-Ok.ensures.err
