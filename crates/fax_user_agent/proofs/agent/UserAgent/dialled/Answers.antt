use Rattle.std.proofs.Common.{OnErr, OnOk, subst}
use Rattle.fax_user_agent.specs.Agents.{Agent, HearsDial, MayHearDialInPart}
use Rattle.fax_user_agent.proofs.Hearing.{dial_err, dial_ok}
use Rattle.fax_user_agent.proofs.agent.UserAgent.dialled.Goals as goal

-- the switch hears a dial, placed as the book says
pub returns-clause-ok : goal.returns-clause-ok
returns-clause-ok c =
    subst (λ (agent : Agent). OnOk c.tell.result (HearsDial c.args.now c.args.on c.args.number.now agent c.tell.new.self)) c.self.view_is
    (dial_ok c.tell.result c.args.now c.args.on c.args.number.now c.dial-choice.result _ c.tell.new.self c.dial-choice.ensures c.tell.ensures.ok)

pub returns-clause-err : goal.returns-clause-err
returns-clause-err c =
    subst (λ (agent : Agent). OnErr c.tell.result (MayHearDialInPart c.args.now c.args.on c.args.number.now agent c.tell.new.self)) c.self.view_is
    (dial_err c.tell.result c.args.now c.args.on c.args.number.now c.dial-choice.result _ c.tell.new.self c.dial-choice.ensures c.tell.ensures.err)
