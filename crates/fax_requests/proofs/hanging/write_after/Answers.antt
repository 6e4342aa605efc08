use Rattle.std.proofs.Common.{map, ap, ◌∙◌}
use Rattle.fax_dialogs.specs.Within.{field_text}
use Rattle.fax_sip.specs.Messages.{message_text}
use Rattle.fax_requests.proofs.HangingLemmas.{faulty, hangs_on, written}
use Rattle.fax_requests.proofs.hanging.write_after.Goals as goal

pub returns-clause-ok : goal.returns-clause-ok
returns-clause-ok c =
    written c.write_request.result (λ octets. octets.items) (message_text c.args.invite.now) c.args.method.now c.args.to.now c.request_after-request.result
    (hangs_on (message_text c.args.invite.now) c.args.method.now c.args.to.now c.request_after-request.result c.as_slice.result.now c.request_after-request.ensures
    (ap (map field_text) c.as_slice.ensures.value ∙ c.in_ok-fields.ensures))
    c.write_request.ensures.ok c.write_request.ensures.fails

pub returns-clause-fails : goal.returns-clause-fails
returns-clause-fails c =
    faulty c.write_request.result (message_text c.args.invite.now) c.args.method.now c.args.to.now c.request_after-request.result
    (hangs_on (message_text c.args.invite.now) c.args.method.now c.args.to.now c.request_after-request.result c.as_slice.result.now c.request_after-request.ensures
    (ap (map field_text) c.as_slice.ensures.value ∙ c.in_ok-fields.ensures))
    c.write_request.ensures.fails c.write_request.ensures.memory
