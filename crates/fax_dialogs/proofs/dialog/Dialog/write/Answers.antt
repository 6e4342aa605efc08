use Rattle.std.proofs.Common.{map, ap, ◌∙◌}
use Rattle.fax_dialogs.specs.Within.{field_text}
use Rattle.fax_dialogs.proofs.WithinLemmas.{asks_it, faulty, written}
use Rattle.fax_dialogs.proofs.dialog.Dialog.write.Goals as goal

pub returns-clause-ok : goal.returns-clause-ok
returns-clause-ok c =
    written c.write_request.result (λ octets. octets.items) c.args.self.now c.args.within.now c.request-request.result
    (asks_it c.args.self.now c.args.within.now c.request-request.result c.as_slice-2.result.now c.as_slice.result.now c.request-request.ensures
    (ap (map field_text) c.as_slice-2.ensures.value ∙ c.in_ok-fields.ensures) (c.as_slice.ensures.value ∙ c.in_ok-route.ensures))
    c.write_request.ensures.ok c.write_request.ensures.fails

pub returns-clause-fails : goal.returns-clause-fails
returns-clause-fails c =
    faulty c.write_request.result c.args.self.now c.args.within.now c.request-request.result
    (asks_it c.args.self.now c.args.within.now c.request-request.result c.as_slice-2.result.now c.as_slice.result.now c.request-request.ensures
    (ap (map field_text) c.as_slice-2.ensures.value ∙ c.in_ok-fields.ensures) (c.as_slice.ensures.value ∙ c.in_ok-route.ensures))
    c.write_request.ensures.fails c.write_request.ensures.memory
