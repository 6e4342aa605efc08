use Rattle.std.proofs.Common.{◌++◌, ◌∷◌, [], subst}
use Rattle.fax_sip_service.specs.Services.{KeepsNews}
use Rattle.fax_sip_service.proofs.ServiceLemmas.{keeps}
use Rattle.fax_sip_service.proofs.service.SipService.take_told.Goals as goal

pub returns : goal.returns
returns c =
    let seen = c.count.new.self in
    subst (λ s. KeepsNews c.args.told s c.note.new.self) c.count.ensures
    (keeps c.put_told-outcome.result seen _ _ (record seen { news = seen.news ++ c.args.told ∷ [] }) c.put_told-outcome.ensures.ok c.put_told-outcome.ensures.err c.note.ensures)
