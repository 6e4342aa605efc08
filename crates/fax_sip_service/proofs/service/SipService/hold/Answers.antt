use Rattle.std.proofs.Common.{◌++◌, ◌∷◌, []}
use Rattle.fax_sip_service.proofs.ServiceLemmas.{keeps}
use Rattle.fax_sip_service.proofs.service.SipService.hold.Goals as goal

pub returns : goal.returns
returns c =
    let old = c.args.self.now in
    keeps c.put_place-outcome.result old _ _ (record old { places = old.places ++ c.args.place ∷ [] }) c.put_place-outcome.ensures.ok c.put_place-outcome.ensures.err c.note.ensures
