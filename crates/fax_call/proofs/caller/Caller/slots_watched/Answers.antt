use Rattle.std.proofs.Common.{◌≡◌, false, sym, ◌∙◌, rules}
use Rattle.fax_call.proofs.HearingLemmas.{if_right}
use Rattle.fax_call.proofs.caller.Caller.slots_watched.Goals as goal

pub returns-clause-heard : goal.returns-clause-heard
returns-clause-heard g c =
    let off : c.is_err.result ≡ false = search rules in
    if_right c.hear_slots.result _ (sym c.is_err.ensures.value ∙ off) c.hear_slots.ensures.heard
