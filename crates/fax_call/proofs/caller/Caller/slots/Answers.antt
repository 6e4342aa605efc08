use Rattle.std.proofs.lemmas.Result.{on_ok_weaker}
use Rattle.fax_call.proofs.caller.Caller.slots.Goals as goal

pub returns-clause-heard : goal.returns-clause-heard
returns-clause-heard c =
    on_ok_weaker c.slots_watched.result (λ told. λ writes job heard core r. (told writes job heard core r).hears) c.slots_watched.ensures.heard
