use Rattle.std.proofs.Common.{[], refl}
use Rattle.fax_say.specs.Hearings.{waits}
use Rattle.fax_say.proofs.HearingLemmas.{front_so}
use Rattle.fax_say.proofs.hearing.Hearing.take.Goals as goal

pub returns-in-Some-clause-front : goal.returns-in-Some-clause-front
returns-in-Some-clause-front c =
    front_so (waits c.self.inside.stays c.in-Some.last) c.args.octets.now [] c.args.octets.now c.told.result.now refl c.told.ensures
