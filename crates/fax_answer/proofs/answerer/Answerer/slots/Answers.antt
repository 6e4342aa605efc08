use Rattle.fax_udptl.specs.Taking.{slots_in}
use Rattle.fax_answer.proofs.SlotsLemmas.{hears_alike}
use Rattle.fax_answer.proofs.answerer.Answerer.slots.Goals as goal

pub returns-clause-heard : goal.returns-clause-heard
returns-clause-heard g c =
    hears_alike _ c.slots_watched.result (slots_in c.args.decided.now) c.args.now c.args.self.now c.slots_watched.new.self c.slots_watched.ensures.heard
