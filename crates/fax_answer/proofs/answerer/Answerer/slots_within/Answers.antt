use Rattle.fax_udptl.specs.Taking.{slots_in}
use Rattle.fax_answer.specs.Watching.{Watches}
use Rattle.fax_answer.proofs.SlotsLemmas.{hears_joined}
use Rattle.fax_answer.proofs.answerer.Answerer.slots_within.Goals as goal

pub returns-clause-heard : goal.returns-clause-heard
returns-clause-heard g c heard core r =
    hears_joined (Watches g.W.Watcher.tells c.args.watcher.now c.hear_whole.new.watcher) (slots_in c.args.decided.now) c.args.now heard core c.hear_whole.new.self c.settle.new.self (c.in_ok-hear_whole.ensures.heard heard core r)
    c.settle.ensures.tracked c.settle.ensures.stands c.settle.ensures.settled
