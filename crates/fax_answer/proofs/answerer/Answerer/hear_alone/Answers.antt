use Rattle.std.proofs.Common.{sym, subst}
use Rattle.fax_ifp.specs.Pieces.{Octets}
use Rattle.fax_answer.specs.Reached.{Rep, Stands}
use Rattle.fax_answer.specs.Watching.{Watches}
use Rattle.fax_answer.proofs.SlotsLemmas.{takes_one}
use Rattle.fax_answer.proofs.answerer.Answerer.hear_alone.Goals as goal

pub returns-clause-heard : goal.returns-clause-heard
returns-clause-heard g c core s =
    takes_one (Watches g.W.Watcher.tells c.args.watcher.now c.hear_octets.new.watcher) core c.args.now (Octets c.args.octets.now) c.hear_octets.new.self _
    (λ a t. let k = subst (λ (x : Rep). Stands a x) (sym c.self.view_is) t in record { confirmed = k.confirmed; confirms = k.confirms; follows = k.follows; reason = k.reason; holds = k.holds })
    (c.in_ok-hear_octets.ensures.heard core s)
