use Rattle.fax_explain.proofs.GivenLemmas.{keeps_giving}
use Rattle.fax_explain.proofs.OpenedLemmas.{ok_then}
use Rattle.fax_explain.proofs.called.CalledLeg.give.Goals as goal

pub returns-clause-ear : goal.returns-clause-ear
returns-clause-ear c = ok_then c.hear_unmarked.result c.hear_unmarked.ensures.ear (λ stays.
    keeps_giving c.given_signal.result c.args.self.now.ours c.give.new.self c.hear_unmarked.new.self c.give.ensures stays)
