use Rattle.fax_explain.proofs.PlayLemmas.{plays_on}
use Rattle.fax_explain.proofs.stage.Stage.play.Goals as goal

pub returns : goal.returns
returns c = λ setup writes old written at reached.
    plays_on setup writes old c.args.event.now _ _ _ _ _ (c.in_ok-answer.ensures setup writes old written at reached) c.in_ok-tell_asked.ensures
    (c.asked-was_asked.ensures.told setup writes old.trace reached.reached) (λ trace now_reached. c.asked.ensures.told setup writes trace now_reached.reached)
