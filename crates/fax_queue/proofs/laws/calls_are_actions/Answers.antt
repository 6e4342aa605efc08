use Rattle.fax_queue.proofs.Lives.{ends_are_actions, others_are_beside, puts_are_actions, restarts_are_actions}
use Rattle.fax_queue.proofs.Slots.{slots_are_puts}
use Rattle.fax_queue.proofs.laws.calls_are_actions.Goals as goal

pub returns-clause-puts : goal.returns-clause-puts
returns-clause-puts c = puts_are_actions

pub returns-clause-slots : goal.returns-clause-slots
returns-clause-slots c = slots_are_puts

pub returns-clause-ends : goal.returns-clause-ends
returns-clause-ends c = ends_are_actions

pub returns-clause-others : goal.returns-clause-others
returns-clause-others c = others_are_beside

pub returns-clause-restarts : goal.returns-clause-restarts
returns-clause-restarts c = restarts_are_actions
