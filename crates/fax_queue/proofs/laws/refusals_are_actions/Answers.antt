use Rattle.fax_queue.proofs.Refusing.{notes_stay, refusals_are_actions}
use Rattle.fax_queue.proofs.Slots.{slots_are_refusals}
use Rattle.fax_queue.proofs.laws.refusals_are_actions.Goals as goal

pub returns-clause-refusals : goal.returns-clause-refusals
returns-clause-refusals c = refusals_are_actions

pub returns-clause-slots : goal.returns-clause-slots
returns-clause-slots c = slots_are_refusals

pub returns-clause-notes : goal.returns-clause-notes
returns-clause-notes c = notes_stay
