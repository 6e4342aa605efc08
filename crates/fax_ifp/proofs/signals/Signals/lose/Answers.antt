use Rattle.fax_ifp.proofs.SlotLaws.{lost_slots_leave, lost_slots_are_gaps}
use Rattle.fax_ifp.proofs.signals.Signals.lose.Goals as goal

pub returns-then-count-gt0-clause-tracked : goal.returns-then-count-gt0-clause-tracked
returns-then-count-gt0-clause-tracked c = λ before left. rw c.spoil.ensures (lost_slots_leave c.args.count before c.args.self.now c.if-count-gt0.true left)

pub returns-then-count-gt0-clause-pieces : goal.returns-then-count-gt0-clause-pieces
returns-then-count-gt0-clause-pieces c = λ before left. lost_slots_are_gaps c.args.count before
