use Rattle.std.proofs.Common.{◌≡◌, drop}
use Rattle.fax_queue.specs.Together.{unsure_all}
use Rattle.fax_queue.proofs.ending.mark_unsure.Given as goal

-- those to come are to be marked still
abbrev pub invariant-loop-one : goal.invariant-loop-one
invariant-loop-one l = unsure_all (drop l.one-index l.plan) l.queues ≡ unsure_all l.plan l.initial.queues
