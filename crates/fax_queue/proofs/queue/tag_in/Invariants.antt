use Rattle.std.proofs.Common.{◌≡◌, drop}
use Rattle.fax_queue.specs.Queues.{tag_in}
use Rattle.fax_queue.proofs.queue.tag_in.Given as goal

-- the tag of the call is among those still to come, where it has one
abbrev pub invariant-loop-it : goal.invariant-loop-it
invariant-loop-it l = tag_in (drop l.it-index l.tags) l.life l.call ≡ tag_in l.tags l.life l.call
