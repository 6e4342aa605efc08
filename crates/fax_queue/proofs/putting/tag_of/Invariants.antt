use Rattle.std.proofs.Common.{◌≡◌, drop}
use Rattle.fax_queue.specs.Tags.{tag_of}
use Rattle.fax_queue.proofs.putting.tag_of.Given as goal

-- the tag of the line is among those still to come, where it has one
abbrev pub invariant-loop-it : goal.invariant-loop-it
invariant-loop-it l = tag_of (drop l.it-index l.tags) l.i ≡ tag_of l.tags l.i
