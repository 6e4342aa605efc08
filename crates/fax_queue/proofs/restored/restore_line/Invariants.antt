-- The pages so far are restored.
use Rattle.std.proofs.Common.{take}
use Rattle.fax_queue.specs.Restorations.{Restores, whole_pages}
use Rattle.fax_queue.proofs.restored.restore_line.Given as goal

abbrev pub invariant-loop-waits : goal.invariant-loop-waits
invariant-loop-waits l = Restores l.line (whole_pages l.torn (take l.waits-index l.pages)) l.restored
