-- The lines so far are begun, one for each line of the configuration that was read; and new, where no page waits. Each is restored with
-- its own pages, and so is its queue.
use Rattle.std.proofs.Common.{◌≡◌, [], length, take}
use Rattle.fax_line.specs.Operations.{AreBegun, AreNew}
use Rattle.fax_queue.specs.Restorations.{whole_pages}
use Rattle.fax_opening.specs.Openings.{AreRestored}
use Rattle.fax_opening.proofs.sockets.open_restored_lines.Given as goal

abbrev pub invariant-loop-config : goal.invariant-loop-config
invariant-loop-config g l = AreBegun l.lines.lines × (l.initial.pages ≡ [] → AreNew l.lines.lines) × (l.lines.slot ≡ 0) × (length l.lines.lines ≡ l.config-index)
    × (l.initial.queues.items ≡ [] → AreRestored (whole_pages l.initial.torn l.initial.pages) (take l.config-index l.initial.configs) l.lines.lines l.queues.items)
