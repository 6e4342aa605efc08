use Rattle.std.proofs.Common.{◌≡◌, ◌++◌, drop}
use Rattle.fax_spool.specs.Opened.{closed}
use Rattle.fax_spool.proofs.opening.closed.Given as goal

-- the pages so far, and those still to come
abbrev pub invariant-loop-i : goal.invariant-loop-i
invariant-loop-i l = l.waits.items ++ closed (drop l.i l.pages) ≡ closed l.pages
