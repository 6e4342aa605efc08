use Rattle.std.proofs.Common.{List, ℕ, take}
use Rattle.fax_spool.specs.RecordOctets.{PageValue}
use Rattle.fax_spool.specs.StoredPages.{AreKnownAs}
use Rattle.fax_spool.specs.Places.{AreReadAt}
use Rattle.fax_spool.proofs.stored_page.keep_placed_pages.Given as goal

-- the pages so far, as they are known
abbrev pub invariant-loop-placed : goal.invariant-loop-placed
invariant-loop-placed l = (items : List (List ℕ)) (waits : List PageValue) → AreReadAt items l.pages waits → AreKnownAs items l.kept.items (take l.placed-index waits)
