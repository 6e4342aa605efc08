use Rattle.std.proofs.Common.{◌≡◌, List, ℕ, drop}
use Rattle.fax_spool.specs.RecordOctets.{PageValue}
use Rattle.fax_spool.specs.Places.{AreReadAt}
use Rattle.fax_spool.specs.Waits.{left_after}
use Rattle.fax_spool.proofs.placed_page.drop_ended.Given as goal

-- what is still to come leaves of the pages so far those that are left
abbrev pub invariant-loop-kept : goal.invariant-loop-kept
invariant-loop-kept l =
    (items : List (List ℕ)) (waits : List PageValue) → AreReadAt items l.initial.pages.items waits
    → (left : List PageValue) × AreReadAt items l.pages.items left × (left_after left (drop l.kept-index l.records) ≡ left_after waits l.records)
