use Rattle.std.proofs.Common.{[], ◌∷◌, take}
use Rattle.std.specs.Prelude.{All, Contains}
use Rattle.fax_loop.specs.Links.{came_calling}
use Rattle.command_tests.proofs.links.checking.came_on_calling.Given as goal

-- each so far brought none, or one of these
abbrev pub invariant-loop-receipt : goal.invariant-loop-receipt
invariant-loop-receipt l = All (λ r. All (Contains l.sent) (came_calling (r ∷ []))) (take l.receipt-index l.receipts)
