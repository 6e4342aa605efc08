use Rattle.std.proofs.Common.{◌≡◌, length}
use Rattle.fax_dialogs.specs.Dialogs.{routes_after}
use Rattle.fax_sip.specs.Lists.{elements_left}
use Rattle.fax_dialogs.proofs.reading.routes_of.Given as goal

-- the routes after those that are kept are those after none
abbrev pub invariant-loop-element : goal.invariant-loop-element
invariant-loop-element l = routes_after l.routes.items (elements_left l.rest) ≡ routes_after l.initial.routes.items (elements_left l.initial.rest)

abbrev pub decreases-loop-element : goal.decreases-loop-element
decreases-loop-element l = length (elements_left l.rest)
