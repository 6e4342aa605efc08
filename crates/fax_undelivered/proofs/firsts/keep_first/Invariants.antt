use Rattle.std.proofs.Common.{◌≡◌, ◌++◌, ◌-◌, take, drop, length}
use Rattle.fax_undelivered.specs.Calls.{firsts, firsts_after}
use Rattle.fax_undelivered.proofs.firsts.keep_first.Given as goal

-- those so far stay, and of those still to come the first ones
abbrev pub invariant-loop-i : goal.invariant-loop-i
invariant-loop-i l = take l.i l.pages.items ++ firsts_after (take l.i l.pages.items) (drop l.i l.pages.items) ≡ firsts l.initial.pages.items

abbrev pub decreases-loop-i : goal.decreases-loop-i
decreases-loop-i l = length l.pages.items - l.i
