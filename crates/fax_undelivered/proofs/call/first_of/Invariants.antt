use Rattle.std.proofs.Common.{◌≡◌, false, take}
use Rattle.std.specs.List.{list_any}
use Rattle.fax_spool.specs.Torn.{call_of}
use Rattle.fax_undelivered.specs.Calls.{is_named}
use Rattle.fax_undelivered.proofs.call.first_of.Given as goal

-- it is of none of the calls so far
abbrev pub invariant-loop-i : goal.invariant-loop-i
invariant-loop-i l = list_any (is_named (call_of l.page)) (take l.i l.calls) ≡ false
