use Rattle.std.proofs.Common.{◌≡◌, drop}
use Rattle.fax_redial.proofs.noting.listed_numbers.Given as goal
use Rattle.fax_undelivered.specs.Calls.{numbers_named}

-- it is one of those still to come, where it is one
abbrev pub invariant-loop-call : goal.invariant-loop-call
invariant-loop-call l = numbers_named l.name (drop l.call-index l.calls) ≡ numbers_named l.name l.calls
