use Rattle.std.proofs.Common.{◌≡◌, drop}
use Rattle.std.specs.List.{list_any}
use Rattle.fax_undelivered.specs.Calls.{is_named}
use Rattle.fax_undelivered.proofs.call.has_call.Given as goal

-- one of those still to come is, where one is
abbrev pub invariant-loop-it : goal.invariant-loop-it
invariant-loop-it l = list_any (is_named (record { life = l.life; call = l.call; line = l.line })) (drop l.it-index l.calls) ≡ list_any (is_named (record { life = l.life; call = l.call; line = l.line })) l.calls
