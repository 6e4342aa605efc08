use Rattle.std.proofs.Common.{◌≡◌, drop}
use Rattle.std.specs.List.{list_any}
use Rattle.fax_redial.specs.Noting.{card_named}
use Rattle.fax_redial.proofs.noting.card_of.Given as goal
use Rattle.fax_undelivered.specs.Calls.{is_named}

-- it is one of those still to come, where it is one
abbrev pub invariant-loop-call : goal.invariant-loop-call
invariant-loop-call l = record {
  any : list_any (is_named l.name) (drop l.call-index l.calls) ≡ list_any (is_named l.name) l.calls;
  named : card_named l.name (drop l.call-index l.calls) ≡ card_named l.name l.calls;
}
