use Rattle.std.proofs.Common.{◌≡◌, drop}
use Rattle.std.specs.List.{list_any}
use Rattle.fax_spool.specs.Torn.{is_next}
use Rattle.fax_spool.proofs.torn.has_next.Given as goal

-- one of those still to come is, where one is
abbrev pub invariant-loop-kept : goal.invariant-loop-kept
invariant-loop-kept l = list_any (is_next l.page) (drop l.kept-index l.records) ≡ list_any (is_next l.page) l.records
