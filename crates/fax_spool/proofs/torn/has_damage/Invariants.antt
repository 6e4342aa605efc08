use Rattle.std.proofs.Common.{◌≡◌, drop}
use Rattle.std.specs.List.{list_any}
use Rattle.fax_spool.specs.Torn.{has_damage, is_damaged}
use Rattle.fax_spool.proofs.torn.has_damage.Given as goal

-- one of those still to come is, where one is
abbrev pub invariant-loop-kept : goal.invariant-loop-kept
invariant-loop-kept l = list_any is_damaged (drop l.kept-index l.records) ≡ has_damage l.records
