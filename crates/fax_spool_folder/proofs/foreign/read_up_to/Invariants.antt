use Rattle.std.proofs.Common.{◌≡◌, ◌≤◌, length}
use Rattle.fax_spool_folder.proofs.foreign.read_up_to.Given as goal

-- what came fits into the room
abbrev pub invariant-loop : goal.invariant-loop
invariant-loop g l = record {
  within : l.count ≤ length l.room;
  same : length l.room ≡ length l.initial.room;
}
