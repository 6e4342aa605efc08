use Rattle.std.proofs.Common.{◌≤◌, ◌^◌, length}
use Rattle.fax_capture.specs.Rep.{Holds, TakesRecords}
use Rattle.fax_capture.specs.Scripts.{ScriptSoFar}
use Rattle.fax_capture.proofs.reading.take_records.Given as goal

-- the records so far were read, and told
abbrev pub invariant-loop-read : goal.invariant-loop-read
invariant-loop-read l = record {
  few : l.script.ticks ≤ 2 ^ 103;
  took : (told : ScriptSoFar) → Holds l.fn.script told → TakesRecords l.options l.fn.capture l.octets told l.capture l.rest l.script;
}

abbrev pub decreases-loop-read : goal.decreases-loop-read
decreases-loop-read l = length l.rest
