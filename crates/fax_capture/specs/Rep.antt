-- What a script that grows holds of what was told.
use Rattle.std.specs.Prelude.{◌≡◌, ℕ, ◌<◌, ◌≤◌, ◌^◌, ◌⊎◌, List, length, Option, None, Some, Err}
use Rattle.fax_command.specs.RowLines.{text_of_lines}
use Rattle.fax_capture.specs.declared.pcap.fault.CaptureFault.TheVariants.{Cut, Snapped, NoMemory}
use Rattle.fax_capture.specs.declared.pcap.found.Found.{Found}
use Rattle.fax_capture.specs.pcap.Captures.{TimedPacket, HeadValue, Follow, read_of, record_at, untold_head}
use Rattle.fax_capture.specs.declared.options.CaptureOptions.{CaptureOptions}
use Rattle.fax_capture.specs.declared.answer.Answer.{Answer}
use Rattle.fax_capture.specs.declared.answer.Answer.TheVariants as answers
use Rattle.fax_capture.specs.declared.counts.Counts.{Counts}
use Rattle.fax_capture.specs.declared.script.Script.{Script}
use Rattle.fax_capture.specs.declared.script_fault.ScriptFault.{ScriptFault}
use Rattle.fax_capture.specs.declared.script_fault.ScriptFault.TheVariants.{Capture, NoAddress, NoCall, TooLong}
use Rattle.fax_capture.specs.Answers.{Refuses, fault_counts, fault_line, fault_status, most_octets}
use Rattle.fax_capture.specs.Growing.{Stops}
use Rattle.fax_capture.specs.Scripts.{IsLackingIn, ScriptSoFar, TellsAll, TellsPacket, only_ring, script_lines}

pub record Holds (script : Script) (told : ScriptSoFar) : Type 0 where
  pub start : script.start ≡ told.start
  pub ticks : script.ticks ≡ told.ticks
  pub text : script.text.items ≡ text_of_lines told.lines
  pub leg : script.leg ≡ told.leg
  pub under_way : script.under_way ≡ told.under_way
  pub counts : script.counts ≡ told.counts

-- this is so of whatever was told in a script so far
abbrev pub EachSoFar : Script → (ScriptSoFar → Type 0) → Type 0
EachSoFar script IsSo = (told : ScriptSoFar) → Holds script told → IsSo told

-- Records at the front of octets were read, and told: what is told of the capture then, the octets after, and the script.
pub record TakesRecords (options : CaptureOptions) (old : HeadValue) (octets : List ℕ)
    (told : ScriptSoFar) (new : HeadValue) (after : List ℕ) (script : Script) : Type 0 where
  pub found : List (Option TimedPacket)
  pub next : ScriptSoFar
  pub follow : Follow old octets found new after
  pub tells : TellsAll options told found next
  pub holds : Holds script next

-- and the octets after end inside of a record
pub record TakesAllRecords (options : CaptureOptions) (old : HeadValue) (octets : List ℕ)
    (told : ScriptSoFar) (new : HeadValue) (left : List ℕ) (script : Script) : Type 0 where
  pub took : TakesRecords options old octets told new left script
  pub waits : read_of (record_at new left) ≡ Err Cut

-- A fault is met after records that were read and told, whatever follows these octets.
abbrev pub BreaksAt : HeadValue → List ℕ → ScriptSoFar → ScriptFault → Type 0
BreaksAt head octets told (Capture NoMemory) = Unit {0}
BreaksAt head octets told (Capture fault) = Refuses told head octets fault
BreaksAt head octets told (NoAddress counts) = ⊥
BreaksAt head octets told (NoCall counts) = ⊥
BreaksAt head octets told TooLong = most_octets < length (text_of_lines (script_lines told))

abbrev pub Breaks : CaptureOptions → HeadValue → List ℕ → ScriptSoFar → ScriptFault → Type 0
Breaks options old octets told fault = (found : List (Option TimedPacket)) × (head : HeadValue)
    × (after : List ℕ) × (next : ScriptSoFar) × Follow old octets found head after
    × TellsAll options told found next × BreaksAt head after next fault

-- a datagram is not told: some of it is lacking, or with it the text stops to grow
abbrev pub UntoldIn : CaptureOptions → ScriptSoFar → Option ℕ → Found → ScriptFault → Type 0
UntoldIn options told time found fault =
    (IsLackingIn told found × (fault ≡ Capture Snapped)) ⊎ ((next : ScriptSoFar)
    × TellsPacket options told time found next × Stops fault (text_of_lines next.lines))

abbrev pub Untold : CaptureOptions → ScriptSoFar → Option TimedPacket → ScriptFault → Type 0
Untold options told None fault = ⊥
Untold options told (Some captured) fault = UntoldIn options told captured.time captured.found fault

-- All whole records of what was read of a capture were told: what is told of the capture, the script, and the octets that are left.
pub record HasRead (options : CaptureOptions)
    (read : List ℕ) (head : HeadValue) (script : Script) (left : List ℕ) : Type 0 where
  pub few : script.ticks ≤ 2 ^ 103
  pub took : TakesRecords options untold_head read (only_ring options) head left script
  pub waits : read_of (record_at head left) ≡ Err Cut

-- this is so of all octets that were read, with which it stands so
abbrev pub EachRead : CaptureOptions
    → HeadValue → Script → (left : List ℕ) → (List ℕ → Type 0) → Type 0
EachRead options head script left IsSo =
    (read : List ℕ) → HasRead options read head script left → IsSo read

-- the text, the exit status and the counts of a script, or of what is wrong
abbrev pub text_of_answer : Answer → List ℕ
text_of_answer (answers.Script made) = made.text.items
text_of_answer (answers.Fault fault) = fault_line fault

abbrev pub status_of_answer : Answer → ℕ
status_of_answer (answers.Script made) = 0
status_of_answer (answers.Fault fault) = fault_status fault

abbrev pub counts_of_answer : Answer → Option Counts
counts_of_answer (answers.Script made) = Some made.counts
counts_of_answer (answers.Fault fault) = fault_counts fault
