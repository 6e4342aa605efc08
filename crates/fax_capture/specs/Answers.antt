-- What `faxgate capture` answers to an input. (This project's profile.)
use Rattle.std.specs.Prelude.{◌≡◌, ℕ, ◌<◌, ◌⊎◌, List, length, codes, Option, Some, None, Result, Ok, Err}
use Rattle.fax_command.specs.RowLines.{text_of_lines}
use Rattle.fax_capture.specs.declared.pcap.fault.CaptureFault.{CaptureFault}
use Rattle.fax_capture.specs.declared.pcap.fault.CaptureFault.TheVariants as capture
use Rattle.fax_capture.specs.pcap.Captures.{TimedPacket, HeadValue, Follow, ReadsAs, fault_of_end, read_of, record_at, untold_head}
use Rattle.fax_capture.specs.declared.options.CaptureOptions.{CaptureOptions}
use Rattle.fax_capture.specs.declared.counts.Counts.{Counts}
use Rattle.fax_capture.specs.declared.script_fault.ScriptFault.{ScriptFault}
use Rattle.fax_capture.specs.declared.script_fault.ScriptFault.TheVariants.{Capture, NoAddress, NoCall, TooLong}
use Rattle.fax_capture.specs.Scripts.{ScriptSoFar, TellsAll, IsLacking, only_ring, script_lines}

-- a script and how many datagrams came from whom, or what is wrong with the input
abbrev pub Outcome : Type 0
Outcome = Result (List ℕ × Counts) ScriptFault

-- the most octets of a script: no more are read of one
abbrev pub most_octets : ℕ
most_octets = 16777216

-- So far a capture was read, record by record, and its datagrams were told: what is told of the capture then, and the octets
-- after.
pub record ToldSoFar (options : CaptureOptions)
    (input : List ℕ) (head : HeadValue) (after : List ℕ) (told : ScriptSoFar) : Type 0 where
  pub found : List (Option TimedPacket)
  pub follow : Follow untold_head input found head after
  pub tells : TellsAll options (only_ring options) found told

-- A capture was read to its end, where nothing is wrong.
pub record ToldWhole (options : CaptureOptions) (input : List ℕ) (told : ScriptSoFar) : Type 0 where
  pub head : HeadValue
  pub left : List ℕ
  pub so_far : ToldSoFar options input head left told
  pub at_end : fault_of_end head.kind left ≡ None

-- some is lacking of a datagram that is read at the front of octets
abbrev pub LacksAt : ScriptSoFar → HeadValue → List ℕ → Type 0
LacksAt told head octets = (captured : TimedPacket) × (next : HeadValue) × (after : List ℕ)
    × ReadsAs (record_at head octets) (Some captured) next after × IsLacking told captured

-- The record at the front of octets is refused, or some of its datagram is lacking; that octets lack at the end is another fault.
abbrev pub Refuses : ScriptSoFar → HeadValue → List ℕ → CaptureFault → Type 0
Refuses told head octets capture.Cut = ⊥
Refuses told head octets capture.Snapped =
    (read_of (record_at head octets) ≡ Err capture.Snapped) ⊎ LacksAt told head octets
Refuses told head octets fault = read_of (record_at head octets) ≡ Err fault

-- the capture ends inside a record, or before it begins
abbrev pub Ends : HeadValue → List ℕ → CaptureFault → Type 0
Ends head left fault =
    (read_of (record_at head left) ≡ Err capture.Cut) × (fault_of_end head.kind left ≡ Some fault)

-- a fault of the capture is met after the records that were read
abbrev pub FailsCapture : CaptureOptions → List ℕ → CaptureFault → Type 0
FailsCapture options input fault = (head : HeadValue)
    × (after : List ℕ) × (told : ScriptSoFar) × ToldSoFar options input head after told
    × (Refuses told head after fault ⊎ Ends head after fault)

-- Memory may be wanting at any input.
abbrev pub FailsReading : CaptureOptions → List ℕ → CaptureFault → Type 0
FailsReading options input capture.NoMemory = Unit {0}
FailsReading options input fault = FailsCapture options input fault

-- what is wrong: the capture has a fault; none of its datagrams was sent by one of the two, or to one; or none of them in the call
-- that is asked for; or the script of so much of it is too long
abbrev pub Fails : CaptureOptions → List ℕ → ScriptFault → Type 0
Fails options input (Capture fault) = FailsReading options input fault
Fails options input (NoAddress counts) = (told : ScriptSoFar) × ToldWhole options input told
    × (told.ticks ≡ 0) × (told.counts.of_other_calls ≡ 0) × (counts ≡ told.counts)
Fails options input (NoCall counts) = (told : ScriptSoFar) × ToldWhole options input told
    × (told.ticks ≡ 0) × (0 < told.counts.of_other_calls) × (counts ≡ told.counts)
Fails options input TooLong = (head : HeadValue)
    × (after : List ℕ) × (told : ScriptSoFar) × ToldSoFar options input head after told
    × (most_octets < length (text_of_lines (script_lines told)))

abbrev pub Allows : CaptureOptions → List ℕ → Outcome → Type 0
Allows options input (Ok made) = (told : ScriptSoFar) × ToldWhole options input told
    × (0 < told.ticks) × (made.0 ≡ text_of_lines (script_lines told)) × (made.1 ≡ told.counts)
Allows options input (Err fault) = Fails options input fault

abbrev pub capture_fault_line : CaptureFault → List ℕ
capture_fault_line capture.NoCapture = codes "fault 1 NoCapture\n"
capture_fault_line capture.Cut = codes "fault 2 Cut\n"
capture_fault_line capture.Snapped = codes "fault 2 Cut\n"
capture_fault_line capture.Damaged = codes "fault 3 Damaged\n"
capture_fault_line capture.NoMemory = codes "fault memory\n"

abbrev pub fault_line : ScriptFault → List ℕ
fault_line (Capture fault) = capture_fault_line fault
fault_line (NoAddress counts) = codes "fault 4 NoAddress\n"
fault_line (NoCall counts) = codes "fault 6 NoCall\n"
fault_line TooLong = codes "fault 5 TooLong\n"

abbrev pub fault_status : ScriptFault → ℕ
fault_status (Capture capture.NoMemory) = 3
fault_status fault = 1

abbrev pub text_of : Outcome → List ℕ
text_of (Ok made) = made.0
text_of (Err fault) = fault_line fault

abbrev pub status_of : Outcome → ℕ
status_of (Ok made) = 0
status_of (Err fault) = fault_status fault

-- Datagrams are counted where the capture was read to its end.
abbrev pub fault_counts : ScriptFault → Option Counts
fault_counts (NoAddress counts) = Some counts
fault_counts (NoCall counts) = Some counts
fault_counts fault = None

abbrev pub counts_of : Outcome → Option Counts
counts_of (Ok made) = Some made.1
counts_of (Err fault) = fault_counts fault

-- The exit status, the counts and the text that a run may answer to an input, for these options.
pub record Answers (options : CaptureOptions)
    (input : List ℕ) (status : ℕ) (counts : Option Counts) (text : List ℕ) : Type 0 where
  pub outcome : Outcome
  pub allowed : Allows options input outcome
  pub status_is : status ≡ status_of outcome
  pub counts_is : counts ≡ counts_of outcome
  pub text_is : text ≡ text_of outcome
