-- SCRIPTS: what a capture's datagrams tell, as `faxgate trace` reads it. (This project's profile.)
use Rattle.std.specs.Prelude.{◌≡◌, ℕ, Bool, true, false, zero, suc, ◌+◌, ◌-◌, ◌*◌, ◌/◌, max, List, [], ◌∷◌, ◌++◌, codes, decimal, Option, Some, None, if◌then◌else◌}
use Rattle.hex.specs.Hex.{encode_lower}
use Rattle.fax_capture.specs.declared.pcap.found.Found.{Found}
use Rattle.fax_capture.specs.declared.pcap.found.Found.TheVariants.{Datagram, Fragment}
use Rattle.fax_capture.specs.pcap.Datagrams.{DatagramValue, FragmentValue}
use Rattle.fax_capture.specs.pcap.Captures.{TimedPacket}
use Rattle.fax_capture.specs.declared.options.CaptureOptions.{CaptureOptions}
use Rattle.fax_capture.specs.declared.address.Role.{Role}
use Rattle.fax_capture.specs.declared.address.Role.TheVariants.{FromCaller, FromCalled}
use Rattle.fax_capture.specs.declared.counts.Counts.{Counts}
use Rattle.fax_capture.specs.declared.leg.CallingLeg.{CallingLeg}
use Rattle.fax_capture.specs.Addresses.{IsRole, called_of, caller_of, is_passed_over, lacks}
use Rattle.fax_capture.specs.Calls.{begins_anew, is_asked, leg_with, number_of, silent_leg}
use Rattle.fax_capture.specs.Machines.{machines_with}
use Rattle.fax_capture.specs.Counts.{counts_of_call, counts_of_other, counts_of_whole, counts_told, counts_with, no_counts}
use Rattle.fax_capture.specs.Fragments.{UnfinishedValue, WholeValue, put_together, under_way_with}

-- tick k is the moment 40 k, in milliseconds
abbrev pub tick_line : ℕ → List ℕ
tick_line tick = codes "T " ++ decimal (40 * tick)

-- so many ticks, from one on
unfoldable pub tick_lines : ℕ → ℕ → List (List ℕ)
tick_lines from zero = []
tick_lines from (suc count) = tick_line from ∷ tick_lines (from + 1) count

-- the line of a datagram: one that the caller sent came on the calling leg, one that the called machine sent on the called
-- leg. Those that are sent to them have none: the gateway gives them anew.
abbrev pub role_lines : Role → List ℕ → List (List ℕ)
role_lines FromCaller octets = (codes "A " ++ encode_lower octets) ∷ []
role_lines FromCalled octets = (codes "B " ++ encode_lower octets) ∷ []
role_lines role octets = []

-- It rings where a call begins anew, but not for the one call that is asked for: there the ring stands first.
abbrev pub ring_lines : Option ℕ → Bool → List (List ℕ)
ring_lines None true = codes "R" ∷ []
ring_lines asked begins = []

-- What was told: when the first of the datagrams was captured that one of the two sent or was sent, where that is known;
-- how many ticks were told, from 0 on; the lines; what was heard last on the calling leg; the datagram that is put together of
-- fragments; the machines that are known, and how many datagrams came from whom, in how many calls.
pub record ScriptSoFar : Type 0 where
  pub start : Option ℕ
  pub ticks : ℕ
  pub lines : List (List ℕ)
  pub leg : CallingLeg
  pub under_way : Option UnfinishedValue
  pub counts : Counts

-- it rings
abbrev pub only_ring : CaptureOptions → ScriptSoFar
only_ring options = record {
  start = None;
  ticks = 0;
  lines = codes "R" ∷ [];
  leg = silent_leg;
  under_way = None;
  counts = no_counts options.machines;
}

abbrev pub start_of : Option ℕ → Option ℕ → Option ℕ
start_of None time = time
start_of (Some start) time = Some start

-- The tick at or before a time, 40 ms each. One that is not known, or lies before the start, has the first tick.
abbrev pub tick_of : Option ℕ → Option ℕ → ℕ
tick_of None time = 0
tick_of (Some start) None = 0
tick_of (Some start) (Some time) = (time - start) / 40000000

-- Ticks are told up to that of a datagram, and then the datagram. None is told again.
abbrev pub ticks_before : ScriptSoFar → Option ℕ → ℕ
ticks_before told time = max told.ticks (tick_of (start_of told.start time) time)

abbrev pub ticks_to : ScriptSoFar → Option ℕ → ℕ
ticks_to told time = max told.ticks (tick_of (start_of told.start time) time + 1)

-- It rings before the tick of the datagram with which a call begins anew, as before that of the first one, so that the gateway's
-- first answer comes at that tick.
abbrev pub lines_to : ScriptSoFar → Option ℕ → List (List ℕ) → List (List ℕ)
lines_to told time rings =
    ((told.lines ++ tick_lines told.ticks (ticks_before told time - told.ticks)) ++ rings)
    ++ tick_lines (ticks_before told time) (ticks_to told time - ticks_before told time)

abbrev pub told_with : ScriptSoFar → Option ℕ → List ℕ → Role → List (List ℕ) → ScriptSoFar
told_with told time octets role rings = record told {
  start = start_of told.start time;
  ticks = ticks_to told time;
  lines = lines_to told time rings ++ role_lines role octets;
  counts = counts_told told.counts role octets;
}

-- whether a call begins anew with a datagram
abbrev pub begins_with : ScriptSoFar → Option ℕ → List ℕ → Role → Bool
begins_with told time octets role = begins_anew told.leg role (number_of octets) time

-- the datagram is heard
abbrev pub heard_with : ScriptSoFar → Option ℕ → List ℕ → Role → ScriptSoFar
heard_with told time octets role = record told {
  leg = leg_with told.leg role (number_of octets) time (begins_with told time octets role);
  counts = counts_of_call told.counts (begins_with told time octets role);
}

-- a datagram of the call that is on: where another one is asked for it is counted alone
abbrev pub told_in : Option ℕ → ScriptSoFar → Option ℕ → List ℕ → Role → Bool → ScriptSoFar
told_in asked told time octets role begins = if is_asked asked told.counts.calls
    then told_with told time octets role (ring_lines asked begins)
    else record told { counts = counts_of_other told.counts }

-- one datagram more, which was captured at a time and has these octets; one that is passed over is counted alone
abbrev pub told_of : Option ℕ → ScriptSoFar → Option ℕ → List ℕ → Role → ScriptSoFar
told_of asked told time octets role =
    if is_passed_over role then record told { counts = counts_with told.counts role } else told_in
    asked (heard_with told time octets role) time octets role (begins_with told time octets role)

-- Machines may be found by a datagram.
abbrev pub found_with : ScriptSoFar → DatagramValue → ScriptSoFar
found_with told datagram = record told {
  counts = record told.counts { machines = machines_with told.counts.machines datagram };
}

-- what a datagram is to the machines that are known
abbrev pub IsRoleIn : ScriptSoFar → DatagramValue → Role → Type 0
IsRoleIn told datagram role =
    IsRole (caller_of told.counts.machines) (called_of told.counts.machines) datagram role

-- A datagram may begin in it, as the first of fragments.
abbrev pub begun_with : ScriptSoFar → DatagramValue → Role → ScriptSoFar
begun_with told datagram role =
    record told { under_way = under_way_with told.under_way role datagram }

abbrev pub Tells : CaptureOptions → ScriptSoFar → Option ℕ → DatagramValue → ScriptSoFar → Type 0
Tells options old time datagram new =
    (role : Role) × IsRoleIn (found_with old datagram) datagram role
    × (lacks role datagram.is_whole ≡ false) × (new ≡ told_of
    options.call (begun_with (found_with old datagram) datagram role) time datagram.octets role)

-- one fragment more: with the last one the datagram that is put together is told, at its time
abbrev pub told_whole : Option ℕ → ScriptSoFar → Option ℕ → Option WholeValue → ScriptSoFar
told_whole asked told time None = told
told_whole asked told time (Some whole) = told_of asked (record told {
  counts = counts_of_whole told.counts;
}) time whole.octets whole.role

abbrev pub told_fragment : Option ℕ → ScriptSoFar → Option ℕ → FragmentValue → ScriptSoFar
told_fragment asked told time fragment =
    told_whole asked (record told { under_way = (put_together told.under_way fragment).0 })
    time (put_together told.under_way fragment).1

abbrev pub TellsPacket : CaptureOptions → ScriptSoFar → Option ℕ → Found → ScriptSoFar → Type 0
TellsPacket options old time (Datagram datagram) new = Tells options old time datagram new
TellsPacket options old time (Fragment fragment) new =
    new ≡ told_fragment options.call old time fragment

-- some is lacking of a datagram that one of the two sent, so that it is not told
abbrev pub IsLackingIn : ScriptSoFar → Found → Type 0
IsLackingIn told (Datagram datagram) = (role : Role)
    × IsRoleIn (found_with told datagram) datagram role × (lacks role datagram.is_whole ≡ true)
IsLackingIn told (Fragment fragment) = ⊥

abbrev pub IsLacking : ScriptSoFar → TimedPacket → Type 0
IsLacking told captured = IsLackingIn told captured.found

-- what was found in the records of a capture, one by one
abbrev pub TellsFound : CaptureOptions → ScriptSoFar → Option TimedPacket → ScriptSoFar → Type 0
TellsFound options old None new = new ≡ old
TellsFound options old (Some captured) new =
    TellsPacket options old captured.time captured.found new

abbrev pub TellsAll : CaptureOptions
    → ScriptSoFar → List (Option TimedPacket) → ScriptSoFar → Type 0
TellsAll options old [] new = new ≡ old
TellsAll options old (found ∷ more) new =
    (next : ScriptSoFar) × TellsFound options old found next × TellsAll options next more new

-- 40 s after the last tick of a datagram: a thousand ticks more
abbrev pub script_lines : ScriptSoFar → List (List ℕ)
script_lines told = told.lines ++ tick_lines told.ticks 1000
