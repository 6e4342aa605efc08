-- THE LOG of an engine: what it met and what it did. (This project's profile.) Logs have the newest first.
use Rattle.std.specs.Prelude.{◌≡◌, ℕ, ◌+◌, ◌*◌, ◌<◌, ◌≤◌, ◌⊎◌, min, max, Bool, true, false, IsTrue, ◌↔◌, nat_eq, not, ◌-◌, ◌^◌, List, [], ◌∷◌, ◌++◌, length, Option, Some, None}
use Rattle.std.specs.List.{All, count_by, flat_map, list_any}
use Rattle.fax_gateway.specs.Setups.{Setup}
use Rattle.fax_timers.specs.Moments.{is_due}
use Rattle.fax_gateway.specs.Events.{Event, Ring, FromCalling, FromCalled, Tick, Placed, Given, clock, rings}
use Rattle.fax_call.specs.Writings.{Writing}
use Rattle.fax_gateway.specs.Reached.{GatewayValue}
use Rattle.fax_gateway.specs.CallingLegs.{calling_leg, decided_calling, idle_after}
use Rattle.fax_gateway.specs.CalledLegs.{decided_called}
use Rattle.fax_gateway.specs.BothLegs.{both_legs}
use Rattle.fax_gateway.specs.Due.{due_at}
use Rattle.fax_gateway.specs.Reached.{IsReachedBy}
use Rattle.fax_gateway.specs.declared.fault.RingFault.{RingFault}
use Rattle.fax_gateway.specs.declared.fault.RingFault.TheVariants as ring_faults
use Rattle.fax_gateway.specs.declared.leg.Leg.{Leg}
use Rattle.fax_gateway.specs.declared.driven.Driven.{Driven}
use Rattle.fax_gateway.specs.declared.leg.Leg.TheVariants as legs
use Rattle.fax_gateway.specs.Wires.{Receipt, Came, Nothing, Failed, HandedDatagram, KnownWire, Grows, buffer_octets, greatest_count}

-- A ring, a datagram that was received, and a tick are accepted by the gateway, as an event with its answer, or refused: a
-- ring for a cause, a tick at a moment. A receive can bring no datagram. What is given is handed over, and the send may fail.
pub data Entry : Type 0 where
  Accepts : (event : Event) → Entry
  RefusesRing : (fault : RingFault) → Entry
  RefusesDatagram : (leg : Leg) → (octets : List ℕ) → Entry
  RefusesTick : (now : ℕ) → Entry
  ReceivesNothing : (leg : Leg) → Entry
  FailsToReceive : (leg : Leg) → Entry
  Sends : (leg : Leg) → (octets : List ℕ) → (fails : Bool) → Entry

-- ---- what a log tells

-- of the trace: the events that were accepted
abbrev pub events_in : Entry → List Event
events_in (Accepts event) = event ∷ []
events_in (RefusesRing fault) = []
events_in (RefusesDatagram at octets) = []
events_in (RefusesTick now) = []
events_in (ReceivesNothing at) = []
events_in (FailsToReceive at) = []
events_in (Sends at octets fails) = []

abbrev pub events : List Entry → List Event
events log = flat_map events_in log

-- of the wire: what was received, each time into a buffer that is long enough for any datagram; and what was handed over
abbrev pub receipt_of_event : Event → List Receipt
receipt_of_event (Ring now number) = []
receipt_of_event (FromCalling octets now decided read) = Came legs.Calling buffer_octets octets ∷ []
receipt_of_event (FromCalled octets now decided) = Came legs.Called buffer_octets octets ∷ []
receipt_of_event (Tick now given) = []
receipt_of_event (Placed now connected) = []

abbrev pub receipts_in : Entry → List Receipt
receipts_in (Accepts event) = receipt_of_event event
receipts_in (RefusesRing fault) = []
receipts_in (RefusesDatagram at octets) = Came at buffer_octets octets ∷ []
receipts_in (RefusesTick now) = []
receipts_in (ReceivesNothing at) = Nothing at buffer_octets ∷ []
receipts_in (FailsToReceive at) = Failed at buffer_octets ∷ []
receipts_in (Sends at octets fails) = []

abbrev pub receipts : List Entry → List Receipt
receipts log = flat_map receipts_in log

abbrev pub sent_in : Entry → List HandedDatagram
sent_in (Accepts event) = []
sent_in (RefusesRing fault) = []
sent_in (RefusesDatagram at octets) = []
sent_in (RefusesTick now) = []
sent_in (ReceivesNothing at) = []
sent_in (FailsToReceive at) = []
sent_in (Sends at octets fails) = record { leg = at; octets = octets } ∷ []

abbrev pub sent : List Entry → List HandedDatagram
sent log = flat_map sent_in log

-- of refusals and failures
abbrev pub is_refused_ring : Entry → Bool
is_refused_ring (Accepts event) = false
is_refused_ring (RefusesRing fault) = true
is_refused_ring (RefusesDatagram at octets) = false
is_refused_ring (RefusesTick now) = false
is_refused_ring (ReceivesNothing at) = false
is_refused_ring (FailsToReceive at) = false
is_refused_ring (Sends at octets fails) = false

abbrev pub is_refused_event : Entry → Bool
is_refused_event (Accepts event) = false
is_refused_event (RefusesRing fault) = false
is_refused_event (RefusesDatagram at octets) = true
is_refused_event (RefusesTick now) = true
is_refused_event (ReceivesNothing at) = false
is_refused_event (FailsToReceive at) = false
is_refused_event (Sends at octets fails) = false

abbrev pub is_failed_receive : Entry → Bool
is_failed_receive (Accepts event) = false
is_failed_receive (RefusesRing fault) = false
is_failed_receive (RefusesDatagram at octets) = false
is_failed_receive (RefusesTick now) = false
is_failed_receive (ReceivesNothing at) = false
is_failed_receive (FailsToReceive at) = true
is_failed_receive (Sends at octets fails) = false

abbrev pub is_failed_send : Entry → Bool
is_failed_send (Accepts event) = false
is_failed_send (RefusesRing fault) = false
is_failed_send (RefusesDatagram at octets) = false
is_failed_send (RefusesTick now) = false
is_failed_send (ReceivesNothing at) = false
is_failed_send (FailsToReceive at) = false
is_failed_send (Sends at octets fails) = fails

-- how many of the last receives failed, one after the other
abbrev pub failed_in_a_row : List Receipt → ℕ
failed_in_a_row [] = 0
failed_in_a_row (Came at room octets ∷ earlier) = 0
failed_in_a_row (Nothing at room ∷ earlier) = 0
failed_in_a_row (Failed at room ∷ earlier) = failed_in_a_row earlier + 1

abbrev pub most_failed : ℕ
most_failed = 100

-- the last 100 receives all failed
abbrev pub HasFailed : List Entry → Type 0
HasFailed log = most_failed ≤ failed_in_a_row (receipts log)

-- ---- a turn

-- A datagram came on the leg, and was handed on at this moment.
abbrev pub IsFrom : Leg → ℕ → Event → Type 0
IsFrom at now (Ring moment number) = ⊥
IsFrom at now (FromCalling octets moment decided read) = (at ≡ legs.Calling) × (moment ≡ now)
IsFrom at now (FromCalled octets moment decided) = (at ≡ legs.Called) × (moment ≡ now)
IsFrom at now (Tick moment given) = ⊥
IsFrom at now (Placed moment connected) = ⊥

abbrev pub Comes : Leg → ℕ → Entry → Type 0
Comes at now (Accepts event) = IsFrom at now event
Comes at now (RefusesRing fault) = ⊥
Comes at now (RefusesDatagram on octets) = on ≡ at
Comes at now (RefusesTick moment) = ⊥
Comes at now (ReceivesNothing on) = ⊥
Comes at now (FailsToReceive on) = ⊥
Comes at now (Sends on octets fails) = ⊥

abbrev pub GivesNoDatagram : Leg → Entry → Type 0
GivesNoDatagram at entry = (entry ≡ ReceivesNothing at) ⊎ (entry ≡ FailsToReceive at)

abbrev pub most_datagrams : ℕ
most_datagrams = 16

-- A leg's receives in a turn: 16 datagrams come; or fewer, and then a receive brings none.
abbrev pub AreReceives : Leg → ℕ → List Entry → Type 0
AreReceives at now log = (All (Comes at now) log × (length log ≡ most_datagrams))
    ⊎ ((came : List Entry) × (last : Entry) × (log ≡ last ∷ came)
    × All (Comes at now) came × (length came < most_datagrams) × GivesNoDatagram at last)

-- What is given on a leg is handed over, once.
abbrev pub IsSent : Leg → Option (List ℕ) → List Entry → Type 0
IsSent at None log = log ≡ []
IsSent at (Some octets) log = (fails : Bool) × (log ≡ Sends at octets fails ∷ [])

-- Time goes on: the tick is accepted, and what it gives is sent, the calling leg first; or it is refused.
abbrev pub IsTick : ℕ → List Entry → Type 0
IsTick now log = ((given : Given) × (calling : List Entry) × (called : List Entry)
    × IsSent legs.Calling given.on_calling calling × IsSent legs.Called given.on_called called
    × (log ≡ called ++ (calling ++ Accepts (Tick now given) ∷ []))) ⊎ (log ≡ RefusesTick now ∷ [])

-- A turn: the receives of the calling leg, those of the called leg, and the tick.
pub record IsTurn (now : ℕ) (log : List Entry) : Type 0 where
  pub calling : List Entry
  pub called : List Entry
  pub tick : List Entry
  pub log_is : log ≡ tick ++ (called ++ calling)
  pub on_calling : AreReceives legs.Calling now calling
  pub on_called : AreReceives legs.Called now called
  pub ticks : IsTick now tick

-- ---- what is left after it

-- The wire carried what the log tells, from the one to the other. Its failures are those of the log, where their count did
-- not stop.
pub record Carries (log : List Entry) (before after : KnownWire) : Type 0 where
  pub received : Grows (receipts log) before.received after.received
  pub sent : Grows (sent log) before.sent after.sent
  pub failures : after.failures < greatest_count → after.failures
      ≡ before.failures + (count_by is_failed_receive log + count_by is_failed_send log)

-- what an entry made of the wire, by what its calls make of it: a receive on a leg, a send, or neither
abbrev pub GoesByEvent : {W : Type 0} → (Leg → W → W → Type 0) → Event → W → W → Type 0
GoesByEvent receives (Ring now number) old new = new ≡ old
GoesByEvent receives (FromCalling octets now decided read) old new = receives legs.Calling old new
GoesByEvent receives (FromCalled octets now decided) old new = receives legs.Called old new
GoesByEvent receives (Tick now given) old new = new ≡ old
GoesByEvent receives (Placed now connected) old new = new ≡ old

abbrev pub GoesBy : {W : Type 0}
    → (Leg → W → W → Type 0) → (Leg → List ℕ → Bool → W → W → Type 0) → Entry → W → W → Type 0
GoesBy receives sends (Accepts event) old new = GoesByEvent receives event old new
GoesBy receives sends (RefusesRing fault) old new = new ≡ old
GoesBy receives sends (RefusesDatagram at octets) old new = receives at old new
GoesBy receives sends (RefusesTick now) old new = new ≡ old
GoesBy receives sends (ReceivesNothing at) old new = receives at old new
GoesBy receives sends (FailsToReceive at) old new = receives at old new
GoesBy receives sends (Sends at octets fails) old new = sends at octets (not fails) old new

-- THE WIRE WENT from the one to the other by just the receives and sends of the log, one after the other: nothing else was done with
-- it.
abbrev pub WireGoes : {W : Type 0}
    → (Leg → W → W → Type 0) → (Leg → List ℕ → Bool → W → W → Type 0) → List Entry → W → W → Type 0
WireGoes receives sends [] old new = new ≡ old
WireGoes {W} receives sends (entry ∷ earlier) old new = (between : W)
    × WireGoes receives sends earlier old between × GoesBy receives sends entry between new

-- What is refused, after this trace, for want of memory, wants some: of the datagrams those alone that decide a slot, and a
-- tick only where something is due. A ring is refused as busy exactly where a call is on, and where none is, for want of a
-- number exactly where none is left: so that any other refusal is for want of memory.
abbrev pub decides_on : Setup → Writing → List Event → Leg → List ℕ → Bool
decides_on setup writes earlier legs.Calling octets =
    decided_calling (calling_leg setup earlier) octets
decides_on setup writes earlier legs.Called octets =
    decided_called writes (both_legs setup writes earlier).leg octets

abbrev pub IsRingRefused : Setup → List Event → RingFault → Type 0
IsRingRefused setup earlier fault =
    (fault ≡ ring_faults.Busy ↔ idle_after (calling_leg setup earlier) ≡ false)
    × (idle_after (calling_leg setup earlier) ≡ true
    → fault ≡ ring_faults.NoNumber ↔ 4294967296 ≤ rings earlier)

abbrev pub IsWanting : Setup → Writing → List Event → Entry → Type 0
IsWanting setup writes earlier (Accepts event) = Unit {0}
IsWanting setup writes earlier (RefusesRing fault) = IsRingRefused setup earlier fault
IsWanting setup writes earlier (RefusesDatagram at octets) =
    decides_on setup writes earlier at octets ≡ true
IsWanting setup writes earlier (RefusesTick now) =
    is_due (due_at setup writes earlier) (max now (clock earlier)) ≡ true
IsWanting setup writes earlier (ReceivesNothing at) = Unit {0}
IsWanting setup writes earlier (FailsToReceive at) = Unit {0}
IsWanting setup writes earlier (Sends at octets fails) = Unit {0}

abbrev pub AreWanting : Setup → Writing → List Event → List Entry → Type 0
AreWanting setup writes trace [] = Unit {0}
AreWanting setup writes trace (entry ∷ earlier) =
    IsWanting setup writes (events earlier ++ trace) entry × AreWanting setup writes trace earlier

-- The events of the log followed on the trace, what was refused wanted memory, and the wire carried the rest.
pub record Happens (setup : Setup) (writes : Writing) (log : List Entry)
    (trace : List Event) (gateway : GatewayValue) (before after : KnownWire) : Type 0 where
  pub reached : IsReachedBy setup writes (events log ++ trace) gateway
  pub wanting : AreWanting setup writes trace log
  pub carried : Carries log before after

-- counts stop at the greatest
abbrev pub counted : ℕ → ℕ
counted n = min n greatest_count

-- what a driver keeps
pub record DriverValue : Type 0 where
  pub failed_in_a_row : ℕ
  pub events_refused : ℕ
  pub receives_failed : ℕ
  pub sends_failed : ℕ

-- Both counts rose by as many, each where it did not stop: what a gateway refused for want of memory, and what is told as refused.
abbrev pub RiseAlike : (refusals refusals' told told' : ℕ) → Type 0
RiseAlike refusals refusals' told told' =
    (n : ℕ) × (refusals' < greatest_count → refusals' ≡ refusals + n)
    × (told' < greatest_count → told' ≡ told + n)

-- A driver did all this.
pub record HasMade (log : List Entry) (driver : DriverValue) : Type 0 where
  pub row : driver.failed_in_a_row ≡ min (failed_in_a_row (receipts log)) most_failed
  pub events_refused : driver.events_refused ≡ counted (count_by is_refused_event log)
  pub receives_failed : driver.receives_failed ≡ counted (count_by is_failed_receive log)
  pub sends_failed : driver.sends_failed ≡ counted (count_by is_failed_send log)

-- So the log has as many datagrams and ticks that are refused as the gateway refused: none is told so that was not asked for.
abbrev pub RefusalsAreAsked : Type 0
RefusalsAreAsked = (log earlier : List Entry) (old new : DriverValue) (refusals refusals' : ℕ)
    → HasMade earlier old → HasMade (log ++ earlier) new
    → RiseAlike refusals refusals' old.events_refused new.events_refused
    → refusals' < greatest_count
    → new.events_refused < greatest_count → refusals' ≡ refusals + count_by is_refused_event log

-- ---- a run

abbrev pub greatest_moment : ℕ
greatest_moment = 2 ^ 64 - 1

-- the moment of a turn: turns are 40 ms apart
abbrev pub moment_of : ℕ → ℕ → ℕ
moment_of start turn = min (start + 40 * turn) greatest_moment

-- It rings: the ring is accepted, or refused.
abbrev pub IsRing : ℕ → List Entry → Type 0
IsRing now log = ((number : ℕ) × (log ≡ Accepts (Ring now number) ∷ []))
    ⊎ ((fault : RingFault) × (log ≡ RefusesRing fault ∷ []))

abbrev pub IsRingIf : Bool → ℕ → List Entry → Type 0
IsRingIf false now log = log ≡ []
IsRingIf true now log = IsRing now log

-- A round of a run: it rings where it is to, and then a turn.
abbrev pub IsRound : ℕ → Bool → List Entry → Type 0
IsRound now rings log = (ring : List Entry)
    × (turn : List Entry) × (log ≡ turn ++ ring) × IsRingIf rings now ring × IsTurn now turn

-- The rounds of a run, one after the other, until the last 100 receives failed.
abbrev pub log_of : List (List Entry) → List Entry
log_of rounds = flat_map (λ round. round) rounds

abbrev pub AreRounds : (start : ℕ) → (rings : List ℕ) → List (List Entry) → Type 0
AreRounds start rings [] = Unit {0}
AreRounds start rings (round ∷ earlier) = IsRound (moment_of start (length earlier)) (list_any
    (λ turn. nat_eq turn (length earlier)) rings) round
    × (failed_in_a_row (receipts (log_of earlier)) < most_failed) × AreRounds start rings earlier

-- What a run tells: of the turns that were to be, all are made, but where the last 100 receives failed.
pub record Tells (wanted : ℕ) (rounds : List (List Entry)) (driven : Driven) : Type 0 where
  pub turns : driven.turns ≡ length rounds
  pub rings_refused : driven.rings_refused ≡ count_by is_refused_ring (log_of rounds)
  pub events_refused : driven.events_refused ≡ count_by is_refused_event (log_of rounds)
  pub sends_failed : driven.sends_failed ≡ count_by is_failed_send (log_of rounds)
  pub receives_failed : driven.receives_failed ≡ count_by is_failed_receive (log_of rounds)
  pub stopped : IsTrue driven.stopped ↔ HasFailed (log_of rounds)
  pub all : driven.stopped ≡ false → length rounds ≡ wanted
  pub at_most : length rounds ≤ wanted

-- ---- the steps of a turn

-- one receive: a datagram came, or none
abbrev pub IsReceive : Bool → Leg → ℕ → Entry → Type 0
IsReceive true at now entry = Comes at now entry
IsReceive false at now entry = GivesNoDatagram at entry

-- a datagram of these octets was handed on, and accepted or refused
pub record IsHanded (accepted : Bool) (at : Leg) (octets : List ℕ) (entry : Entry) : Type 0 where
  pub receipt : receipts_in entry ≡ Came at buffer_octets octets ∷ []
  pub refused : is_refused_event entry ≡ not accepted
  pub none_sent : sent_in entry ≡ []
  pub received : is_failed_receive entry ≡ false
  pub sends_none : is_failed_send entry ≡ false

-- it happened, and a driver that did all that is in `earlier` did it
pub record Steps (setup : Setup)
    (writes : Writing) (log : List Entry) (trace : List Event) (earlier : List Entry)
    (gateway : GatewayValue) (before after : KnownWire) (driver : DriverValue) : Type 0 where
  pub happens : Happens setup writes log trace gateway before after
  pub made : HasMade (log ++ earlier) driver
