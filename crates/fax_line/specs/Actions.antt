-- A line: what it is, and what it goes through. Lists have the newest first. (This project's profile.)
use Rattle.std.specs.Prelude.{◌≡◌, ℕ, ◌<◌, ◌↔◌, Bool, true, false, IsTrue, List, [], ◌∷◌, ◌++◌, Option, Some, None, is_some, Result, Ok, Err}
use Rattle.fax_timers.specs.Moments.{is_due}
use Rattle.fax_call.specs.Writings.{IsWriting, Writing}
use Rattle.fax_gateway.specs.declared.fault.PlaceFault.{PlaceFault}
use Rattle.fax_gateway.specs.declared.fault.PlaceFault.TheVariants as place_faults
use Rattle.fax_gateway.specs.declared.fault.RingFault.{RingFault}
use Rattle.fax_gateway.specs.declared.leg.Leg.{Leg}
use Rattle.fax_gateway.specs.declared.leg.Leg.TheVariants as legs
use Rattle.fax_gateway.specs.declared.turn_report.TurnReport.{TurnReport}
use Rattle.fax_gateway.specs.Asking.{asked_after}
use Rattle.fax_gateway.specs.Due.{due_at}
use Rattle.fax_gateway.specs.Events.{Event, Placed, Ring}
use Rattle.fax_gateway.specs.Reached.{GatewayValue, IsReachedBy}
use Rattle.fax_gateway.specs.Restored.{RestoredCall}
use Rattle.fax_gateway.specs.Setups.{AreSetWith, Setup}
use Rattle.fax_gateway.specs.Wires.{KnownWire}
use Rattle.fax_gateway.specs.Driving.{Accepts, DriverValue, Entry, HasMade, Happens, IsTurn, RefusesRing, RiseAlike, events, failed_in_a_row, most_failed, receipts}
use Rattle.fax_gateway.specs.Turns.{TellTicks, call_of_rep}
use Rattle.fax_wires.specs.repeat.Peers.{Peers}
use Rattle.fax_wires.specs.repeat.Policies.{IsToldAs}
use Rattle.fax_wires.specs.holding.Holding.{Ceases, HoldingValue, IsToldTime, Stays, TellsPeers}
use Rattle.fax_wires.specs.holding.Storing.{HoldsByLog}
use Rattle.fax_line.specs.declared.asked.LineAnswer.{LineAnswer}
use Rattle.fax_line.specs.declared.asked.LineAnswer.TheVariants as answered
use Rattle.fax_line.specs.declared.asked.LineRequest.{LineRequest}
use Rattle.fax_line.specs.declared.asked.LineRequest.TheVariants as asked
use Rattle.fax_line.specs.LegPeers.{HearBoth, TurnsPeers}

-- its gateway, what drives that, what is known of its wire and from when on that has something to do, what the wire holds back,
-- the peers of its legs, and what the last turn told
pub record LineValue : Type 0 where
  pub gateway : GatewayValue
  pub driver : DriverValue
  pub wire : KnownWire
  pub wire_due : Option ℕ
  pub holding : HoldingValue
  pub peers : Peers
  pub turned : TurnReport

-- before the first turn
abbrev pub no_turn : TurnReport
no_turn = record {
  goes_on = true;
  report = None;
  kept = None;
  refused = None;
  ended = None;
  gave_up = None;
  dialled = None;
  asked = None;
}

-- What is done with a line: it is turned, or left at rest where it has its turn; something is asked of it, which it answers; or it
-- is told that something may have come for it.
pub data Action : Type 0 where
  Turns : (now : ℕ) → Action
  Rests : (now : ℕ) → Action
  Asks : (now : ℕ) → (what : LineRequest) → (answer : Option LineAnswer) → Action
  Wakes : Action

-- the log of a ring: the call of this number begins, or it is refused for this cause
abbrev pub IsRung : ℕ → Result ℕ RingFault → List Entry → Type 0
IsRung now (Ok number) log = log ≡ Accepts (Ring now number) ∷ []
IsRung now (Err fault) log = log ≡ RefusesRing fault ∷ []

-- The log of a placing, after this trace: the call of the job that is asked for begins, connected or not. Refused it is where none is
-- asked for, or for want of memory; then nothing happens.
abbrev pub IsPlaced : Setup
    → Writing → List Event → ℕ → Bool → Result (Unit {0}) PlaceFault → List Entry → Type 0
IsPlaced setup writes trace now connected (Ok done) log = log ≡ Accepts (Placed now connected) ∷ []
IsPlaced setup writes trace now connected (Err fault) log =
    (log ≡ []) × (fault ≡ place_faults.NotAsked ↔ asked_after setup writes trace ≡ None)

-- what a placing answers
abbrev pub Placing : Type 0
Placing = Result (Unit {0}) PlaceFault

-- what asks for a placing, connected or not
abbrev pub IsPlacing : Bool → LineRequest → Type 0
IsPlacing true (asked.Connect connecting) = Unit {0}
IsPlacing false asked.NotConnected = Unit {0}
IsPlacing connected what = ⊥

-- THE LOG OF WHAT IS ASKED OF A LINE, after this trace: a line that is there answers, and to what it was asked. A peer, and that its
-- call is gone, are no events of the gateway; and where there is no way to a peer nothing happens.
abbrev pub IsAsked : Setup
    → Writing → List Event → ℕ → LineRequest → Option LineAnswer → List Entry → Type 0
IsAsked setup writes trace now (asked.Ring ringing) (Some (answered.Rung result)) log =
    IsRung now result log
IsAsked setup writes trace now (asked.Peer peering) (Some answered.Done) log = log ≡ []
IsAsked setup writes trace now (asked.Peer peering) (Some answered.NoRoute) log = log ≡ []
IsAsked setup writes trace now (asked.Connect connecting) (Some (answered.Placed result)) log =
    IsPlaced setup writes trace now true result log
IsAsked setup writes trace now (asked.Connect connecting) (Some answered.NoRoute) log = log ≡ []
IsAsked setup writes trace now asked.NotConnected (Some (answered.Placed result)) log =
    IsPlaced setup writes trace now false result log
IsAsked setup writes trace now (asked.HangUp hanging_up) (Some answered.Done) log = log ≡ []
IsAsked setup writes trace now what answer log = ⊥

-- Left at rest, after this trace: nothing is done, and what is due lies later, so that a tick would have given nothing.
abbrev pub IsRest : Setup → Writing → List Event → ℕ → List Entry → Type 0
IsRest setup writes trace now log = (log ≡ []) × (is_due (due_at setup writes trace) now ≡ false)

abbrev pub IsStep : Setup → Writing → List Event → Action → List Entry → Type 0
IsStep setup writes trace (Turns now) log = IsTurn now log
IsStep setup writes trace (Rests now) log = IsRest setup writes trace now log
IsStep setup writes trace (Asks now what answer) log =
    IsAsked setup writes trace now what answer log
IsStep setup writes trace Wakes log = log ≡ []

-- the log of these actions, one after the other, after this trace
abbrev pub AreSteps : Setup → Writing → List Event → List Action → List Entry → Type 0
AreSteps setup writes trace [] log = log ≡ []
AreSteps setup writes trace (action ∷ earlier) log = (newer : List Entry) × (older : List Entry)
    × (log ≡ newer ++ older) × IsStep setup writes (events older ++ trace) action newer
    × AreSteps setup writes trace earlier older

-- By these actions a line came from the one state to the other: whatever trace led to its gateway goes on with the events of
-- their log, and its wire carried the rest. What its driver told as refused is what its gateway refused.
pub record Goes (actions : List Action) (old new : LineValue) : Type 0 where
  pub goes : (setup : Setup) (writes : Writing) (trace : List Event) (earlier : List Entry)
      → IsWriting writes → IsReachedBy setup writes trace old.gateway
      → HasMade earlier old.driver → (log : List Entry) × AreSteps setup writes trace actions log
      × Happens setup writes log trace new.gateway old.wire new.wire
      × HasMade (log ++ earlier) new.driver
  pub refusals : RiseAlike old.gateway.refusals
      new.gateway.refusals old.driver.events_refused new.driver.events_refused

-- A gateway is driven: of the trace that this made longer, what the ticks told by which it did. What its wire holds back is what was handed
-- over, the wire was told the moment, and the peers of its legs stay, or are heard.
pub record Drives (now : ℕ) (old new : LineValue) : Type 0 where
  pub tells : (setup : Setup) (writes : Writing) (trace : List Event) (earlier : List Entry)
      → IsWriting writes
      → IsReachedBy setup writes trace old.gateway → HasMade earlier old.driver → (log : List Entry)
      × IsTurn now log × Happens setup writes log trace new.gateway old.wire new.wire
      × HasMade (log ++ earlier) new.driver × TellTicks setup trace (events log
      ++ trace) new.turned.report new.turned.kept new.turned.refused new.turned.gave_up
      × HoldsByLog log old.holding new.holding
  pub hear : (setup : Setup) (writes : Writing) (trace : List Event) (earlier : List Entry)
      → IsWriting writes → IsReachedBy setup writes trace old.gateway
      → HasMade earlier old.driver → HearBoth old.peers new.peers
  pub time : (setup : Setup) (writes : Writing) (trace : List Event) (earlier : List Entry)
      → IsWriting writes → IsReachedBy setup writes trace old.gateway
      → HasMade earlier old.driver → IsToldTime now old.holding new.holding

-- A turn, and what it told: it was driven, and its wire was told the moment. Of the calls of its peers no more is known where no call was on; the peers of its legs stay, or
-- are heard; and the called leg is cut where a job was reported.
pub record TellsTurn (now : ℕ) (old new : LineValue) : Type 0 where
  pub tells : (setup : Setup) (writes : Writing) (trace : List Event) (earlier : List Entry)
      → IsWriting writes
      → IsReachedBy setup writes trace old.gateway → HasMade earlier old.driver → (log : List Entry)
      × IsTurn now log × Happens setup writes log trace new.gateway old.wire new.wire
      × HasMade (log ++ earlier) new.driver × TellTicks setup trace (events log
      ++ trace) new.turned.report new.turned.kept new.turned.refused new.turned.gave_up
      × HoldsByLog log old.holding new.holding
  pub peers : (setup : Setup) (writes : Writing) (trace : List Event) (earlier : List Entry)
      → IsWriting writes → IsReachedBy setup writes trace old.gateway → HasMade earlier old.driver
      → TurnsPeers (is_some new.turned.report) (is_some (call_of_rep old.gateway.calling))
      (is_some old.gateway.book.sending) old.peers new.peers
  pub time : (setup : Setup) (writes : Writing) (trace : List Event) (earlier : List Entry)
      → IsWriting writes → IsReachedBy setup writes trace old.gateway
      → HasMade earlier old.driver → IsToldTime now old.holding new.holding

-- Its wire is told of the peers of its legs: what it holds back stays, and nothing else of the line changes.
pub record TellsWire (old new : LineValue) : Type 0 where
  pub gateway : new.gateway ≡ old.gateway
  pub driver : new.driver ≡ old.driver
  pub wire : IsToldAs old.wire new.wire
  pub holding : TellsPeers old.holding new.holding
  pub turned : new.turned ≡ old.turned

-- the leg on which a call begins by what was asked: by a ring the calling one, by a placing the called one
abbrev pub leg_begun : Option LineAnswer → Option Leg
leg_begun (Some (answered.Rung (Ok number))) = Some legs.Calling
leg_begun (Some (answered.Rung (Err fault))) = None
leg_begun (Some (answered.Placed (Ok done))) = Some legs.Called
leg_begun (Some (answered.Placed (Err fault))) = None
leg_begun (Some answered.NoRoute) = None
leg_begun (Some answered.Done) = None
leg_begun None = None

-- What was handed over there before is sent no more; of the calling leg nothing is held back then, and it is not silenced. Where no call
-- begins what the wire holds back stays.
abbrev pub Frees : Option Leg → HoldingValue → HoldingValue → Type 0
Frees (Some at) old new = Ceases at old new
Frees None old new = Stays old new

-- Where no call begins nothing changes of the line by a ring, or where a machine was not reached; by anything else nothing but the
-- peers of its legs, and what its wire makes of that.
abbrev pub IsRefused : LineRequest → LineValue → LineValue → Type 0
IsRefused (asked.Ring ringing) old new = new ≡ old
IsRefused asked.NotConnected old new = new ≡ old
IsRefused what old new = TellsWire old new

-- no event came to it, whatever is set for it; and it is restored with these calls
pub record BeginsWith (calls : List RestoredCall) (line : LineValue) : Type 0 where
  pub gateway : (setup : Setup) (writes : Writing)
      → AreSetWith setup line.gateway.settings calls → IsReachedBy setup writes [] line.gateway
  pub driver : HasMade [] line.driver

-- and with none
abbrev pub IsNew : LineValue → Type 0
IsNew line = BeginsWith [] line

-- whether one of the last 100 receives did not fail
pub record TellsWhether (goes_on : Bool) (driver : DriverValue) : Type 0 where
  pub tells : (made : List Entry)
      → HasMade made driver → IsTrue goes_on ↔ (failed_in_a_row (receipts made) < most_failed)
