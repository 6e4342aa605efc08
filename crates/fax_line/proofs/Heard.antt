-- What becomes of the peers of a line's legs.
use Rattle.std.proofs.Common.{◌≡◌, ℕ, Bool, List, [], ◌∷◌, ◌++◌, Option, None, is_some, refl, sym, ◌∙◌, ap, subst, arith}
use Rattle.fax_call.specs.Writings.{Writing}
use Rattle.fax_gateway.specs.declared.leg.Leg.{Leg}
use Rattle.fax_gateway.specs.declared.leg.Leg.TheVariants as legs
use Rattle.fax_gateway.specs.declared.turn_report.TurnReport.{TurnReport}
use Rattle.fax_gateway.specs.Events.{Event, Ring, FromCalling, FromCalled, Tick, Placed}
use Rattle.fax_gateway.specs.Reached.{GatewayValue, IsReachedBy}
use Rattle.fax_gateway.specs.Setups.{Setup}
use Rattle.fax_gateway.specs.Wires.{KnownWire}
use Rattle.fax_gateway.specs.Turns.{TellTicks, call_of_rep}
use Rattle.fax_gateway.specs.Driving.{Accepts, DriverValue, Entry, FailsToReceive, GoesBy, HasMade, Happens, ReceivesNothing, RefusesDatagram, RefusesRing, RefusesTick, Sends, WireGoes, events}
use Rattle.fax_gateway.proofs.DrivingLemmas.{grows_none, happens_more}
use Rattle.fax_wires.specs.repeat.Peers.{HearsOn, HearsWhere, PeerValue, Peers, change_on, settled}
use Rattle.fax_wires.specs.repeat.Policies.{IsToldAs}
use Rattle.fax_wires.specs.repeat.Telling.{hears_same}
use Rattle.fax_wires.proofs.repeat.Hearing.{hears_where_more}
use Rattle.fax_wires.specs.holding.Holding.{Ceases, HoldingValue, TellsPeers}
use Rattle.fax_wires.specs.holding.Storing.{handed_by}
use Rattle.fax_wires.proofs.holding.Clocks.{then_time, time_then}
use Rattle.fax_wires.proofs.holding.Held.{grows_none_on, held_later, holds_still}
use Rattle.fax_wires.proofs.holding.Telling.{ceases_told, told_ceases, told_more, told_same, told_stays}
use Rattle.fax_line.specs.declared.asked.LineRequest.{LineRequest}
use Rattle.fax_line.specs.declared.asked.LineRequest.TheVariants as asked
use Rattle.fax_line.specs.Actions.{Drives, Goes, LineValue, TellsTurn, TellsWire, Turns}
use Rattle.fax_line.specs.LegPeers.{HearBoth, cut_if, peers_after, settled_both}
use Rattle.fax_line.proofs.Goings.{goes_more, goes_peers, line_of, wire_first}

-- where there is no line to ask
pub after_none : (what : LineRequest) (peers : Peers) → peers_after what None peers ≡ peers
after_none (asked.Ring ringing) peers = refl
after_none (asked.Peer peering) peers = refl
after_none (asked.Connect connecting) peers = refl
after_none asked.NotConnected peers = refl
after_none (asked.HangUp hanging_up) peers = refl

-- ---- what a wire makes of a log

hear_on : (at : Leg) (old new : Peers) → HearsOn at old new → HearBoth old new
hear_on legs.Calling old new hears = record { calling = hears.hears; called = subst (λ (o : Option PeerValue). HearsWhere old.called o) (sym hears.beside) (hears_same old.called) }
hear_on legs.Called old new hears = record { calling = subst (λ (o : Option PeerValue). HearsWhere old.calling o) (sym hears.beside) (hears_same old.calling); called = hears.hears }

hear_same : (old new : Peers) → new ≡ old → HearBoth old new
hear_same old new same = subst (λ (p : Peers). HearBoth old p) (sym same) record { calling = hears_same old.calling; called = hears_same old.called }

hear_more : (old mid new : Peers) → HearBoth old mid → HearBoth mid new → HearBoth old new
hear_more old mid new first second = record {
  calling = hears_where_more old.calling mid.calling new.calling first.calling second.calling;
  called = hears_where_more old.called mid.called new.called first.called second.called;
}

-- a send leaves both
abbrev pub SendStays : Leg → List ℕ → Bool → Peers → Peers → Type 0
SendStays at octets is_sent old new = new ≡ old

hear_by : (entry : Entry) (old new : Peers) → GoesBy HearsOn SendStays entry old new → HearBoth old new
hear_by (Accepts (Ring now number)) old new goes = hear_same old new goes
hear_by (Accepts (FromCalling octets now decided read)) old new goes = hear_on legs.Calling old new goes
hear_by (Accepts (FromCalled octets now decided)) old new goes = hear_on legs.Called old new goes
hear_by (Accepts (Tick now given)) old new goes = hear_same old new goes
hear_by (Accepts (Placed now connected)) old new goes = hear_same old new goes
hear_by (RefusesRing fault) old new goes = hear_same old new goes
hear_by (RefusesDatagram at octets) old new goes = hear_on at old new goes
hear_by (RefusesTick now) old new goes = hear_same old new goes
hear_by (ReceivesNothing at) old new goes = hear_on at old new goes
hear_by (FailsToReceive at) old new goes = hear_on at old new goes
hear_by (Sends at octets fails) old new goes = hear_same old new goes

pub hear_over : (log : List Entry) (old new : Peers) → WireGoes HearsOn SendStays log old new → HearBoth old new
hear_over [] old new goes = hear_same old new goes
hear_over (entry ∷ earlier) old new goes = hear_more old goes.0 new (hear_over earlier old goes.0 goes.1) (hear_by entry goes.0 new goes.2)

-- and before it time goes on
pub hear_later : (old mid new : Peers) → mid ≡ old → HearBoth mid new → HearBoth old new
hear_later old mid new same hear = subst (λ (p : Peers). HearBoth p new) same hear

-- ---- a wire that is told of the peers

pub tells_line :
    (gateway : GatewayValue) (driver : DriverValue) (a b : KnownWire) (m n : Option ℕ) (h k : HoldingValue) (p q : Peers) (x : TurnReport) → IsToldAs a b → TellsPeers h k
    → TellsWire (line_of gateway driver a m h p x) (line_of gateway driver b n k q x)
tells_line gateway driver a b m n h k p q x told tells = record { gateway = refl; driver = refl; wire = told; holding = tells; turned = refl }

told_then : (a b c : KnownWire) → IsToldAs a b → IsToldAs b c → IsToldAs a c
told_then a b c first second = record {
  failures = second.failures ∙ first.failures;
  received = grows_none_on a.received b.received c.received first.received second.received;
  sent = grows_none_on a.sent b.sent c.sent first.sent second.sent;
}

pub tells_more : (old mid new : LineValue) → TellsWire old mid → TellsWire mid new → TellsWire old new
tells_more old mid new first second = record {
  gateway = second.gateway ∙ first.gateway;
  driver = second.driver ∙ first.driver;
  wire = told_then old.wire mid.wire new.wire first.wire second.wire;
  holding = told_more old.holding mid.holding new.holding first.holding second.holding;
  turned = second.turned ∙ first.turned;
}

-- nothing is done
pub tells_none : (line : LineValue) → TellsWire line line
tells_none line = record { gateway = refl; driver = refl; wire = record { failures = refl; received = grows_none line.wire.received; sent = grows_none line.wire.sent }; holding = told_same line.holding; turned = refl }

-- ---- a turn

-- before it and after it the wire is told of the peers
pub goes_between : (now : ℕ) (old a b new : LineValue) → TellsWire old a → Goes (Turns now ∷ []) a b → TellsWire b new → Goes (Turns now ∷ []) old new
goes_between now old a b new before goes after =
    goes_more (Turns now ∷ []) [] old b new (goes_more [] (Turns now ∷ []) old a b (goes_peers old a before) goes) (goes_peers b new after)

-- what the wire is told after a log is not seen in it
wire_last : (setup : Setup) (writes : Writing) (log : List Entry) (trace : List Event) (a : KnownWire) (mid new : LineValue)
    → TellsWire mid new → Happens setup writes log trace mid.gateway a mid.wire → Happens setup writes log trace new.gateway a new.wire
wire_last setup writes log trace a mid new tells happens =
    happens_more setup writes log [] trace mid.gateway new.gateway a mid.wire new.wire happens
    record {
      reached = subst (λ (g : GatewayValue). IsReachedBy setup writes (events log ++ trace) g) (sym tells.gateway) happens.reached;
      wanting = tt;
      carried = record { received = tells.wire.received; sent = tells.wire.sent; failures = λ low. omega (arith, tells.wire.failures) };
    }

pub turn_between :
    (now : ℕ) (old a b new : LineValue) → TellsWire old a → a.peers ≡ settled_both (is_some (call_of_rep old.gateway.calling)) (is_some old.gateway.book.sending) old.peers → Drives now a b → TellsWire b new
    → new.peers ≡ cut_if legs.Called (is_some b.turned.report) b.peers → TellsTurn now old new
turn_between now old a b new before settles drives after cuts = record {
  tells = λ setup writes trace earlier writing reached made.
      let reached_then = subst (λ (g : GatewayValue). IsReachedBy setup writes trace g) (sym before.gateway) reached in
      let made_then = subst (λ (d : DriverValue). HasMade earlier d) (sym before.driver) made in
      let t = drives.tells setup writes trace earlier writing reached_then made_then in (
        t.0,
        t.1,
        wire_last setup writes t.0 trace old.wire b new after (wire_first setup writes t.0 trace old.gateway b.gateway old.wire a.wire b.wire reached before.wire t.2),
        subst (λ (d : DriverValue). HasMade (t.0 ++ earlier) d) (sym after.driver) t.3,
        subst (λ (x : TurnReport). TellTicks setup trace (events t.0 ++ trace) x.report x.kept x.refused x.gave_up) (sym after.turned) t.4,
        λ operations done.
            holds_still operations (handed_by t.0) b.holding new.holding
            (held_later t.0 old.holding a.holding b.holding (told_stays old.holding a.holding before.holding) t.5 operations done) (told_stays b.holding new.holding after.holding),
      );
  peers = λ setup writes trace earlier writing reached made.
      let reached_then = subst (λ (g : GatewayValue). IsReachedBy setup writes trace g) (sym before.gateway) reached in
      let made_then = subst (λ (d : DriverValue). HasMade earlier d) (sym before.driver) made in
      record {
        between = b.peers;
        hear = subst (λ (p : Peers). HearBoth p b.peers) settles (drives.hear setup writes trace earlier writing reached_then made_then);
        after = subst (λ (x : TurnReport). new.peers ≡ cut_if legs.Called (is_some x.report) b.peers) (sym after.turned) cuts;
      };
  time = λ setup writes trace earlier writing reached made.
      let reached_then = subst (λ (g : GatewayValue). IsReachedBy setup writes trace g) (sym before.gateway) reached in
      let made_then = subst (λ (d : DriverValue). HasMade earlier d) (sym before.driver) made in
      time_then now old.holding b.holding new.holding
      (then_time now old.holding a.holding b.holding before.holding.clock (drives.time setup writes trace earlier writing reached_then made_then))
      after.holding.clock;
}

-- before it two things are told
pub settled_is :
    (a b c : Peers) (is_on is_sending y z : Bool) → y ≡ is_on → z ≡ is_sending → b ≡ change_on legs.Calling (settled y) a → c ≡ change_on legs.Called (settled z) b → c ≡ settled_both is_on is_sending a
settled_is a b c is_on is_sending y z is_y is_z first second =
    second ∙ ap (λ (p : Peers). change_on legs.Called (settled z) p) first ∙ ap (λ (v : Bool). settled_both v z a) is_y ∙ ap (λ (v : Bool). settled_both is_on v a) is_z

-- ---- what is asked

-- a leg that was freed stays free, where its wire is told of its peer before it and after it
pub freed_last : (at : Leg) (old mid new : LineValue) → Ceases at old.holding mid.holding → TellsWire mid new → Ceases at old.holding new.holding
freed_last at old mid new freed tells = ceases_told at old.holding mid.holding new.holding freed tells.holding

pub freed_first : (at : Leg) (old mid new : LineValue) → TellsWire old mid → Ceases at mid.holding new.holding → Ceases at old.holding new.holding
freed_first at old mid new tells freed = told_ceases at old.holding mid.holding new.holding tells.holding freed
