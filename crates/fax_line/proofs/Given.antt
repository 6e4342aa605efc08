-- Over a run the peer of a called leg is the one that it was given.
use Rattle.std.proofs.Common.{◌≡◌, ◌<◌, ℕ, max, Bool, true, false, not, nat_eq, List, [], ◌∷◌, ◌++◌, length, slice_index_or, Option, Some, None, is_some, option_map, Ok, Err, refl, sym, subst, arith, inl, inr, if◌then◌else◌}
use Rattle.std.specs.declared.net.socket_addr.SocketAddr.{SocketAddr}
use Rattle.fax_call.specs.Writings.{IsWriting, Writing}
use Rattle.fax_gateway.specs.declared.leg.Leg.{Leg}
use Rattle.fax_gateway.specs.declared.leg.Leg.TheVariants as legs
use Rattle.fax_gateway.specs.Driving.{DriverValue, HasMade, events}
use Rattle.fax_gateway.specs.Reached.{GatewayValue, IsReachedBy}
use Rattle.fax_gateway.specs.Setups.{Setup}
use Rattle.fax_gateway.specs.Turns.{call_of_rep}
use Rattle.fax_wires.specs.declared.repeat.peers.Bounds.{Bounds}
use Rattle.fax_wires.specs.declared.repeat.peers.Peer.{Peer}
use Rattle.fax_wires.specs.repeat.Peers.{Hears, HearsWhere, PeerValue, Peers, bounded, change_on, cut_off, gone, no_bounds, said, settled}
use Rattle.fax_line.specs.declared.asked.LineAnswer.{LineAnswer}
use Rattle.fax_line.specs.declared.asked.LineAnswer.TheVariants as answered
use Rattle.fax_line.specs.declared.asked.LineRequest.{LineRequest}
use Rattle.fax_line.specs.declared.asked.LineRequest.TheVariants as asked
use Rattle.fax_line.specs.declared.settling.LineReport.{LineReport}
use Rattle.fax_line.specs.declared.settling.PageToStore.{PageToStore}
use Rattle.fax_line.specs.declared.settling.PutResult.{PutResult}
use Rattle.fax_line.specs.Actions.{Action, Goes, LineValue}
use Rattle.fax_line.specs.Operations.{AllStayHeld, AskFrees, AsksLine, IsFreed, LinesWent, VisitsLines, VisitsTell, WakesLine, actions_of}
use Rattle.fax_line.specs.GivenPeers.{CalledPeersAreGiven, CalledPeersAreGivenWithout, IsAddressOf, IsGiven, IsGivenAs, IsSomewhere, given_after, given_by, given_in, given_on, given_without, has_reported}
use Rattle.fax_line.specs.StoredRuns.{EndUnstored, EndsUnstored, IsRun, RanWithout}
use Rattle.fax_line.specs.LegPeers.{TurnsPeers, cut_if, peers_after, settled_both}
use Rattle.fax_line.specs.Places.{Passes, PlaceValue, RestsAt, StaysHeld, TellsVisit, TurnsAt, Visit}
use Rattle.fax_line.specs.Runs.{AskedOf, DoneOrder, Stored, Turned, Woken, latest, turned_in}
use Rattle.fax_line.specs.Settling.{EndTurns, EndsWhere, is_stored_in}

-- ---- one peer

no_two : (b : Bool) → b ≡ true → b ≡ false → ⊥
no_two true is other = cc
no_two false is other = cc

given_learned : (given : Option Peer) (address : Option SocketAddr) (learns : Bool) (bounds : Bounds) (new : SocketAddr) → learns ≡ true → IsGivenAs given address learns bounds → IsGivenAs given (Some new) false bounds
given_learned None address learns bounds new is was = absurd (no_two learns is was.1)
given_learned (Some peer) address learns bounds new is was = (address_learned peer.address address learns new is was.0, was.1)
  where
    address_learned : (given address : Option SocketAddr) (learns : Bool) (new : SocketAddr) → learns ≡ true → IsAddressOf given address learns → IsAddressOf given (Some new) false
    address_learned (Some said) address learns new is was = absurd (no_two learns is was.1)
    address_learned None address learns new is was = λ e. refl

abbrev IsOf : Option Peer → PeerValue → Type 0
IsOf given peer = peer.is_fixed ≡ false → IsGivenAs given peer.address peer.learns peer.bounds

given_heard : (given : Option Peer) (old new : PeerValue) → Hears old new → IsOf given old → IsOf given new
given_heard given old new (inl same) was = subst (λ (v : PeerValue). IsOf given v) (sym same) was
given_heard given old new (inr (inl again)) was = subst (λ (v : PeerValue). IsOf given v) (sym again) was
given_heard given old new (inr (inr (learns, address, is))) was =
    subst (λ (v : PeerValue). IsOf given v) (sym is) (λ free. given_learned given old.address old.learns old.bounds address learns (was free))

given_heard_where : (given : Option Peer) (old new : Option PeerValue) → HearsWhere old new → IsGiven given old → IsGiven given new
given_heard_where given None new hears was = subst (λ (o : Option PeerValue). IsGiven given o) (sym hears) tt
given_heard_where given (Some old) None hears was = absurd hears
given_heard_where given (Some old) (Some new) hears was = given_heard given old new hears was

-- what changes neither its address nor what is known of that
given_settled : (given : Option Peer) (is_on : Bool) (peer : Option PeerValue) → IsGiven given peer → IsGiven given (option_map (settled is_on) peer)
given_settled given is_on None was = tt
given_settled given is_on (Some peer) was = was

given_bounded : (given : Option Peer) (bounds : Bounds) (peer : Option PeerValue) → IsGiven given peer → IsGiven given (option_map (bounded bounds) peer)
given_bounded given bounds None was = tt
given_bounded given bounds (Some peer) was = was

given_gone : (given : Option Peer) (peer : Option PeerValue) → IsGiven given peer → IsGiven given (option_map gone peer)
given_gone given None was = tt
given_gone given (Some peer) was = was

-- none is given
cut_of : (b : Bool) (peer : PeerValue) → peer.is_fixed ≡ b → IsOf None (if b then peer else record peer { address = None; learns = false; bounds = no_bounds })
cut_of true peer is = λ free. absurd (no_two peer.is_fixed is free)
cut_of false peer is = λ free. (refl, refl)

given_cut : (peer : Option PeerValue) → IsGiven None (option_map cut_off peer)
given_cut None = tt
given_cut (Some peer) = cut_of peer.is_fixed peer refl

-- this one is given
said_as : (address : Option SocketAddr) → IsAddressOf address address (not (is_some address))
said_as None = λ learns. absurd (no_two true refl learns)
said_as (Some address) = (refl, refl)

given_said : (peer : Peer) (old : Option PeerValue) → IsGiven (Some peer) (option_map (said peer) old)
given_said peer None = tt
given_said peer (Some old) = λ free. (said_as peer.address, refl)

-- ---- what is asked, and a turn

given_on_leg : (at : Leg) (peer : Peer) (given : Option Peer) (old : Peers) → IsGiven given old.called → IsGiven (given_on at peer given) (change_on at (said peer) old).called
given_on_leg legs.Calling peer given old was = was
given_on_leg legs.Called peer given old was = given_said peer old.called

gone_on_leg : (at : Leg) (given : Option Peer) (old : Peers) → IsGiven given old.called → IsGiven given (change_on at gone old).called
gone_on_leg legs.Calling given old was = was
gone_on_leg legs.Called given old was = given_gone given old.called was

cut_calling : (b : Bool) (given : Option Peer) (old : Peers) → IsGiven given old.called → IsGiven given (cut_if legs.Calling b old).called
cut_calling true given old was = was
cut_calling false given old was = was

pub given_asked : (what : LineRequest) (answer : Option LineAnswer) (given : Option Peer) (old : Peers) → IsGiven given old.called → IsGiven (given_by what answer given) (peers_after what answer old).called
given_asked (asked.Ring ringing) None given old was = was
given_asked (asked.Ring ringing) (Some (answered.Rung (Ok number))) given old was = cut_calling ringing.forgets_peer given old was
given_asked (asked.Ring ringing) (Some (answered.Rung (Err fault))) given old was = was
given_asked (asked.Ring ringing) (Some (answered.Placed result)) given old was = was
given_asked (asked.Ring ringing) (Some answered.NoRoute) given old was = was
given_asked (asked.Ring ringing) (Some answered.Done) given old was = was
given_asked (asked.Peer peering) None given old was = was
given_asked (asked.Peer peering) (Some (answered.Rung result)) given old was = was
given_asked (asked.Peer peering) (Some (answered.Placed result)) given old was = was
given_asked (asked.Peer peering) (Some answered.NoRoute) given old was = was
given_asked (asked.Peer peering) (Some answered.Done) given old was = given_on_leg peering.leg peering.peer given old was
given_asked (asked.Connect connecting) None given old was = was
given_asked (asked.Connect connecting) (Some (answered.Rung result)) given old was = was
given_asked (asked.Connect connecting) (Some (answered.Placed (Ok done))) given old was = given_bounded (Some connecting.peer) no_bounds (option_map (said connecting.peer) old.called) (given_said connecting.peer old.called)
given_asked (asked.Connect connecting) (Some (answered.Placed (Err fault))) given old was = given_cut (option_map (said connecting.peer) old.called)
given_asked (asked.Connect connecting) (Some answered.NoRoute) given old was = was
given_asked (asked.Connect connecting) (Some answered.Done) given old was = was
given_asked asked.NotConnected None given old was = was
given_asked asked.NotConnected (Some (answered.Rung result)) given old was = was
given_asked asked.NotConnected (Some (answered.Placed (Ok done))) given old was = given_cut old.called
given_asked asked.NotConnected (Some (answered.Placed (Err fault))) given old was = was
given_asked asked.NotConnected (Some answered.NoRoute) given old was = was
given_asked asked.NotConnected (Some answered.Done) given old was = was
given_asked (asked.HangUp hanging_up) None given old was = was
given_asked (asked.HangUp hanging_up) (Some (answered.Rung result)) given old was = was
given_asked (asked.HangUp hanging_up) (Some (answered.Placed result)) given old was = was
given_asked (asked.HangUp hanging_up) (Some answered.NoRoute) given old was = was
given_asked (asked.HangUp hanging_up) (Some answered.Done) given old was = gone_on_leg hanging_up.leg given old was

cut_after : (b : Bool) (given : Option Peer) (peers : Peers) → IsGiven given peers.called → IsGiven (given_after b given) (cut_if legs.Called b peers).called
cut_after true given peers was = given_cut peers.called
cut_after false given peers was = was

pub given_turned : (given : Option Peer) (has_report is_on is_sending : Bool) (old new : Peers) → TurnsPeers has_report is_on is_sending old new → IsGiven given old.called → IsGiven (given_after has_report given) new.called
given_turned given has_report is_on is_sending old new turns was =
    subst (λ (p : Peers). IsGiven (given_after has_report given) p.called) (sym turns.after)
    (cut_after has_report given turns.between
    (given_heard_where given (settled_both is_on is_sending old).called turns.between.called turns.hear.called (given_settled given is_sending old.called was)))

-- ---- a run

somewhere_on : (setup : Setup) (writes : Writing) (actions : List Action) (old new : LineValue) → IsWriting writes → Goes actions old new → IsSomewhere setup writes old → IsSomewhere setup writes new
somewhere_on setup writes actions old new writing goes (trace, earlier, reached, made) =
    let x = goes.goes setup writes trace earlier writing reached made in (events x.0 ++ trace, x.0 ++ earlier, x.2.reached, x.3)

-- what is known of a line's called leg
record Has (setup : Setup) (writes : Writing) (given : Option Peer) (line : LineValue) : Type 0 where
  pub somewhere : IsSomewhere setup writes line
  pub is_given : IsGiven given line.peers.called

has_ended : (setup : Setup) (writes : Writing) (given : Option Peer) (b is_stored : Bool) (old new : PlaceValue) → EndsWhere b is_stored old new → Has setup writes given old.line → Has setup writes given new.line
has_ended setup writes given false is_stored old new same has = subst (λ (p : PlaceValue). Has setup writes given p.line) (sym same) has
has_ended setup writes given true is_stored old new (ends, turned) has = record {
  somewhere = (
    has.somewhere.0,
    has.somewhere.1,
    subst (λ (g : GatewayValue). IsReachedBy setup writes has.somewhere.0 g) (sym ends.gateway) has.somewhere.2,
    subst (λ (d : DriverValue). HasMade has.somewhere.1 d) (sym ends.driver) has.somewhere.3,
  );
  is_given = subst (λ (p : Peers). IsGiven given p.called) (sym ends.peers) has.is_given;
}

has_stayed : (setup : Setup) (writes : Writing) (given : Option Peer) (actions : List Action) (old new : PlaceValue) → IsWriting writes → Goes actions old.line new.line → StaysHeld old new → Has setup writes given old.line
    → Has setup writes given new.line
has_stayed setup writes given actions old new writing goes stays has = record {
  somewhere = somewhere_on setup writes actions old.line new.line writing goes has.somewhere;
  is_given = subst (λ (p : Peers). IsGiven given p.called) (sym stays.1) has.is_given;
}

has_visited : (setup : Setup) (writes : Writing) (given : Option Peer) (visit : Visit) (actions : List Action) (old new : PlaceValue) → IsWriting writes → Goes actions old.line new.line → TellsVisit visit old new
    → Has setup writes given old.line → Has setup writes (given_after (has_reported visit new) given) new.line
has_visited setup writes given Passes actions old new writing goes tells has = has_stayed setup writes given actions old new writing goes tells has
has_visited setup writes given (RestsAt now) actions old new writing goes tells has = has_stayed setup writes given actions old new writing goes tells.1 has
has_visited setup writes given (TurnsAt now) actions old new writing goes tells has = record {
  somewhere = somewhere_on setup writes actions old.line new.line writing goes has.somewhere;
  is_given =
      given_turned given (is_some new.line.turned.report) (is_some (call_of_rep old.line.gateway.calling)) (is_some old.line.gateway.book.sending) old.line.peers new.line.peers
      (tells.1.peers setup writes has.somewhere.0 has.somewhere.1 writing has.somewhere.2 has.somewhere.3) has.is_given;
}

has_asked : (setup : Setup) (writes : Writing) (given : Option Peer) (b : Bool) (what : LineRequest) (answer : Option LineAnswer) (actions : List Action) (old new : PlaceValue) → IsWriting writes → Goes actions old.line new.line
    → IsFreed b what answer old new → Has setup writes given old.line → Has setup writes (if b then given_by what answer given else given) new.line
has_asked setup writes given true what answer actions old new writing goes freed has = record {
  somewhere = somewhere_on setup writes actions old.line new.line writing goes has.somewhere;
  is_given = subst (λ (p : Peers). IsGiven (given_by what answer given) p.called) (sym freed.1) (given_asked what answer given old.line.peers has.is_given);
}
has_asked setup writes given false what answer actions old new writing goes same has = subst (λ (p : PlaceValue). Has setup writes given p.line) (sym same) has

module _ (setup : Setup) (writes : Writing) (writing : IsWriting writes) (number : ℕ) (other : PlaceValue) where
  -- of a line that is there
  record Stands (given : Option Peer) (lines : List PlaceValue) : Type 0 where
    pub there : number < length lines
    pub has : Has setup writes given (slice_index_or lines number other).line

  stands_ended : (given : Option Peer) (which is_stored : ℕ → Bool) (old new : List PlaceValue) → EndTurns which is_stored old new → Stands given old → Stands given new
  stands_ended given which is_stored old new ends was = record {
    there = let low = was.there in omega (arith, low, ends.as_many);
    has = has_ended setup writes given (which number) (is_stored number) (slice_index_or old number other) (slice_index_or new number other) (ends.each number other was.there) was.has;
  }

  stands_unstored : (given : Option Peer) (which : ℕ → Bool) (old new : List PlaceValue) → EndUnstored which old new → Stands given old → Stands given new
  stands_unstored given which old new ends was = record {
    there = let low = was.there in omega (arith, low, ends.as_many);
    has = by (which number) (ends.each number other was.there);
  }
    where
      by : (b : Bool) → EndsUnstored b (slice_index_or old number other) (slice_index_or new number other) → Has setup writes given (slice_index_or new number other).line
      by true is = has_ended setup writes given true false (slice_index_or old number other) (slice_index_or new number other) is.1 was.has
      by false is = has_ended setup writes given false false (slice_index_or old number other) (slice_index_or new number other) is was.has

  stands_visited : (given : Option Peer) (visits : ℕ → Visit) (old new : List PlaceValue) → LinesWent (VisitsLines visits ∷ []) old new → VisitsTell visits old new → Stands given old
      → Stands (given_after (has_reported (visits number) (slice_index_or new number other)) given) new
  stands_visited given visits old new went tells was = record {
    there = let low = was.there in omega (arith, low, went.as_many);
    has =
        has_visited setup writes given (visits number) (actions_of number (VisitsLines visits ∷ [])) (slice_index_or old number other) (slice_index_or new number other) writing
        (went.each number other was.there).goes (tells.each number other was.there) was.has;
  }

  stands_asked : (given : Option Peer) (line now : ℕ) (what : LineRequest) (answer : Option LineAnswer) (old new : List PlaceValue) → LinesWent (AsksLine line now what answer ∷ []) old new → AskFrees line what answer old new → Stands given old
      → Stands (if nat_eq number line then given_by what answer given else given) new
  stands_asked given line now what answer old new went frees was = record {
    there = let low = was.there in omega (arith, low, went.as_many);
    has =
        has_asked setup writes given (nat_eq number line) what answer (actions_of number (AsksLine line now what answer ∷ [])) (slice_index_or old number other) (slice_index_or new number other) writing
        (went.each number other was.there).goes (frees.each number other was.there) was.has;
  }

  stands_woken : (given : Option Peer) (line : ℕ) (old new : List PlaceValue) → LinesWent (WakesLine line ∷ []) old new → AllStayHeld old new → Stands given old → Stands given new
  stands_woken given line old new went stays was = record {
    there = let low = was.there in omega (arith, low, went.as_many);
    has =
        has_stayed setup writes given (actions_of number (WakesLine line ∷ [])) (slice_index_or old number other) (slice_index_or new number other) writing (went.each number other was.there).goes
        (stays.each number other was.there) was.has;
  }

  module _ (K : Type 0) (same : K → K → Type 0) (puts : List PageToStore → Bool → K → K → Type 0) (notes : ℕ → ℕ → K → K → Type 0) (ends : List LineReport → K → K → Type 0) (start : Option Peer) where
    stands_in : (done : List DoneOrder) (settled : List PutResult) (old new : List PlaceValue) (k l : K) (ran : IsRun same puts notes ends done settled old new k l) → Stands start old
        → Stands (given_in same puts notes ends number other start done settled old new k l ran) new
    stands_in [] [] old new k l ran was = subst (λ (p : List PlaceValue). Stands start p) (sym ran.0) was
    stands_in [] (end ∷ settled) old new k l ran was = absurd ran
    stands_in (Turned now visits ∷ done) settled old new k l ran was =
        let earlier = given_in same puts notes ends number other start done settled old ran.0 k l ran.2 in
        stands_unstored (given_after (has_reported (visits number) (slice_index_or ran.1 number other)) earlier) (turned_in visits) ran.1 new ran.5
        (stands_visited earlier visits ran.0 ran.1 ran.3 ran.4 (stands_in done settled old ran.0 k l ran.2 was))
    stands_in (Stored visits ∷ done) [] old new k l ran was = absurd ran
    stands_in (Stored visits ∷ done) (end ∷ settled) old new k l ran was =
        let earlier = given_in same puts notes ends number other start done settled old ran.0 k ran.2 ran.3 in
        stands_ended (given_after (has_reported (visits number) (slice_index_or ran.1 number other)) earlier) (turned_in visits) (is_stored_in end) ran.1 new ran.6.settled
        (stands_visited earlier visits ran.0 ran.1 ran.4 ran.5 (stands_in done settled old ran.0 k ran.2 ran.3 was))
    stands_in (AskedOf line now what answer ∷ done) settled old new k l ran was =
        stands_asked (given_in same puts notes ends number other start done settled old ran.0 k l ran.1) line (max (latest done) now) what answer ran.0 new ran.2 ran.3 (stands_in done settled old ran.0 k l ran.1 was)
    stands_in (Woken line ∷ done) settled old new k l ran was =
        stands_woken (given_in same puts notes ends number other start done settled old ran.0 k l ran.1) line ran.0 new ran.2 ran.3 (stands_in done settled old ran.0 k l ran.1 was)

  stands_without : (start : Option Peer) (done : List DoneOrder) (old new : List PlaceValue) (ran : RanWithout done old new) → Stands start old → Stands (given_without number other start done old new ran) new
  stands_without start [] old new ran was = subst (λ (p : List PlaceValue). Stands start p) (sym ran) was
  stands_without start (Turned now visits ∷ done) old new ran was =
      let earlier = given_without number other start done old ran.0 ran.2 in
      stands_ended (given_after (has_reported (visits number) (slice_index_or ran.1 number other)) earlier) (turned_in visits) (λ number. true) ran.1 new ran.5
      (stands_visited earlier visits ran.0 ran.1 ran.3 ran.4 (stands_without start done old ran.0 ran.2 was))
  stands_without start (Stored visits ∷ done) old new ran was = absurd ran
  stands_without start (AskedOf line now what answer ∷ done) old new ran was =
      stands_asked (given_without number other start done old ran.0 ran.1) line (max (latest done) now) what answer ran.0 new ran.2 ran.3 (stands_without start done old ran.0 ran.1 was)
  stands_without start (Woken line ∷ done) old new ran was =
      stands_woken (given_without number other start done old ran.0 ran.1) line ran.0 new ran.2 ran.3 (stands_without start done old ran.0 ran.1 was)

pub called_peers_are_given : {K : Type 0} (same : K → K → Type 0) (puts : List PageToStore → Bool → K → K → Type 0) (notes : ℕ → ℕ → K → K → Type 0) (ends : List LineReport → K → K → Type 0) → CalledPeersAreGiven same puts notes ends
called_peers_are_given {K = K} same puts notes ends setup writes number other start done settled old new before after writing there somewhere given ran =
    (stands_in setup writes writing number other K same puts notes ends start done settled old new before after ran record { there = there; has = record { somewhere = somewhere; is_given = given } }).has.is_given

pub called_peers_are_given_without : CalledPeersAreGivenWithout
called_peers_are_given_without setup writes number other start done old new writing there somewhere given ran =
    (stands_without setup writes writing number other start done old new ran record { there = there; has = record { somewhere = somewhere; is_given = given } }).has.is_given
