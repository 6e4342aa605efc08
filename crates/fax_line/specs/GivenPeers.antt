-- Whose a line's called leg is: the peer's that was given for a job, until the job is reported. Lists have the newest first. (This
-- project's profile.)
use Rattle.std.specs.Prelude.{◌≡◌, ◌<◌, ℕ, Bool, true, false, ◌&&◌, nat_eq, List, [], ◌∷◌, length, slice_index_or, Option, Some, None, is_some, Ok, Err, if◌then◌else◌}
use Rattle.std.specs.declared.net.socket_addr.SocketAddr.{SocketAddr}
use Rattle.fax_call.specs.Writings.{IsWriting, Writing}
use Rattle.fax_gateway.specs.declared.leg.Leg.{Leg}
use Rattle.fax_gateway.specs.declared.leg.Leg.TheVariants as legs
use Rattle.fax_gateway.specs.Driving.{Entry, HasMade}
use Rattle.fax_gateway.specs.Events.{Event}
use Rattle.fax_gateway.specs.Reached.{IsReachedBy}
use Rattle.fax_gateway.specs.Setups.{Setup}
use Rattle.fax_wires.specs.declared.repeat.peers.Bounds.{Bounds}
use Rattle.fax_wires.specs.declared.repeat.peers.Peer.{Peer}
use Rattle.fax_wires.specs.repeat.Peers.{PeerValue}
use Rattle.fax_line.specs.declared.asked.LineAnswer.{LineAnswer}
use Rattle.fax_line.specs.declared.asked.LineAnswer.TheVariants as answered
use Rattle.fax_line.specs.declared.asked.LineRequest.{LineRequest}
use Rattle.fax_line.specs.declared.asked.LineRequest.TheVariants as asked
use Rattle.fax_line.specs.declared.settling.LineReport.{LineReport}
use Rattle.fax_line.specs.declared.settling.PageToStore.{PageToStore}
use Rattle.fax_line.specs.declared.settling.PutResult.{PutResult}
use Rattle.fax_line.specs.Actions.{LineValue}
use Rattle.fax_line.specs.StoredRuns.{IsRun, RanWithout}
use Rattle.fax_line.specs.Places.{PlaceValue, Visit, is_turn}
use Rattle.fax_line.specs.Runs.{AskedOf, DoneOrder, Stored, Turned, Woken}

-- a peer that a leg was given, if it is the called one
abbrev pub given_on : Leg → Peer → Option Peer → Option Peer
given_on legs.Calling peer before = before
given_on legs.Called peer before = Some peer

-- WHAT THE CALLED LEG IS GIVEN by what is asked of a line, which it answered so: the peer that was said, or of which it was said that it
-- answered; and none where no call began to it, or where the machine was not reached.
abbrev pub given_by : LineRequest → Option LineAnswer → Option Peer → Option Peer
given_by (asked.Peer peering) (Some answered.Done) before = given_on peering.leg peering.peer before
given_by (asked.Connect connecting) (Some (answered.Placed (Ok done))) before = Some connecting.peer
given_by (asked.Connect connecting) (Some (answered.Placed (Err fault))) before = None
given_by asked.NotConnected (Some (answered.Placed (Ok done))) before = None
given_by what answer before = before

-- in a turn, in which a job was reported or not
abbrev pub given_after : Bool → Option Peer → Option Peer
given_after true before = None
given_after false before = before

-- whether the line of this number reported a job in the turn that it had by this visit
abbrev pub has_reported : Visit → PlaceValue → Bool
has_reported visit turned = is_turn visit && is_some turned.line.turned.report

-- what it is given in a whole run, which begins with this
abbrev pub given_in :
    {K : Type 0} (same : K → K → Type 0) (puts : List PageToStore → Bool → K → K → Type 0)
    (notes : ℕ → ℕ → K → K → Type 0) (ends : List LineReport → K → K → Type 0)
    (number : ℕ) (other : PlaceValue) (start : Option Peer)
    (done : List DoneOrder) (settled : List PutResult) (old new : List PlaceValue) (before after : K)
    → IsRun same puts notes ends done settled old new before after → Option Peer
given_in same puts notes ends number other start [] [] old new before after ran = start
given_in same puts notes ends number other start [] (end ∷ settled) old new before after ran =
    start
given_in same puts notes ends number other start (Turned now visits
    ∷ done) settled old new before after ran =
    given_after (has_reported (visits number) (slice_index_or ran.1 number other))
    (given_in same puts notes ends number other start done settled old ran.0 before after ran.2)
given_in same puts notes ends number other start (Stored visits
    ∷ done) [] old new before after ran = start
given_in same puts notes ends number other start (Stored visits
    ∷ done) (end ∷ settled) old new before after ran =
    given_after (has_reported (visits number) (slice_index_or ran.1 number other))
    (given_in same puts notes ends number other start done settled old ran.0 before ran.2 ran.3)
given_in same puts notes ends number other start (AskedOf line now what answer
    ∷ done) settled old new before after ran =
    let earlier = given_in same puts notes ends number other start done settled
    old ran.0 before after ran.1 in
    if nat_eq number line then given_by what answer earlier else earlier
given_in same puts notes ends number other start (Woken line
    ∷ done) settled old new before after ran =
    given_in same puts notes ends number other start done settled old ran.0 before after ran.1

-- THE PEER IS THE ONE THAT WAS GIVEN: its datagrams go to that address, and come from there alone; where none is given there is none.
-- Where the address was left open it is still to be learned, or was learned.
abbrev pub IsAddressOf : Option SocketAddr → Option SocketAddr → Bool → Type 0
IsAddressOf (Some address) has learns = (has ≡ Some address) × (learns ≡ false)
IsAddressOf None has learns = learns ≡ false → is_some has ≡ true

abbrev pub IsGivenAs : Option Peer → Option SocketAddr → Bool → Bounds → Type 0
IsGivenAs None address learns bounds = (address ≡ None) × (learns ≡ false)
IsGivenAs (Some peer) address learns bounds =
    IsAddressOf peer.address address learns × (bounds ≡ peer.bounds)

-- but where the line has a peer for ever, and where its wire tells none
abbrev pub IsGiven : Option Peer → Option PeerValue → Type 0
IsGiven given None = Unit {0}
IsGiven given (Some peer) = peer.is_fixed ≡ false
    → IsGivenAs given peer.address peer.learns peer.bounds

-- something led to a line
abbrev pub IsSomewhere : Setup → Writing → LineValue → Type 0
IsSomewhere setup writes line = (trace : List Event) × (earlier : List Entry)
    × IsReachedBy setup writes trace line.gateway × HasMade earlier line.driver

-- OVER A RUN THE PEER OF A CALLED LEG IS THE ONE THAT IT WAS GIVEN last, with no report of a job since; else there is none.
abbrev pub CalledPeersAreGiven : {K : Type 0}
    → (K → K → Type 0) → (List PageToStore → Bool → K → K → Type 0)
    → (ℕ → ℕ → K → K → Type 0) → (List LineReport → K → K → Type 0) → Type 0
CalledPeersAreGiven {K} same puts notes ends = (setup : Setup) (writes : Writing)
    (number : ℕ) (other : PlaceValue) (start : Option Peer) (done : List DoneOrder)
    (settled : List PutResult) (old new : List PlaceValue) (before after : K) → IsWriting writes
    → number < length old → IsSomewhere setup writes (slice_index_or old number other).line
    → IsGiven start (slice_index_or old number other).line.peers.called
    → (ran : IsRun same puts notes ends done settled old new before after)
    → IsGiven (given_in same puts notes ends number other start
    done settled old new before after ran) (slice_index_or new number other).line.peers.called

-- the same where there is no store
abbrev pub given_without : (number : ℕ) (other : PlaceValue)
    (start : Option Peer) (done : List DoneOrder) (old new : List PlaceValue)
    → RanWithout done old new → Option Peer
given_without number other start [] old new ran = start
given_without number other start (Turned now visits ∷ done) old new ran =
    given_after (has_reported (visits number) (slice_index_or ran.1 number other))
    (given_without number other start done old ran.0 ran.2)
given_without number other start (Stored visits ∷ done) old new ran = start
given_without number other start (AskedOf line now what answer ∷ done) old new ran =
    let earlier = given_without number other start done old ran.0 ran.1 in
    if nat_eq number line then given_by what answer earlier else earlier
given_without number other start (Woken line ∷ done) old new ran =
    given_without number other start done old ran.0 ran.1

abbrev pub CalledPeersAreGivenWithout : Type 0
CalledPeersAreGivenWithout = (setup : Setup) (writes : Writing) (number : ℕ) (other : PlaceValue)
    (start : Option Peer) (done : List DoneOrder) (old new : List PlaceValue)
    → IsWriting writes
    → number < length old → IsSomewhere setup writes (slice_index_or old number other).line
    → IsGiven start (slice_index_or old number other).line.peers.called
    → (ran : RanWithout done old new)
    → IsGiven (given_without number other start done old new ran)
    (slice_index_or new number other).line.peers.called
