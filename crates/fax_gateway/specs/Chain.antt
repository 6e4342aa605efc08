-- Two gateways in a row: what the first gives in a call of its called leg comes, by an honest schedule, to a call of the
-- second's calling leg. (ITU-T T.30 and T.38, from machine to machine; that gateways stand in a row is this project's own.)
use Rattle.std.specs.Prelude.{◌≡◌, ℕ, ◌≤◌, Bool, true, false, List, [], ◌∷◌, ◌++◌, length, reverse, slice_get, Contains, Option, Some, None}
use Rattle.std.specs.List.{list_any}
use Rattle.fax_pagestore.specs.Pages.{PageValue}
use Rattle.fax_udptl.specs.Schedules.{Arrival, datagrams, IsHonest}
use Rattle.fax_ifp.specs.Pieces as pieces
use Rattle.fax_ifp.specs.Schedules.{slots_of}
use Rattle.fax_answer.specs.History.{Entry}
use Rattle.fax_answer.specs.Sent.{pieces_heard, page_accepted, Rises}
use Rattle.fax_call.specs.Writings.{Writing, IsWriting}
use Rattle.fax_call.specs.Emission.{Mark, Begins, Emits}
use Rattle.fax_call.specs.Given.{is_eom_frame}
use Rattle.fax_gateway.specs.Setups.{Setup}
use Rattle.fax_gateway.specs.Events.{Event}
use Rattle.fax_gateway.specs.CallingLegs as calling
use Rattle.fax_gateway.specs.CallingLegs.{CallingLeg, calling_leg}
use Rattle.fax_gateway.specs.CalledLegs.{CalledLeg}
use Rattle.fax_gateway.specs.Forwards.{WasConfirmed}
use Rattle.fax_gateway.specs.BothLegs.{both_legs}
use Rattle.fax_gateway.specs.Told.{leg_marks}
use Rattle.fax_gateway.specs.Traces.{IsTrace}

-- A call of the first's called leg (the one that is on, or the last) joined to one of the second's calling leg: the datagrams
-- that came to the second in that call are those of the packets that the first gave there, by an honest schedule. What else
-- came to either gateway is free, they may be set up differently, and no common order of their events is asked for.
pub record IsJoined (setup other : Setup) (writes others : Writing)
    (first second : List Event) (leg : CalledLeg) (l : CallingLeg) : Type 0 where
  pub is_first : IsTrace setup writes first
  pub is_second : IsTrace other others second
  pub is_leg : (both_legs setup writes first).leg ≡ Some leg
  pub is_call : calling_leg other second ≡ Some l
  pub arrivals : List Arrival
  pub honest : IsHonest (reverse leg.given) arrivals
  pub arrived : l.arrived ≡ datagrams arrivals

-- the history of the second's call
abbrev pub history_of : CallingLeg → List Entry
history_of l = (calling.core_of l).history

-- What the second's call hears are frames and image signals that the first gave in its call, and each page for which it gives
-- MCF is what one of these signals means under a DCS that the second heard, at rising places.
pub record IsOfTheFirst (leg : CalledLeg) (l : CallingLeg) : Type 0 where
  pub signals : Rises (reverse leg.given) (history_of l) (length (reverse leg.given))
  pub frames :
      (octets : List ℕ) → Contains (pieces_heard (history_of l)) (pieces.Frame octets)
      → Contains (pieces.pieces (slots_of (reverse leg.given))) (pieces.Frame octets)

abbrev pub ChainsHear : Type 0
ChainsHear = (setup other : Setup)
    (writes others : Writing) (first second : List Event) (leg : CalledLeg) (l : CallingLeg)
    → IsWriting writes → IsJoined setup other writes others first second leg l → IsOfTheFirst leg l

-- no frame EOM is among packets
abbrev pub HasNoEom : List (List ℕ) → Type 0
HasNoEom packets = list_any is_eom_frame (pieces.pieces (slots_of packets)) ≡ false

-- where a call begins among what the called leg heard and gave
abbrev pub is_begin : Mark → Bool
is_begin Begins = true
is_begin mark = false

-- The page stands at a place of the job of the first's call, it was confirmed there, and at some point of that call it was the
-- page of the image emitted last.
pub record IsRelayed (setup : Setup) (writes : Writing)
    (first : List Event) (leg : CalledLeg) (page : PageValue) (place : ℕ) : Type 0 where
  pub is_page : slice_get leg.job.pages place ≡ Some page
  pub confirmed : WasConfirmed setup first leg.job.call page
  pub later : List Mark
  pub before : List Mark
  pub split : leg_marks setup writes first ≡ later ++ before
  pub in_call : list_any is_begin later ≡ false
  pub emitted : Emits leg.job before (Some place)

-- Each page for which the second gives MCF was relayed, from a place up to `bound`, and those before it from no later place.
abbrev pub RelaysBy : Setup
    → Writing → List Event → CalledLeg → Option PageValue → (bound : ℕ) → (ℕ → Type 0) → Type 0
RelaysBy setup writes first leg None bound earlier = earlier bound
RelaysBy setup writes first leg (Some page) bound earlier =
    (place : ℕ) × (place ≤ bound) × IsRelayed setup writes first leg page place × earlier place

abbrev pub Relays : Setup → Writing → List Event → CalledLeg → List Entry → (bound : ℕ) → Type 0
Relays setup writes first leg [] bound = Unit {0}
Relays setup writes first leg (e ∷ before) bound = RelaysBy setup
    writes first leg (page_accepted e.decision) bound (Relays setup writes first leg before)

-- So it is where the first sent no EOM in that call. (After EOM a page of another format follows, and a second that lost the DCS
-- of it would read it under the one before.)
abbrev pub ChainsRelay : Type 0
ChainsRelay = (setup other : Setup) (writes others : Writing)
    (first second : List Event) (leg : CalledLeg) (l : CallingLeg) → IsWriting writes
    → IsJoined setup other writes others first second leg l → HasNoEom (reverse leg.given)
    → Relays setup writes first leg (history_of l) (length leg.job.pages)
