-- LINKS GO ON, whatever comes of what was given. So no law over links speaks of nothing. (This project's profile.) Lists have the
-- newest first.
use Rattle.std.specs.Prelude.{◌≡◌, ℕ, Bool, false, List, [], ◌∷◌, reverse, slice_get, Some}
use Rattle.fax_pagestore.specs.Pages.{PageValue, IsPage}
use Rattle.fax_answer.specs.Table.{Reading}
use Rattle.fax_call.specs.Writings.{Writing}
use Rattle.fax_gateway.specs.Setups.{Setup}
use Rattle.fax_gateway.specs.Events.{Event, FromCalling, Given, Tick}
use Rattle.fax_gateway.specs.CallingLegs.{CallingLeg, calling_leg, idle_after}
use Rattle.fax_gateway.specs.CalledLegs.{CalledLeg}
use Rattle.fax_gateway.specs.BothLegs.{begins_next, both_legs}
use Rattle.fax_laws.specs.chains.Given.{octets_given}
use Rattle.fax_laws.specs.chains.Links.{IsLinked, IsNear, octets_heard}

-- Octets that the first gave come while the second's call is on, at any moment; and either gateway has a tick, in which the first
-- begins no other call.
pub record GoOn (setup other : Setup)
    (writes others : Writing) (first second : List Event) (places : List ℕ) : Type 0 where
  pub comes : (place : ℕ) (octets : List ℕ) (at : ℕ)
      → slice_get (reverse (octets_given setup writes first)) place ≡ Some octets
      → IsNear places place
      → idle_after (calling_leg other second) ≡ false → (decided : Bool) × (read : Reading)
      × IsLinked setup other writes others first (FromCalling octets at decided read ∷ second)
  pub second_ticks : (at : ℕ)
      → (given : Given) × IsLinked setup other writes others first (Tick at given ∷ second)
  pub first_ticks :
      (at : ℕ) → begins_next setup (both_legs setup writes first).leg ≡ false
      → (given : Given) × IsLinked setup other writes others (Tick at given ∷ first) second

abbrev pub LinksBegin : Type 0
LinksBegin = (setup other : Setup) (writes others : Writing)
    → IsLinked setup other writes others [] []

abbrev pub LinksGoOn : Type 0
LinksGoOn = (setup other : Setup) (writes others : Writing)
    (first second : List Event) (link : IsLinked setup other writes others first second)
    → GoOn setup other writes others first second link.places

-- A link over which a datagram came of a job with this page.
pub record HasCome (writes others : Writing) (page : PageValue) : Type 0 where
  pub setup : Setup
  pub other : Setup
  pub first : List Event
  pub second : List Event
  pub link : IsLinked setup other writes others first second
  pub leg : CalledLeg
  pub is_leg : (both_legs setup writes first).leg ≡ Some leg
  pub is_job : leg.job.pages ≡ page ∷ []
  pub l : CallingLeg
  pub is_call : calling_leg other second ≡ Some l
  pub octets : List ℕ
  pub came : octets_heard other second ≡ octets ∷ []

abbrev pub SomeAreLinked : Type 0
SomeAreLinked = (writes others : Writing) (page : PageValue)
    → IsPage page → HasCome writes others page
