-- How the call of a job is placed: over the route of the number that is called (this project's profile).
use Rattle.std.specs.Prelude.{◌≡◌, ℕ, ⊤, true, List, Ok, slice_get, Some}
use Rattle.fax_switch.specs.declared.event.Choice.{Choice}
use Rattle.fax_switch.specs.declared.event.Choice.TheVariants.{Routed, Unrouted, TrunkFull}
use Rattle.fax_switch.specs.declared.event.Event.{Event}
use Rattle.fax_switch.specs.declared.event.Event.TheVariants.{Dialled}
use Rattle.fax_switch.specs.declared.place.LineCall.{LineCall}
use Rattle.fax_trunks.specs.Numbers.{is_number}
use Rattle.fax_trunks.specs.Routes.{IsChoice, dialled, fits_of}
use Rattle.fax_trunks.specs.RouteValues.{RouteValue}
use Rattle.fax_user_agent.specs.declared.settings.Trunk.{Trunk}

-- The octets are a number, its route is the one at this place, some number is dialled there for it, and over this trunk.
pub record IsRoutedOver (trunks : List Trunk) (routes : List RouteValue)
    (octets : List ℕ) (place : ℕ) (trunk : Trunk) : Type 0 where
  pub is_number : is_number octets ≡ true
  pub chosen : IsChoice (fits_of routes octets) place
  pub route : RouteValue
  pub there : slice_get routes place ≡ Some route
  pub number : List ℕ
  pub is_dialled : dialled route octets ≡ Ok number
  pub over : slice_get trunks route.trunk ≡ Some trunk

-- It is placed over that route, first with the offer of its trunk, or its trunk is full; where there is none it is placed nowhere.
abbrev pub IsPlacing : List Trunk → List RouteValue → List ℕ → Choice → Type 0
IsPlacing trunks routes octets (Routed place offer) = (trunk : Trunk)
    × IsRoutedOver trunks routes octets place trunk × (offer ≡ trunk.first_offer)
IsPlacing trunks routes octets TrunkFull =
    (place : ℕ) × (trunk : Trunk) × IsRoutedOver trunks routes octets place trunk
IsPlacing trunks routes octets Unrouted =
    (place : ℕ) (trunk : Trunk) → IsRoutedOver trunks routes octets place trunk → ⊥

-- over the route at this place and its trunk, if that has room
abbrev pub IsOver : ℕ → Trunk → Choice → Type 0
IsOver place trunk (Routed chosen offer) = (chosen ≡ place) × (offer ≡ trunk.first_offer)
IsOver place trunk TrunkFull = ⊤
IsOver place trunk Unrouted = ⊥

-- the call of a job is asked for, to the number that these octets are
abbrev pub IsDial : List Trunk → List RouteValue → LineCall → List ℕ → Event → Type 0
IsDial trunks routes on octets event =
    (choice : Choice) × IsPlacing trunks routes octets choice × (event ≡ Dialled on choice)
