-- How a call is placed: a number has one route.
use Rattle.std.proofs.Common.{◌≡◌, ℕ, ◌<◌, ◌≤◌, Bool, true, false, List, length, get_or, slice_get, Some, Result, Ok, Err, ap, sym, subst, refl, ◌∙◌, if◌then◌else◌, arith}
use Rattle.std.proofs.lemmas.Option.{same_Some, slice_get_read, slice_get_within}
use Rattle.fax_switch.specs.declared.event.Choice.{Choice}
use Rattle.fax_switch.specs.declared.event.Choice.TheVariants.{Routed, Unrouted, TrunkFull}
use Rattle.fax_trunks.specs.declared.number_fault.NumberFault.{NumberFault}
use Rattle.fax_trunks.specs.Numbers.{fault_of, is_number, reading}
use Rattle.fax_trunks.specs.Routes.{IsChoice, dialled, fits_of}
use Rattle.fax_trunks.specs.RouteValues.{RouteValue}
use Rattle.fax_user_agent.specs.declared.settings.Trunk.{Trunk}
use Rattle.fax_user_agent.specs.Placings.{IsOver, IsPlacing, IsRoutedOver}

not_below : (fits : List ℕ) (one other : ℕ) → IsChoice fits one → IsChoice fits other → one < other → ⊥
not_below fits one other first second below = let a = first.longest other in let b = second.first one below in omega (arith, a, b)

pub one_choice : (fits : List ℕ) (one other : ℕ) → IsChoice fits one → IsChoice fits other → one ≡ other
one_choice fits one other first second =
    let below : (one < other → ⊥) = not_below fits one other first second in
    let above : (other < one → ⊥) = not_below fits other one second first in
    omega (arith, below, above)

pub is_placing : (trunks : List Trunk) (routes : List RouteValue) (octets : List ℕ) (place : ℕ) (trunk : Trunk) (choice : Choice)
    → IsRoutedOver trunks routes octets place trunk → IsOver place trunk choice → IsPlacing trunks routes octets choice
is_placing trunks routes octets place trunk (Routed chosen offer) routed (here, first) =
    (trunk, subst (λ (p : ℕ). IsRoutedOver trunks routes octets p trunk) (sym here) routed, first)
is_placing trunks routes octets place trunk TrunkFull routed over = (place, trunk, routed)
is_placing trunks routes octets place trunk Unrouted routed over = absurd over

-- ---- over which route
pub there : {X : Type 0} (xs ys : List X) (i : ℕ) (x : X) → xs ≡ ys → i < length xs → x ≡ get_or xs i x → slice_get ys i ≡ Some x
there xs ys i x same within is = subst (λ l. slice_get l i ≡ Some x) same (slice_get_read xs (length xs) i x refl within is)

read_back : (octets number : List ℕ) → reading octets ≡ Ok number → (is_number octets ≡ true) × (octets ≡ number)
read_back octets number reads = by (is_number octets) refl reads
  where
    by : (b : Bool) → is_number octets ≡ b → if◌then◌else◌ {A = Result (List ℕ) NumberFault} b (Ok octets) (Err (fault_of octets)) ≡ Ok number → (is_number octets ≡ true) × (octets ≡ number)
    by true is same = (is, cc (same))
    by false is same = cc (same)

pub routed_over : (trunks : List Trunk) (routes : List RouteValue) (octets number : List ℕ) (place : ℕ) (route : RouteValue) (other : List ℕ) (over : ℕ) (trunk : Trunk)
    → reading octets ≡ Ok number → IsChoice (fits_of routes number) place → slice_get routes place ≡ Some route
    → dialled route number ≡ Ok other → over ≡ route.trunk → slice_get trunks over ≡ Some trunk → IsRoutedOver trunks routes octets place trunk
routed_over trunks routes octets number place route other over trunk reads chosen is takes same there_is =
    let back = read_back octets number reads in
    record {
      is_number = back.0;
      chosen = subst (λ (n : List ℕ). IsChoice (fits_of routes n) place) (sym back.1) chosen;
      route = route;
      there = is;
      number = other;
      is_dialled = subst (λ (n : List ℕ). dialled route n ≡ Ok other) (sym back.1) takes;
      over = subst (λ (t : ℕ). slice_get trunks t ≡ Some trunk) same there_is;
    }

-- the route of its number is this one
its_route : (trunks : List Trunk) (routes : List RouteValue) (octets number : List ℕ) (place : ℕ) (route : RouteValue) (chosen : ℕ) (trunk : Trunk)
    → reading octets ≡ Ok number → IsChoice (fits_of routes number) place → slice_get routes place ≡ Some route → (over : IsRoutedOver trunks routes octets chosen trunk)
    → (octets ≡ number) × (over.route ≡ route)
its_route trunks routes octets number place route chosen trunk reads choice is over =
    let back = read_back octets number reads in
    let here = one_choice (fits_of routes octets) chosen place over.chosen (subst (λ (n : List ℕ). IsChoice (fits_of routes n) place) (sym back.1) choice) in
    (back.1, same_Some over.route route (sym over.there ∙ ap (λ (p : ℕ). slice_get routes p) here ∙ is))

pub not_dialled : (trunks : List Trunk) (routes : List RouteValue) (octets number : List ℕ) (place : ℕ) (route : RouteValue)
    → reading octets ≡ Ok number → IsChoice (fits_of routes number) place → slice_get routes place ≡ Some route → ((other : List ℕ) → dialled route number ≡ Ok other → ⊥)
    → (chosen : ℕ) (trunk : Trunk) → IsRoutedOver trunks routes octets chosen trunk → ⊥
not_dialled trunks routes octets number place route reads choice is none chosen trunk over =
    let back = its_route trunks routes octets number place route chosen trunk reads choice is over in
    none over.number (ap (λ (r : RouteValue). dialled r number) (sym back.1) ∙ ap (λ (n : List ℕ). dialled over.route n) (sym back.0) ∙ over.is_dialled)

pub no_trunk : (trunks : List Trunk) (routes : List RouteValue) (octets number : List ℕ) (place : ℕ) (route : RouteValue) (at : ℕ)
    → reading octets ≡ Ok number → IsChoice (fits_of routes number) place → slice_get routes place ≡ Some route → at ≡ route.trunk → length trunks ≤ at
    → (chosen : ℕ) (trunk : Trunk) → IsRoutedOver trunks routes octets chosen trunk → ⊥
no_trunk trunks routes octets number place route at reads choice is same past chosen trunk over =
    let back = its_route trunks routes octets number place route chosen trunk reads choice is over in
    let within = slice_get_within trunks over.route.trunk trunk over.over in
    let here : at ≡ over.route.trunk = same ∙ ap (λ (r : RouteValue). r.trunk) (sym back.1) in
    omega (arith, within, past, here)
