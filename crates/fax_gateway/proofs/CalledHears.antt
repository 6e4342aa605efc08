-- What a call of the called leg heard are the pieces of the datagrams that arrived.
use Rattle.std.proofs.Common.{◌≡◌, ℕ, List, [], ◌∷◌, reverse, Ok, refl, sym, ◌∙◌, ap}
use Rattle.fax_udptl.specs.Datagrams.{DatagramValue}
use Rattle.fax_udptl.specs.Slots.{newest_slots}
use Rattle.fax_ifp.specs.Pieces.{Piece, pieces}
use Rattle.fax_ifp.proofs.SentSignals.{onto, onto_both}
use Rattle.fax_call.specs.Writings.{Writing}
use Rattle.fax_call.specs.Calls.{CallEvent, Comes}
use Rattle.fax_gateway.specs.Setups.{Setup}
use Rattle.fax_gateway.specs.Events.{Event}
use Rattle.fax_gateway.specs.Legs.{new_pieces}
use Rattle.fax_gateway.specs.CalledLegs.{CalledLeg, comes_to, leg_with}
use Rattle.fax_gateway.specs.BothLegs.{both_legs}
use Rattle.fax_gateway.proofs.SentPages.{go_on, none_newest}
use Rattle.fax_gateway.proofs.EachLeg.{IfLeg, RingsFirst, any_back, leg_each}
use Rattle.fax_gateway.proofs.McfHeard.{came_pieces}

abbrev pub HasHeard : CalledLeg → Type 0
HasHeard l = came_pieces l.events ≡ reverse (pieces (newest_slots l.arrived))

comes_heard : (ps : List Piece) (now : ℕ) (events : List CallEvent) → came_pieces (comes_to ps now events) ≡ onto ps (came_pieces events)
comes_heard [] now events = refl
comes_heard (p ∷ ps) now events = comes_heard ps now (Comes p now ∷ events)

with_heard : (l : CalledLeg) (now : ℕ) (d : DatagramValue) → HasHeard l → HasHeard (leg_with (Ok d) now l)
with_heard l now d h =
    comes_heard (new_pieces l.arrived d) now l.events
    ∙ ap (onto (new_pieces l.arrived d)) h
    ∙ sym (onto_both (pieces (newest_slots l.arrived)) (new_pieces l.arrived d) [])
    ∙ ap (λ (ps : List Piece). reverse ps) (sym (go_on l.arrived d))

pub called_heard : (setup : Setup) (writes : Writing) (trace : List Event) → RingsFirst trace → IfLeg HasHeard (both_legs setup writes trace).leg
called_heard setup writes trace r =
    leg_each (λ octets. Unit {0}) HasHeard writes (record { begins = λ job before now. none_newest; comes = λ l now octets d on e h. with_heard l now d h; ticks = λ l now h. h }) setup trace r (any_back trace)
