-- What SIP says at the desk, and when (this project's profile).
use Rattle.std.specs.Prelude.{◌≡◌, ℕ, ◌+◌, ◌/◌, ◌%◌, min, max, nat_eq, Bool, true, false, List, [], ◌∷◌, Option, None, Some, option_map, slice_get, string_bytes}
use Rattle.fax_control.specs.declared.word.Bounds.{Bounds}
use Rattle.fax_control.specs.declared.word.Word.{Word}
use Rattle.fax_control.specs.declared.word.Word.TheVariants as word
use Rattle.fax_desk.specs.declared.view.AskedView.{AskedView}
use Rattle.fax_desk.specs.declared.view.LineView.{LineView}
use Rattle.fax_gateway.specs.declared.leg.Leg.{Leg as LineLeg}
use Rattle.fax_gateway.specs.declared.leg.Leg.TheVariants as legs
use Rattle.fax_switch.specs.declared.place.Leg.{Leg}
use Rattle.fax_switch.specs.declared.place.Leg.TheVariants as places
use Rattle.fax_switch.specs.declared.place.Place.{Place}
use Rattle.fax_user_agent.specs.declared.out.LineOrder.{LineOrder}
use Rattle.fax_user_agent.specs.declared.out.LineOrder.TheVariants as order
use Rattle.fax_sip_service.specs.declared.line.SipLine.{SipLine}
use Rattle.fax_sip_service.specs.declared.said.Said.{Said}
use Rattle.fax_sip_service.specs.declared.said.Said.TheVariants as said

-- the last three digits of a status
abbrev pub digits_of : ℕ → List ℕ
digits_of status = (48 + (status / 100) % 10) ∷ (48 + (status / 10) % 10) ∷ (48 + status % 10) ∷ []

-- WHAT AN ORDER OF THE AGENT SAYS at the desk; audio is no word
abbrev pub said_of : LineOrder → Option Said
said_of (order.Ring call tag) = Some (said.Ring call tag)
said_of (order.Peer place end is_moved) = Some (said.Peer place end is_moved)
said_of (order.AudioOn place end) = None
said_of (order.AudioOff place) = None
said_of (order.Refuse place status) = Some (said.Refuse place (digits_of status))
said_of (order.HangUp place) = Some (said.HangUp place)

abbrev pub leg_of : Leg → LineLeg
leg_of places.Calling = legs.Calling
leg_of places.Called = legs.Called

abbrev pub is_call : ℕ → Option ℕ → Bool
is_call call None = false
is_call call (Some other) = nat_eq call other

-- the job of a called leg: the one whose call is asked for, else the one that is being sent
abbrev pub job_of : Option AskedView → Option ℕ → Option ℕ
job_of None sending = sending
job_of (Some asked) sending = Some asked.call

-- the call of a leg is this one
abbrev pub is_on_leg : Leg → ℕ → LineView → Bool
is_on_leg places.Calling call line = is_call call line.call
is_on_leg places.Called call line = is_call call (job_of line.asked line.sending)

abbrev pub is_on : Place → Option LineView → Bool
is_on place None = false
is_on place (Some line) = is_on_leg place.leg place.call line

abbrev pub place_of : Said → Option Place
place_of (said.Ring call tag) = None
place_of (said.Peer place end is_moved) = Some place
place_of (said.Refuse place digits) = Some place
place_of (said.HangUp place) = Some place

-- IT CAN BE SAID NOW: it rings, or the call that it is about is on its leg
abbrev pub is_now_at : Option Place → (ℕ → Option LineView) → Bool
is_now_at None lines = true
is_now_at (Some place) lines = is_on place (lines place.line)

abbrev pub is_now : Said → (ℕ → Option LineView) → Bool
is_now it lines = is_now_at (place_of it) lines

-- the most octets of a datagram, as a word has them: 32 to 65,535
abbrev pub bounds_of : Option ℕ → Bounds
bounds_of None = record { redundancy = None; octets = None }
bounds_of (Some octets) = record { redundancy = None; octets = Some (min (max octets 32) 65535) }

-- the name of the line of a place
abbrev pub name_of : List SipLine → Place → Option (List ℕ)
name_of lines place = option_map (λ line. string_bytes line.name) (slice_get lines place.line)

-- THE WORD SAYS SO
abbrev pub Says : Said → List SipLine → Word → Type 0
Says (said.Ring call tag) lines (word.Ring ring) = (ring.line ≡ None)
    × (option_map (λ text. text.now) ring.tag ≡ Some tag.items) × (ring.bounds ≡ bounds_of None)
Says (said.Peer place end is_moved) lines (word.Peer peer) =
    (name_of lines place ≡ Some peer.line.now)
    × (peer.leg ≡ leg_of place.leg) × (peer.address ≡ Some end.address)
    × (peer.bounds ≡ bounds_of end.octets) × (peer.is_moved ≡ is_moved)
Says (said.Refuse place digits) lines (word.Refuse line cause) =
    (name_of lines place ≡ Some line.now) × (cause.now ≡ digits)
Says (said.HangUp place) lines (word.HangUp line leg) =
    (name_of lines place ≡ Some line.now) × (leg ≡ leg_of place.leg)
Says it lines other = ⊥
