-- GIVEN: what is told of what a tick gives on a leg. (This project's profile.)
use Rattle.std.specs.Prelude.{◌≡◌, ℕ, false, List, [], ◌∷◌, Option, None, Some, codes}
use Rattle.fax_udptl.specs.Datagrams.{DatagramValue, datagram_of}
use Rattle.fax_gateway.specs.CalledLegs.{CalledLeg}
use Rattle.fax_gateway.specs.Legs.{sent}
use Rattle.fax_gateway.specs.Setups.{Setup}
use Rattle.fax_answer.specs.declared.state.State.{State}
use Rattle.fax_answer.specs.declared.timers.ActingTimer.{ActingTimer}
use Rattle.fax_call.specs.declared.acting.ActingTimer as call
use Rattle.fax_call.specs.declared.acting.ActingTimer.TheVariants.{T1, T4}
use Rattle.fax_explain.specs.declared.listener.Listener.{Listener}
use Rattle.fax_explain.specs.declared.mark.Mark.{Mark}
use Rattle.fax_explain.specs.declared.mark.Passed.TheVariants.{Heard}
use Rattle.fax_explain.specs.declared.mark.Signal.{Signal}
use Rattle.fax_explain.specs.Heard.{EachEar, EachHearing, IsEar, TellsDatagram, arrived_with}
use Rattle.fax_explain.specs.Listening.{Ear, in_call}
use Rattle.fax_descriptions.specs.declared.lane.Lane.TheVariants.{ToCalled}
use Rattle.fax_descriptions.specs.Reasons.{timer_text}
use Rattle.fax_descriptions.specs.Tales.{inside}
use Rattle.fax_descriptions.specs.Tellings.{Description}

-- a datagram, where one is given, is told as one that came
abbrev pub arrived_after : List DatagramValue → Option (List ℕ) → List DatagramValue
arrived_after arrived None = arrived
arrived_after arrived (Some octets) = arrived_with arrived (datagram_of octets)

-- after packets that were given in a call, the newest first: the datagrams of them
abbrev pub given_datagrams : Setup → List (List ℕ) → List DatagramValue
given_datagrams setup [] = []
given_datagrams setup (packet ∷ given) =
    arrived_with (given_datagrams setup given) (datagram_of (sent setup given packet))

-- the pieces of one that is given have no marks of their own
abbrev pub TellsGiven : Ear
    → List DatagramValue → Option (List ℕ) → (old new : List Description) → Type 0
TellsGiven ear arrived None old new = new ≡ old
TellsGiven ear arrived (Some octets) old new =
    TellsDatagram ear [] arrived (datagram_of octets) old new

-- this is so of whatever was given on a direction, however it is heard
abbrev pub EachGiven : Listener → (Ear → List DatagramValue → Type 0) → Type 0
EachGiven ours IsSo = EachEar ours (λ ear. EachHearing ours (λ arrived. IsSo ear arrived))

-- what is given from now on is a signal of this kind
abbrev pub given_mark : Signal → Mark
given_mark signal =
    record { signal = signal; passed = Heard; is_good = false; trains_again = false }

abbrev pub giving : Signal → Listener → Listener
giving signal ours = record ours { usual = given_mark signal }

-- how what is given to the called machine is heard, and a listener that hears it so, whatever signals are
abbrev pub to_called : Signal → Ear
to_called signal = record (in_call ToCalled) { usual = given_mark signal }

abbrev pub IsToCalled : Listener → Type 0
IsToCalled ours = (signal : Signal) → IsEar (to_called signal) (giving signal ours)

-- it goes on so
abbrev pub KeepsToCalled : (old new : Listener) → Type 0
KeepsToCalled old new = EachHearing old (λ arrived. IsToCalled old → IsToCalled new)

-- the packets that were given in the last call of a job
abbrev pub given_to : Option CalledLeg → List (List ℕ)
given_to None = []
given_to (Some leg) = leg.given

-- the timer that acts in this state of the calling leg, where one does
abbrev pub timer_lines : Option ActingTimer → State → List Description
timer_lines None state = []
timer_lines (Some timer) state = inside (timer_text timer state) ∷ []

-- and the one that acts on the called leg (ITU-T T.30, 5.4.3)
abbrev pub called_timer_text : call.ActingTimer → List ℕ
called_timer_text T1 = codes "T1: no DIS in 35 s, so the call is given up"
called_timer_text T4 = codes "T4: no answer in 3 s"

abbrev pub called_timer_lines : Option call.ActingTimer → List Description
called_timer_lines None = []
called_timer_lines (Some timer) = inside (called_timer_text timer) ∷ []
