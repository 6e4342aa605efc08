-- THE TERMINALS at the ends of a call. On its leg each is what a gateway is on one of its own. (This project's profile.) Lists have
-- the newest first.
use Rattle.std.specs.Prelude.{ℕ, List, [], ◌∷◌, map, Option, Some, None}
use Rattle.fax_pagestore.specs.Pages.{PageValue}
use Rattle.fax_jobs.specs.Jobs.{JobValue}
use Rattle.fax_answer.specs.Table.{Reading}
use Rattle.fax_answer.specs.Calls.{new_answering, rung}
use Rattle.fax_answer.specs.Confirmation.{IsRead}
use Rattle.fax_answer.specs.Replies.{ConfirmedPage}
use Rattle.fax_answer.specs.Sent.{pages_confirmed}
use Rattle.fax_call.specs.Writings.{Writing}
use Rattle.fax_gateway.specs.Setups.{Setup}
use Rattle.fax_gateway.specs.Legs.{sent}
use Rattle.fax_gateway.specs.CallingLegs.{CallingLeg, question, rung_leg}
use Rattle.fax_gateway.specs.CalledLegs.{CalledLeg, begun_leg, calls, core_left, hears, with_tick}
use Rattle.fax_gateway.specs.Reached.{heard_on, ticked_on}

-- the datagrams of packets that were given, each with those before it
abbrev pub datagrams_of : Setup → List (List ℕ) → List (List ℕ)
datagrams_of setup [] = []
datagrams_of setup (packet ∷ given) = sent setup given packet ∷ datagrams_of setup given

-- ---- THE TERMINAL THAT CALLS sends the pages of a job as a gateway does on its called leg, in a call that begins at this moment.
abbrev pub begins : Setup → Writing → JobValue → ℕ → CalledLeg
begins setup writes job start = begun_leg job (core_left setup writes None) start

-- datagrams come
abbrev pub calling_with : Writing → ℕ → List (List ℕ) → CalledLeg → CalledLeg
calling_with writes now [] l = l
calling_with writes now (octets ∷ earlier) l =
    hears writes octets now (calling_with writes now earlier l)

-- a turn: datagrams come, and then time goes on, once
abbrev pub calling_turned : Writing → ℕ → List (List ℕ) → CalledLeg → CalledLeg
calling_turned writes now came l = with_tick
    (calls writes (calling_with writes now came l) now) now (calling_with writes now came l)

-- ---- THE TERMINAL THAT IS CALLED answers as a gateway does on its calling leg. A datagram that came to it, and what the image was
-- read as that it asks about
pub record ReadDatagram : Type 0 where
  pub octets : List ℕ
  pub read : Reading

abbrev pub octets_of : List ReadDatagram → List (List ℕ)
octets_of came = map (λ c. c.octets) came

-- the first datagram rings it
abbrev pub rung_once : Setup → ℕ → Option CallingLeg → CallingLeg
rung_once setup now None = rung_leg (new_answering setup.pause) now 0
rung_once setup now (Some l) = l

-- datagrams come
abbrev pub called_with : Setup → ℕ → List ReadDatagram → Option CallingLeg → Option CallingLeg
called_with setup now [] leg = leg
called_with setup now (c ∷ earlier) leg = heard_on
    setup (Some (rung_once setup now (called_with setup now earlier leg))) now c.octets c.read

-- each of the readings is right
abbrev pub AreCame : Setup → ℕ → List ReadDatagram → Option CallingLeg → Type 0
AreCame setup now [] leg = Unit {0}
AreCame setup now (c ∷ earlier) leg =
    IsRead (question (Some (rung_once setup now (called_with setup now earlier leg))) now c.octets)
    c.read × AreCame setup now earlier leg

-- a turn: datagrams come, and then time goes on, once
abbrev pub called_turned : Setup → ℕ → List ReadDatagram → Option CallingLeg → Option CallingLeg
called_turned setup now came leg = ticked_on (called_with setup now came leg) now

-- the pages that it confirmed
abbrev pub pages_on : Option CallingLeg → List PageValue
pages_on None = []
pages_on (Some l) = pages_confirmed (rung l.before l.begun) l.events

-- the page that a tick confirms, where it does
abbrev pub page_given : Option ConfirmedPage → Option PageValue
page_given None = None
page_given (Some confirmed) = Some confirmed.page
