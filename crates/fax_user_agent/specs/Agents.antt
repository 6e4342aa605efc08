-- What a user agent is seen as, and how each event takes it on.
use Rattle.std.specs.Prelude.{◌≡◌, ℕ, ◌⊎◌, List, ◌++◌, Option, None, IsSome, Result, Ok, Err}
use Rattle.fax_sip.specs.declared.fault.SipFault.{SipFault}
use Rattle.fax_sip.specs.Messages.{MessageText}
use Rattle.fax_switch.specs.declared.action.LineAction.{LineAction}
use Rattle.fax_switch.specs.declared.event.Event.{Event}
use Rattle.fax_switch.specs.declared.place.LineCall.{LineCall}
use Rattle.fax_switch.specs.Tables.{Table, row, swept}
use Rattle.fax_trunks.specs.RouteValues.{RouteValue}
use Rattle.fax_user_agent.specs.declared.out.Datagram.{Datagram}
use Rattle.fax_user_agent.specs.declared.out.Heard.{Heard}
use Rattle.fax_user_agent.specs.declared.out.Heard.TheVariants as heard
use Rattle.fax_user_agent.specs.declared.out.Told.{Told}
use Rattle.fax_user_agent.specs.declared.settings.Trunk.{Trunk}
use Rattle.fax_user_agent.specs.Events.{MayBe}
use Rattle.fax_user_agent.specs.Orders.{words_of}
use Rattle.fax_user_agent.specs.Placings.{IsDial}

-- its trunks and its routes, the calls of its switch, and what is to come out: datagrams, words to lines, and what is told
pub record Agent : Type 0 where
  pub trunks : List Trunk
  pub routes : List RouteValue
  pub switch : Table
  pub datagrams : List Datagram
  pub words : List LineAction
  pub told : List Told

-- more stands at the end, and what was there stands before it
abbrev pub Extends : {A : Type 0} → List A → List A → Type 0
Extends {A = A} old new = (more : List A) × (new ≡ old ++ more)

-- Nothing that is to come out is lost or changed, and the trunks and the routes stay.
pub record Queues (old new : Agent) : Type 0 where
  pub trunks : new.trunks ≡ old.trunks
  pub routes : new.routes ≡ old.routes
  pub datagrams : Extends old.datagrams new.datagrams
  pub told : Extends old.told new.told

-- The switch hears an event, and lines are told what it says then, no more and no less.
pub record Hears (now : ℕ) (event : Event) (old new : Agent) : Type 0 where
  pub switch : new.switch ≡ row old.switch now event
  pub words : new.words ≡ old.words ++ words_of new.switch.entries

-- the switch hears nothing, and lines are told nothing
pub record IsQuiet (old new : Agent) : Type 0 where
  pub switch : new.switch ≡ old.switch
  pub words : new.words ≡ old.words

-- Memory was refused: the switch hears nothing, or heard the event, and of what lines are to be told then the end may be lost.
pub record HearsInPart (now : ℕ) (event : Event) (old new : Agent) : Type 0 where
  pub switch : (new.switch ≡ row old.switch now event) ⊎ (new.switch ≡ swept old.switch)
  pub words : Extends old.words new.words

-- the switch hears one event of this kind
abbrev pub HearsSome : (Event → Type 0) → ℕ → Agent → Agent → Type 0
HearsSome may now old new = (event : Event) × may event × Hears now event old new

-- Memory was refused before such an event was heard, or after it.
abbrev pub MayHearInPart : (Event → Type 0) → ℕ → Agent → Agent → Type 0
MayHearInPart may now old new =
    IsQuiet old new ⊎ ((event : Event) × may event × HearsInPart now event old new)

-- one event that the message may be, or none
abbrev pub MayHear : ℕ → MessageText → Agent → Agent → Type 0
MayHear now text old new = IsQuiet old new ⊎ HearsSome (MayBe old.routes text) now old new

abbrev pub MayHearMessageInPart : ℕ → MessageText → Agent → Agent → Type 0
MayHearMessageInPart now text old new = MayHearInPart (MayBe old.routes text) now old new

-- the call of a job is asked for, to this number, however it is placed
abbrev pub HearsDial : ℕ → LineCall → List ℕ → Agent → Agent → Type 0
HearsDial now on octets old new = HearsSome (IsDial old.trunks old.routes on octets) now old new

abbrev pub MayHearDialInPart : ℕ → LineCall → List ℕ → Agent → Agent → Type 0
MayHearDialInPart now on octets old new =
    MayHearInPart (IsDial old.trunks old.routes on octets) now old new

-- What is answered of a datagram, whose trunk and whose message are these, and what is done. Nothing is, where it is of nobody who is heard, or no message;
-- a message is an event for the switch that it may be, or none.
abbrev pub HearsDatagram : {E : Type 0}
    → ℕ → Option ℕ → Result MessageText SipFault → Result Heard E → Agent → Agent → Type 0
HearsDatagram now trunk message (Ok heard.Stranger) old new = (trunk ≡ None) × (new ≡ old)
HearsDatagram now trunk message (Ok (heard.NoMessage fault)) old new =
    IsSome trunk × (message ≡ Err fault) × (new ≡ old)
HearsDatagram now trunk message (Ok heard.Message) old new =
    IsSome trunk × (text : MessageText) × (message ≡ Ok text) × MayHear now text old new
HearsDatagram now trunk message (Err failed) old new = IsSome trunk
    × (text : MessageText) × (message ≡ Ok text) × MayHearMessageInPart now text old new
