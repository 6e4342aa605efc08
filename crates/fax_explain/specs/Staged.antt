-- What a stage holds of what was played.
use Rattle.std.specs.Prelude.{◌≡◌, ℕ, ◌⊎◌, max, Bool, true, false, List, [], ◌∷◌, ◌++◌, Option, Some, None}
use Rattle.fax_udptl.specs.Datagrams.{DatagramValue}
use Rattle.fax_jobs.specs.Jobs.{JobValue}
use Rattle.fax_call.specs.Delivery.{is_over}
use Rattle.fax_call.specs.Writings.{IsWriting, Writing}
use Rattle.fax_gateway.specs.declared.given.Kept.{Kept}
use Rattle.fax_gateway.specs.declared.given.RefusedPage.{RefusedPage}
use Rattle.fax_gateway.specs.Setups.{AreSet, Setup}
use Rattle.fax_answer.specs.Replies.{ConfirmedPage}
use Rattle.fax_gateway.specs.CallingLegs.{CallingLeg, calling_leg, core_of, is_idle}
use Rattle.fax_gateway.specs.CalledLegs as called_legs
use Rattle.fax_gateway.specs.CalledLegs.{CalledLeg}
use Rattle.fax_gateway.specs.BothLegs.{both_legs}
use Rattle.fax_gateway.specs.Cuts.{confirmed_at}
use Rattle.fax_gateway.specs.Events.{Event, clock, moment_of}
use Rattle.fax_gateway.specs.Reached.{GatewayValue, IsReachedBy, given_on}
use Rattle.fax_gateway.specs.Watched.{called_state}
use Rattle.fax_trace.specs.declared.event.ScriptEvent.{ScriptEvent}
use Rattle.fax_trace.specs.declared.event.ScriptEvent.TheVariants.{Tick}
use Rattle.fax_trace.specs.Playing.{PlayedScript, IsRefusal, moment_at, scripted}
use Rattle.fax_explain.specs.declared.stage.FoundPage.{FoundPage}
use Rattle.fax_explain.specs.declared.stage.Stage.{Stage}
use Rattle.fax_explain.specs.declared.listener.Listener.{Listener}
use Rattle.fax_explain.specs.Given.{IsToCalled, TellsGiven, given_datagrams, given_to, to_called}
use Rattle.fax_explain.specs.Heard.{IsEar, IsHearing}
use Rattle.fax_explain.specs.Listening.{Ear, in_call, outside, outside_call}
use Rattle.fax_explain.specs.Ladders.{HasAnswer, TellsPlay, begun_tellings, called_timers_told, came_from_called, came_from_caller, pages_so_far, timers_told, with_page, with_why}
use Rattle.fax_explain.specs.Marks.{given_signal}
use Rattle.fax_explain.specs.Places.{HasPicture}
use Rattle.fax_descriptions.specs.declared.lane.Lane.{Lane}
use Rattle.fax_descriptions.specs.declared.lane.Lane.TheVariants.{FromCaller, FromCalled, ToCaller}
use Rattle.fax_descriptions.specs.Tales.{inside, paragraph_text}
use Rattle.fax_descriptions.specs.Tellings.{Description}

-- the listener to the caller has heard what arrived in the call that is on
abbrev pub HearsCall : Option CallingLeg → Listener → Type 0
HearsCall None listener = Unit {0}
HearsCall (Some leg) listener = is_idle (core_of leg).state ≡ false
    → IsEar (in_call FromCaller) listener × IsHearing leg.arrived listener

-- and the one to the called machine, while its job is sent and its call is not over
abbrev pub HearsJob : Writing → Option CalledLeg → Listener → Type 0
HearsJob writes None listener = Unit {0}
HearsJob writes (Some leg) listener = leg.entered ≡ false
    → is_over (called_legs.core_of writes leg).state ≡ false
    → IsEar (in_call FromCalled) listener × IsHearing leg.arrived listener

-- and each of them has heard what came since the last call began, and may go on to hear while no call is on
abbrev pub HearsOutside : Lane → (came : List DatagramValue) → Listener → Type 0
HearsOutside lane came listener =
    IsEar (outside_call lane) (outside listener) × IsHearing came listener

-- the listeners to the gateway itself have heard what it gave on each leg, in the last call of that
abbrev pub GivesCall : Setup → Option CallingLeg → Listener → Type 0
GivesCall setup leg ours =
    IsEar (in_call ToCaller) ours × IsHearing (given_datagrams setup (given_on leg)) ours

abbrev pub GivesJob : Setup → Option CalledLeg → Listener → Type 0
GivesJob setup leg ours = IsToCalled ours × IsHearing (given_datagrams setup (given_to leg)) ours

-- where a job is sent, the listener to the called machine is a new one; and where none was sent before
abbrev pub BeginsWith : Option JobValue → (old new : Listener) → Type 0
BeginsWith None old new = new ≡ old
BeginsWith (Some job) old new = IsEar (in_call FromCalled) new × IsHearing [] new

-- where a job could not be sent on, what comes is passed over
abbrev pub FailsWith : Option JobValue → (old new : Listener) → Type 0
FailsWith None old new = new ≡ old
FailsWith (Some job) old new = IsEar (outside_call FromCalled) new × IsHearing [] new

abbrev pub BeginsIf : (was_sending : Bool) → Option JobValue → (old new : Listener) → Type 0
BeginsIf true sending old new = new ≡ old
BeginsIf false sending old new = BeginsWith sending old new

-- and so is the one to what is given to it
abbrev pub GivesWith : Option JobValue → (old new : Listener) → Type 0
GivesWith None old new = new ≡ old
GivesWith (Some job) old new = IsToCalled new × IsHearing [] new

abbrev pub GivesIf : (was_sending : Bool) → Option JobValue → (old new : Listener) → Type 0
GivesIf true sending old new = new ≡ old
GivesIf false sending old new = GivesWith sending old new

-- lines of what a tick gives to the caller are told, after that the datagrams that were given before, with the page that it confirms,
-- of this number, or why it refuses one
abbrev pub TellsGiving : Ear → List DatagramValue → Option (List ℕ)
    → Option Kept → (page : ℕ) → Option RefusedPage → (old new : List Description) → Type 0
TellsGiving ear arrived given kept page refused old new =
    (own : List Description) × TellsGiven ear arrived given [] own
    × (new ≡ old ++ with_why refused (with_page kept page own))

-- and lines of what it gives to the called machine, in the state of its call in which the tick leaves it
abbrev pub TellsTo : GatewayValue
    → Listener → Option (List ℕ) → (old new : List Description) → Type 0
TellsTo gateway ours given old new = (setup : Setup) (writes : Writing) (trace : List Event)
    → IsReachedBy setup writes trace gateway → (arrived : List DatagramValue)
    → IsHearing arrived ours → IsToCalled ours → (own : List Description)
    × TellsGiven (to_called (given_signal (called_state writes (both_legs setup writes trace).leg)))
    arrived given [] own × (new ≡ old ++ own)

-- the call of the job that is sent is told as it begins, where none was sent before
abbrev pub begun_if : (was_sending : Bool) → Option JobValue → List Description
begun_if true sending = []
begun_if false sending = begun_tellings sending

-- the trace led to a stage, where this function gives the texts of pages: to its gateway, and to what was heard
pub record IsStagedBy (setup : Setup) (writes : Writing) (trace : List Event) (stage : Stage) :
    Type 0 where
  pub reached : IsReachedBy setup writes trace stage.gateway
  pub hears : HearsCall (calling_leg setup trace) stage.calling.theirs
  pub hears_job : HearsJob writes (both_legs setup writes trace).leg stage.called.theirs
  pub caller_outside : HearsOutside FromCaller (came_from_caller trace) stage.calling.theirs
  pub called_outside :
      HearsOutside FromCalled (came_from_called setup writes trace) stage.called.theirs
  pub gives : GivesCall setup (calling_leg setup trace) stage.calling.ours
  pub gives_job : GivesJob setup (both_legs setup writes trace).leg stage.called.ours
  pub pages : stage.calling.pages ≡ pages_so_far setup trace

-- A gateway accepted one event more, and this is told of its answer.
pub record HasAccepted (setup : Setup) (writes : Writing) (old : PlayedScript)
    (event : ScriptEvent) (told : List Description) (stage : Stage) : Type 0 where
  pub accepted : Event
  pub event_is : scripted accepted ≡ event
  pub at : moment_of accepted ≡ moment_at event old.moment
  pub answer : HasAnswer setup writes old.trace accepted told
  pub reached : IsStagedBy setup writes (accepted ∷ old.trace) stage

-- or it refused it, and this is told of why
pub record HasRefused (setup : Setup) (writes : Writing) (old : PlayedScript)
    (event : ScriptEvent) (told : List Description) (stage : Stage) : Type 0 where
  pub line : List ℕ
  pub cause : IsRefusal setup writes old.trace event line
  pub why : List ℕ
  pub told_is : told ≡ inside (line ++ why) ∷ []
  pub reached : IsStagedBy setup writes old.trace stage

abbrev pub HasAnswered : Setup
    → Writing → PlayedScript → ScriptEvent → List Description → Stage → Type 0
HasAnswered setup writes old event told stage =
    HasAccepted setup writes old event told stage ⊎ HasRefused setup writes old event told stage

-- one event more was played on a gateway, and this is told of it
pub record PlaysOn (setup : Setup) (writes : Writing) (old : PlayedScript)
    (event : ScriptEvent) (told : List Description) (stage : Stage) : Type 0 where
  pub new : PlayedScript
  pub tells : TellsPlay setup writes old event new told
  pub reached : IsStagedBy setup writes new.trace stage

-- nothing was played
abbrev pub IsNew : Stage → Type 0
IsNew stage = (setup : Setup) (writes : Writing)
    → AreSet setup stage.gateway.settings → IsStagedBy setup writes [] stage

-- the timers that act in a tick at this moment are told
abbrev pub TimersAct : GatewayValue → (moment : ℕ) → (old new : List Description) → Type 0
TimersAct gateway moment old new = (setup : Setup) (writes : Writing) (trace : List Event)
    → IsReachedBy setup writes trace gateway
    → new ≡ old ++ (timers_told (calling_leg setup trace) (max moment (clock trace))
    ++ called_timers_told writes (both_legs setup writes trace).leg (max moment (clock trace)))

-- after a tick at this moment: where the trace confirms a page in it, that page has its picture
abbrev pub Pictures : GatewayValue → (moment : ℕ) → (old new : List FoundPage) → Type 0
Pictures gateway moment old new = (setup : Setup) (writes : Writing) (trace : List Event)
    → IsWriting writes → IsReachedBy setup writes trace gateway → (confirmed : ConfirmedPage)
    → confirmed_at (calling_leg setup trace) (max moment (clock trace)) ≡ Some confirmed
    → HasPicture confirmed.page old new

-- ---- over whatever was played

-- this is so of each setup, writing and script that led to a stage
abbrev pub EachScript : Stage → (Setup → Writing → PlayedScript → Type 0) → Type 0
EachScript stage IsSo =
    (setup : Setup) (writes : Writing) (played : PlayedScript)
    → IsStagedBy setup writes played.trace stage → IsSo setup writes played

-- the same of those that told this moment last
abbrev pub EachScriptTo : (moment : ℕ) → Stage → (Setup → Writing → PlayedScript → Type 0)
    → Type 0
EachScriptTo moment stage IsSo =
    (setup : Setup) (writes : Writing) (played : PlayedScript) → moment ≡ played.moment
    → IsStagedBy setup writes played.trace stage → IsSo setup writes played

-- the same of those after which an event comes at this moment, where pages are written as a right
-- writing has them
abbrev pub EachScriptBefore : ScriptEvent → (moment : ℕ) → Stage
    → (Setup → Writing → PlayedScript → Type 0) → Type 0
EachScriptBefore event moment stage IsSo =
    (setup : Setup) (writes : Writing) (played : PlayedScript) → IsWriting writes
    → moment ≡ moment_at event played.moment
    → IsStagedBy setup writes played.trace stage → IsSo setup writes played

-- AN EVENT WAS ANSWERED: after each script that led to the old stage this is told of the answer,
-- and the new one has taken it
abbrev pub AnswersEvent : (old : Stage) → ScriptEvent → (told : List Description)
    → (new : Stage) → Type 0
AnswersEvent old event told new =
    EachScript old (λ setup writes played. HasAnswered setup writes played event told new)

-- the same of an event that comes at the moment that was told last
abbrev pub AnswersAt : (moment : ℕ) → (old : Stage) → ScriptEvent → (told : List Description)
    → (new : Stage) → Type 0
AnswersAt moment old event told new =
    EachScriptTo moment old (λ setup writes played. HasAnswered setup writes played event told new)

-- the same of a tick, where pages are written as a right writing has them
abbrev pub AnswersTick : (moment : ℕ) → (old : Stage) → (told : List Description)
    → (new : Stage) → Type 0
AnswersTick moment old told new =
    (setup : Setup) (writes : Writing) (played : PlayedScript) → IsWriting writes
    → IsStagedBy setup writes played.trace old
    → HasAnswered setup writes played (Tick moment) told new

-- the same of any event, at its moment
abbrev pub AnswersAny : ScriptEvent → (moment : ℕ) → (old : Stage)
    → (told : List Description) → (new : Stage) → Type 0
AnswersAny event moment old told new = EachScriptBefore event moment old
    (λ setup writes played. HasAnswered setup writes played event told new)

-- AN EVENT WAS PLAYED at its moment: this is told of it, and of the call that is asked for from
-- then on
abbrev pub PlaysEvent : ScriptEvent → (moment : ℕ) → (old : Stage)
    → (told : List Description) → (new : Stage) → Type 0
PlaysEvent event moment old told new = EachScriptBefore event moment old
    (λ setup writes played. PlaysOn setup writes played event told new)

-- one event more is played on a gateway, and a text tells it, all at this moment
pub record TellsOn (event : ScriptEvent) (moment : ℕ) (text : List ℕ) (before after : Stage) :
    Type 0 where
  pub told : List Description
  pub text_is : text ≡ paragraph_text moment told
  pub plays : PlaysEvent event moment before told after
