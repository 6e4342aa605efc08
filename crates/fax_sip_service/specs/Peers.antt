-- A page goes to the machine that its job's number calls, whatever happens. (This project's profile.)
use Rattle.std.specs.Prelude.{◌≡◌, ℕ, List, Some, IsSome, Ok}
use Rattle.std.specs.List.{All}
use Rattle.fax_desk.specs.declared.told.LineEvent.TheVariants as happened
use Rattle.fax_sip.specs.Messages.{MessageText}
use Rattle.fax_switch.specs.declared.event.CallEvent.{CallEvent}
use Rattle.fax_switch.specs.declared.event.Event.{Event}
use Rattle.fax_switch.specs.declared.event.Event.TheVariants.{Within}
use Rattle.fax_switch.specs.declared.media.Description.TheVariants.{FaxAt}
use Rattle.fax_switch.specs.declared.media.FaxEnd.{FaxEnd}
use Rattle.fax_switch.specs.declared.place.LineCall.{LineCall}
use Rattle.fax_switch.specs.declared.place.Place.{Place}
use Rattle.fax_switch.specs.Descriptions.{Says}
use Rattle.fax_switch.specs.Histories.{dial_of, dial_with}
use Rattle.fax_switch.specs.SwitchLaws.{OnCalled}
use Rattle.fax_user_agent.specs.declared.settings.Trunk.{Trunk}
use Rattle.fax_user_agent.specs.Events.{MayBe}
use Rattle.fax_user_agent.specs.Placings.{IsRoutedOver}
use Rattle.fax_sip_service.specs.declared.said.Said.{Said}
use Rattle.fax_sip_service.specs.declared.said.Said.TheVariants as said
use Rattle.fax_sip_service.specs.Laws.{Setting, Step, Came, Happened, Passes, EachOf, IsBrought, IsNumberOf, SomeStep, said_in}
use Rattle.fax_sip_service.specs.Services.{Service, line_call}

-- a message of a trunk's host came that is in this call, and its body describes this end
abbrev pub Describes : Setting → ℕ → FaxEnd → Step → Type 0
Describes setting call end (Came now trunk message) =
    IsSome trunk × (text : MessageText) × (message ≡ Ok text) × (happening : CallEvent)
    × MayBe setting.routes text (Within call happening) × Says text.body (FaxAt end)
Describes setting call end other = ⊥

-- the job of this call of a line asked for its call, by a tag with this number
abbrev pub AsksFor : LineCall → List ℕ → Step → Type 0
AsksFor on number (Happened now line (happened.Asked job tag)) =
    (line_call line job.call ≡ Some on) × IsNumberOf tag number
AsksFor on number other = ⊥

abbrev pub call_at : Place → LineCall
call_at place = record { line = place.line; call = place.call }

-- The job of this call of the line asked for its call by a tag with a number; the newest dial of the line, for that job, began a call over the route of that number;
-- and a message in that call described this end.
pub record IsItsMachine (setting : Setting)
    (passed : List Step) (place : Place) (end : FaxEnd) : Type 0 where
  pub number : List ℕ
  pub asked : SomeStep (AsksFor (call_at place) number) passed
  pub route : ℕ
  pub trunk : Trunk
  pub routed : IsRoutedOver setting.trunks setting.routes number route trunk
  pub past : List (ℕ × Event)
  pub heard : EachOf (IsBrought setting passed) past
  pub call : ℕ
  pub dial : dial_of setting.most past place.line ≡ Some (dial_with call place.call route)
  pub described : SomeStep (Describes setting call end) passed

-- where it is the peer of a called leg
abbrev pub IsToItsMachine : Setting → List Step → Said → Type 0
IsToItsMachine setting passed (said.Peer place end is_moved) =
    OnCalled place.leg (IsItsMachine setting passed place end)
IsToItsMachine setting passed (said.Ring call tag) = Unit {0}
IsToItsMachine setting passed (said.Refuse place digits) = Unit {0}
IsToItsMachine setting passed (said.HangUp place) = Unit {0}

-- EACH PEER THAT SIP SAYS OF A CALLED LEG IS THE MACHINE OF ITS JOB, while memory is not refused.
-- Ruled out: a number that is called over another's route; a peer that no message described, as one that time brings; the machine of the job before, or of another line.
abbrev pub PeersAreOfTheirJobs : Type 0
PeersAreOfTheirJobs = (setting : Setting) (passed : List Step) (service : Service)
    → Passes setting passed service → service.lost ≡ 0
    → All (IsToItsMachine setting passed) (said_in passed)
