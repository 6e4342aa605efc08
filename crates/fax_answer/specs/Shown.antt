-- What contracts see of a page that is confirmed.
use Rattle.std.specs.Prelude.{◌≡◌, List, ℕ, Option, Some, None}
use Rattle.fax_answer.specs.declared.step.Confirmed.{Confirmed}
use Rattle.fax_answer.specs.declared.step.Step.{Step}
use Rattle.fax_answer.specs.Replies.{ConfirmedPage, WaitingPacket}
use Rattle.fax_answer.specs.Calls.{TickResult}
use Rattle.fax_answer.specs.Refusals.{TellsWhy}

abbrev pub page_shown : {S : Type 0} → Confirmed S → ConfirmedPage
page_shown c = record { page = c.page; closes = c.closes }

abbrev pub confirmed_shown : {S : Type 0} → Option (Confirmed S) → Option ConfirmedPage
confirmed_shown None = None
confirmed_shown (Some c) = Some (page_shown c)

-- the packet of a waiting one, and the page that it confirms
abbrev pub packet_in : Option WaitingPacket → Option (List ℕ)
packet_in None = None
packet_in (Some w) = Some w.packet

abbrev pub confirmed_in : Option WaitingPacket → Option ConfirmedPage
confirmed_in None = None
confirmed_in (Some w) = w.confirmed

-- a step says what a tick gives
pub record IsStep {S : Type 0} (t : TickResult) (step : Step S) : Type 0 where
  pub packet : step.packet ≡ packet_in t.given
  pub confirmed : confirmed_shown step.confirmed ≡ confirmed_in t.given
  pub refused : TellsWhy t step.refused
  pub ends : step.ended ≡ t.ended
