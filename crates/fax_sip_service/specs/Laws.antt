-- What SIP says at the desk, over whatever happens to it. Lists of steps have the newest first. (This project's profile.)
use Rattle.std.specs.Prelude.{◌≡◌, ℕ, ◌⊎◌, List, [], ◌∷◌, ◌++◌, map, Option, Some, IsSome, Result, Ok}
use Rattle.std.specs.List.{flat_map}
use Rattle.std.specs.Option.{option_to_list}
use Rattle.fax_desk.specs.declared.next.Reply.{Reply}
use Rattle.fax_desk.specs.declared.next.Reply.TheVariants as reply
use Rattle.fax_desk.specs.declared.tag.Tag.{Tag}
use Rattle.fax_desk.specs.declared.told.LineEvent.{LineEvent}
use Rattle.fax_desk.specs.declared.told.LineEvent.TheVariants as happened
use Rattle.fax_sip.specs.declared.fault.SipFault.{SipFault}
use Rattle.fax_sip.specs.Messages.{MessageText}
use Rattle.fax_switch.specs.declared.action.LineAction.{LineAction}
use Rattle.fax_switch.specs.declared.event.Event.{Event}
use Rattle.fax_switch.specs.declared.event.Event.TheVariants.{Rung, NotRung, CallOver, JobOver}
use Rattle.fax_switch.specs.declared.place.LineCall.{LineCall}
use Rattle.fax_switch.specs.declared.place.Place.{Place}
use Rattle.fax_switch.specs.Histories.{table_after}
use Rattle.fax_switch.specs.Tables.{begun}
use Rattle.fax_trunks.specs.RouteValues.{RouteValue}
use Rattle.fax_user_agent.specs.declared.out.LineOrder.{LineOrder}
use Rattle.fax_user_agent.specs.declared.settings.Trunk.{Trunk}
use Rattle.fax_user_agent.specs.Dues.{MayBeDue}
use Rattle.fax_user_agent.specs.Events.{MayBe}
use Rattle.fax_user_agent.specs.Orders.{word_of, words_of}
use Rattle.fax_user_agent.specs.Placings.{IsDial}
use Rattle.fax_sip_service.specs.declared.said.Said.{Said}
use Rattle.fax_sip_service.specs.declared.said.Said.TheVariants as said
use Rattle.fax_sip_service.specs.Numbers.{number_in}
use Rattle.fax_sip_service.specs.Services.{Service, AndCollects, Answers, AnswersIf, EndsAll, GoesOn, Happens, HearsFrom, Leaves, line_call, over_of}
use Rattle.fax_sip_service.specs.Words.{said_of}

-- A datagram of this trunk came, which is this message, or none; time passed; what is to be said next was taken; what was said waits for the end of its order;
-- that ended so; what was said was answered so; this happened on this line; the server stops; it has stopped; what is to be sent or told was taken.
pub data Step : Type 0 where
  Came : (now : ℕ) → (trunk : Option ℕ) → (message : Result MessageText SipFault) → Step
  Passed : (now : ℕ) → Step
  Spoke : (it : Option Said) → Step
  Waited : (it : Said) → Step
  Ended : (now : ℕ) → (answer : Reply) → Step
  Answered : (now : ℕ) → (it : Said) → (answer : Reply) → Step
  Happened : (now : ℕ) → (line : ℕ) → (what : LineEvent) → Step
  Stops : (now : ℕ) → Step
  Stopped : (now : ℕ) → Step
  Emptied : Step

-- what is to be said is taken from its head
pub record Speaks (it : Option Said) (old new : Service) : Type 0 where
  pub first : old.to_say ≡ option_to_list it ++ new.to_say
  pub rest : new ≡ record old { to_say = new.to_say }

-- what is to be sent, or told, is taken
pub record Empties (old new : Service) : Type 0 where
  pub trunks : new.agent.trunks ≡ old.agent.trunks
  pub routes : new.agent.routes ≡ old.agent.routes
  pub switch : new.agent.switch ≡ old.agent.switch
  pub words : new.agent.words ≡ old.agent.words
  pub to_say : new.to_say ≡ old.to_say
  pub lost : new.lost ≡ old.lost

-- so each step is, by the contracts of the service
abbrev pub StepsBy : Step → Service → Service → Type 0
StepsBy (Came now trunk message) old new = AndCollects now (HearsFrom now trunk message) old new
StepsBy (Passed now) old new = AndCollects now (GoesOn now) old new
StepsBy (Spoke it) old new = Speaks it old new
StepsBy (Waited it) old new = new ≡ record old { waits = Some it }
StepsBy (Ended now answer) old new = AnswersIf now old.waits answer old new
StepsBy (Answered now it answer) old new = AndCollects now (Answers now it answer) old new
StepsBy (Happened now line what) old new = Happens now line what old new
StepsBy (Stops now) old new = Leaves now old.is_leaving old new
StepsBy (Stopped now) old new = EndsAll now old new
StepsBy Emptied old new = Empties old new

-- what the agent was made with: its trunks and its routes, and how many calls there may be
pub record Setting : Type 0 where
  pub trunks : List Trunk
  pub routes : List RouteValue
  pub most : ℕ

-- it has these trunks and routes, and nothing has happened
pub record IsMade (setting : Setting) (service : Service) : Type 0 where
  pub trunks : service.agent.trunks ≡ setting.trunks
  pub routes : service.agent.routes ≡ setting.routes
  pub switch : service.agent.switch ≡ begun setting.most
  pub words : service.agent.words ≡ []
  pub to_say : service.to_say ≡ []

abbrev pub Passes : Setting → List Step → Service → Type 0
Passes setting [] service = IsMade setting service
Passes setting (step ∷ earlier) service =
    (before : Service) × Passes setting earlier before × StepsBy step before service

-- what was said, oldest first
abbrev pub said_by : Step → List Said
said_by (Came now trunk message) = []
said_by (Passed now) = []
said_by (Spoke it) = option_to_list it
said_by (Waited it) = []
said_by (Ended now answer) = []
said_by (Answered now it answer) = []
said_by (Happened now line what) = []
said_by (Stops now) = []
said_by (Stopped now) = []
said_by Emptied = []

abbrev pub said_in : List Step → List Said
said_in [] = []
said_in (step ∷ earlier) = said_in earlier ++ said_by step

-- the words of the switch to lines, oldest first, since what happened to it, newest first
abbrev pub words_since : ℕ → List (ℕ × Event) → List LineAction
words_since most [] = []
words_since most (happening ∷ past) =
    words_since most past ++ words_of (table_after most (happening ∷ past)).entries

-- what orders say
abbrev pub says : List LineOrder → List Said
says orders = flat_map (λ given. option_to_list (said_of given)) orders

-- ---- what the switch heard

-- how what was said was answered
abbrev pub AnswerBrings : Said → Reply → Event → Type 0
AnswerBrings (said.Ring call tag) (reply.RungOn rung) event =
    (on : LineCall) × (line_call rung.line rung.call ≡ Some on) × (event ≡ Rung call on)
AnswerBrings (said.Ring call tag) (reply.Refused why) event = event ≡ NotRung call 503
AnswerBrings (said.Ring call tag) reply.Done event = ⊥
AnswerBrings (said.Ring call tag) (reply.Rung rung) event = ⊥
AnswerBrings (said.Peer place end is_moved) (reply.Refused why) event = event ≡ over_of place
AnswerBrings (said.Peer place end is_moved) (reply.RungOn rung) event = ⊥
AnswerBrings (said.Peer place end is_moved) reply.Done event = ⊥
AnswerBrings (said.Peer place end is_moved) (reply.Rung rung) event = ⊥
AnswerBrings (said.Refuse place digits) answer event = ⊥
AnswerBrings (said.HangUp place) answer event = ⊥

-- the number of a tag
abbrev pub IsNumberOf : Option Tag → List ℕ → Type 0
IsNumberOf tag number = (it : Tag) × (tag ≡ Some it) × (number_in it ≡ Some number)

-- The call of a job of this line is asked for, to the number of its tag; its call is over, or its job.
abbrev pub LineBrings : Setting → ℕ → LineEvent → Event → Type 0
LineBrings setting line (happened.Asked job tag) event = (on : LineCall)
    × (number : List ℕ) × (line_call line job.call ≡ Some on) × IsNumberOf tag number
    × IsDial setting.trunks setting.routes on number event
LineBrings setting line (happened.Ended ended ending) event =
    (on : LineCall) × (line_call line ended.call ≡ Some on) × (event ≡ CallOver on)
LineBrings setting line (happened.Job report tag cause) event =
    (on : LineCall) × (line_call line report.call ≡ Some on) × (event ≡ JobOver on)
LineBrings setting line other event = ⊥

-- a message of a trunk's host is an event that it may be
abbrev pub MessageBrings : Setting → Option ℕ → Result MessageText SipFault → Event → Type 0
MessageBrings setting trunk message event = IsSome trunk
    × (text : MessageText) × (message ≡ Ok text) × MayBe setting.routes text event

-- What a step brings the switch, if anything: a datagram what its message may be, time one thing after the other, an answer, a line's event; and as the server
-- ends, the end of a call.
abbrev pub Brings : Setting → Step → ℕ × Event → Type 0
Brings setting (Came now trunk message) heard =
    (heard.0 ≡ now) × MessageBrings setting trunk message heard.1
Brings setting (Passed now) heard = (heard.0 ≡ now) × MayBeDue heard.1
Brings setting (Spoke it) heard = ⊥
Brings setting (Waited it) heard = ⊥
Brings setting (Ended now answer) heard =
    (heard.0 ≡ now) × ((it : Said) × AnswerBrings it answer heard.1)
Brings setting (Answered now it answer) heard = (heard.0 ≡ now) × AnswerBrings it answer heard.1
Brings setting (Happened now line what) heard =
    (heard.0 ≡ now) × LineBrings setting line what heard.1
Brings setting (Stops now) heard = ⊥
Brings setting (Stopped now) heard =
    (heard.0 ≡ now) × ((place : Place) × (heard.1 ≡ over_of place))
Brings setting Emptied heard = ⊥

abbrev pub SomeStep : (Step → Type 0) → List Step → Type 0
SomeStep P [] = ⊥
SomeStep P (step ∷ earlier) = P step ⊎ SomeStep P earlier

-- some step brought it
abbrev pub IsBrought : Setting → List Step → ℕ × Event → Type 0
IsBrought setting passed heard = SomeStep (λ step. Brings setting step heard) passed

abbrev pub EachOf : (ℕ × Event → Type 0) → List (ℕ × Event) → Type 0
EachOf P [] = Unit {0}
EachOf P (heard ∷ past) = P heard × EachOf P past

-- What the switch heard, each of which was brought so, and the orders of the agent, which are its words: they say what was said and what is to be said. The agent's
-- trunks and routes are those that it was made with.
pub record SaysItsWords (setting : Setting)
    (brought : ℕ × Event → Type 0) (told : List Said) (service : Service) : Type 0 where
  pub trunks : service.agent.trunks ≡ setting.trunks
  pub routes : service.agent.routes ≡ setting.routes
  pub past : List (ℕ × Event)
  pub came : EachOf brought past
  pub orders : List LineOrder
  pub switch : service.agent.switch ≡ table_after setting.most past
  pub words : map word_of orders ++ service.agent.words ≡ words_since setting.most past
  pub same : told ++ service.to_say ≡ says orders

-- EACH WORD OF THE SWITCH IS SAID, each once and in its order, while memory is not refused: the calls are those of the switch after what it heard, of which its
-- own laws speak, and each thing that it heard was brought by a datagram, a moment, an answer or a line; what it has to say to lines since then is what the agent
-- ordered; and these orders, in their order, are what was said at the desk and then what is still to be said.
abbrev pub EachWordIsSaid : Type 0
EachWordIsSaid = (setting : Setting) (passed : List Step) (service : Service)
    → Passes setting passed service → service.lost ≡ 0
    → SaysItsWords setting (IsBrought setting passed) (said_in passed) service
