-- What is seen of SIP beside the lines, and what takes it on (this project's profile).
use Rattle.std.specs.Prelude.{◌≡◌, ℕ, zero, suc, ◌+◌, min, nat_lt, Bool, true, false, not, if◌then◌else◌, ◌⊎◌, List, [], ◌∷◌, ◌++◌, map, filter, Option, None, Some, option_map, slice_get, Result, Ok, Err}
use Rattle.std.specs.declared.net.socket_addr.SocketAddr.{SocketAddr}
use Rattle.fax_desk.specs.declared.next.Reply.{Reply}
use Rattle.fax_desk.specs.declared.next.Reply.TheVariants as reply
use Rattle.fax_desk.specs.declared.tag.Tag.{Tag}
use Rattle.fax_desk.specs.declared.told.LineEvent.{LineEvent}
use Rattle.fax_desk.specs.declared.told.LineEvent.TheVariants as happened
use Rattle.fax_sip.specs.declared.fault.SipFault.{SipFault}
use Rattle.fax_sip.specs.Messages.{MessageText}
use Rattle.fax_switch.specs.declared.event.Event.{Event}
use Rattle.fax_switch.specs.declared.event.Event.TheVariants.{Rung, NotRung, CallOver, JobOver}
use Rattle.fax_switch.specs.declared.place.Leg.{Leg}
use Rattle.fax_switch.specs.declared.place.Leg.TheVariants.{Calling, Called}
use Rattle.fax_switch.specs.declared.place.LineCall.{LineCall}
use Rattle.fax_switch.specs.declared.place.Place.{Place}
use Rattle.fax_switch.specs.Places.{called_place, calling_place, same_place}
use Rattle.fax_trunks.specs.RouteValues.{RouteValue}
use Rattle.fax_user_agent.specs.declared.out.Heard.{Heard}
use Rattle.fax_user_agent.specs.declared.out.LineOrder.{LineOrder}
use Rattle.fax_user_agent.specs.declared.out.LineOrder.TheVariants as order
use Rattle.fax_user_agent.specs.declared.out.Told.{Told}
use Rattle.fax_user_agent.specs.Agents.{Agent, Hears, HearsDatagram, HearsDial, HearsInPart, HearsSome, IsQuiet, MayHearDialInPart, MayHearInPart, Queues}
use Rattle.fax_user_agent.specs.Dues.{MayBeDue}
use Rattle.fax_user_agent.specs.Orders.{word_of}
use Rattle.fax_sip_service.specs.declared.line.SipLine.{SipLine}
use Rattle.fax_sip_service.specs.declared.said.Said.{Said}
use Rattle.fax_sip_service.specs.declared.said.Said.TheVariants as said
use Rattle.fax_sip_service.specs.Numbers.{number_for}
use Rattle.fax_sip_service.specs.Words.{said_of}

-- the user agent, the lines and the routes; what is to be said at the desk, in its order, and what was said there and gave an order that is not told back; the
-- legs whose calls SIP holds; what is to be told; how often memory was refused; and whether the server stops
pub record Service : Type 0 where
  pub agent : Agent
  pub lines : List SipLine
  pub routes : List RouteValue
  pub to_say : List Said
  pub waits : Option Said
  pub places : List Place
  pub news : List Told
  pub lost : ℕ
  pub is_leaving : Bool

-- memory was refused once more
abbrev pub counted : ℕ → ℕ
counted lost = min (lost + 1) 18446744073709551615

abbrev pub noted : {A E : Type 0} → Result A E → Service → Service
noted (Ok done) service = service
noted (Err failed) service = record service { lost = counted service.lost }

-- nothing is done, or memory was refused for it, and no more
abbrev pub IsNoted : Service → Service → Type 0
IsNoted old new = (new ≡ old) ⊎ (new ≡ record old { lost = counted old.lost })

-- ---- what the agent does, and nothing else changes

pub record DoesWhole (does : Agent → Agent → Type 0) (old new : Service) : Type 0 where
  pub rest : new ≡ record old { agent = new.agent }
  pub queues : Queues old.agent new.agent
  pub done : does old.agent new.agent

-- memory was refused for some of it
pub record DoesPart (does : Agent → Agent → Type 0) (old new : Service) : Type 0 where
  pub rest : new ≡ record old { agent = new.agent; lost = counted old.lost }
  pub queues : Queues old.agent new.agent
  pub done : does old.agent new.agent

abbrev pub Does : (whole part : Agent → Agent → Type 0) → Service → Service → Type 0
Does whole part old new = DoesWhole whole old new ⊎ DoesPart part old new

-- THE AGENT IS TOLD THIS, and its switch hears it.
abbrev pub Tells : ℕ → Event → Service → Service → Type 0
Tells now event old new = Does (Hears now event) (HearsInPart now event) old new

-- a datagram, whose trunk and whose message are these
abbrev pub HearsWhole : ℕ → Option ℕ → Result MessageText SipFault → Agent → Agent → Type 0
HearsWhole now trunk message old new =
    (heard : Heard) × HearsDatagram {E = Unit {0}} now trunk message (Ok heard) old new

abbrev pub HearsPart : ℕ → Option ℕ → Result MessageText SipFault → Agent → Agent → Type 0
HearsPart now trunk message old new =
    HearsDatagram {E = Unit {0}} now trunk message (Err tt) old new

abbrev pub HearsFrom : ℕ → Option ℕ → Result MessageText SipFault → Service → Service → Type 0
HearsFrom now trunk message old new =
    Does (HearsWhole now trunk message) (HearsPart now trunk message) old new

-- time passed, and one thing was due
abbrev pub GoesOnOnce : ℕ → Service → Service → Type 0
GoesOnOnce now old new = Does (HearsSome MayBeDue now) (MayHearInPart MayBeDue now) old new

abbrev pub GoesOnTimes : ℕ → ℕ → Service → Service → Type 0
GoesOnTimes now zero old new = new ≡ old
GoesOnTimes now (suc count) old new =
    (mid : Service) × GoesOnTimes now count old mid × GoesOnOnce now mid new

abbrev pub GoesOn : ℕ → Service → Service → Type 0
GoesOn now old new = (count : ℕ) × GoesOnTimes now count old new

-- ---- the calls of legs

abbrev pub line_call : ℕ → ℕ → Option LineCall
line_call line call =
    if nat_lt line 4294967296 then Some (record { line = line; call = call }) else None

abbrev pub leg_address : Leg → SipLine → SocketAddr
leg_address Calling line = line.calling
leg_address Called line = line.called

-- where the leg of a place is heard; none where there is no such line
abbrev pub address_of : List SipLine → Place → Option SocketAddr
address_of lines place = option_map (leg_address place.leg) (slice_get lines place.line)

-- SIP holds the call of this leg, if memory suffices
abbrev pub Holds : Place → Service → Service → Type 0
Holds place old new = (new ≡ record old { places = old.places ++ place ∷ [] })
    ⊎ (new ≡ record old { lost = counted old.lost })

abbrev pub without : Place → List Place → List Place
without place places = filter (λ held. not (same_place held place)) places

-- the call of a leg, or its job, is over
abbrev pub over_on : Leg → LineCall → Event
over_on Calling on = CallOver on
over_on Called on = JobOver on

abbrev pub over_of : Place → Event
over_of place = over_on place.leg (record { line = place.line; call = place.call })

abbrev pub Ends : ℕ → Place → Service → Service → Type 0
Ends now place old new =
    Tells now (over_of place) (record old { places = without place old.places }) new

-- the agent is told so of each of them, one after the other
abbrev pub EndsEach : ℕ → List Place → Service → Service → Type 0
EndsEach now [] old new = new ≡ old
EndsEach now (place ∷ others) old new =
    (mid : Service) × Tells now (over_of place) old mid × EndsEach now others mid new

-- ---- WHAT THE AGENT ORDERS IS TO BE SAID, each order once and in their order, after what was to be said before

-- What was said is refused: a call that came in is answered with 503 (RFC 3261, 21.5.4); a call whose peer is refused is over.
abbrev pub Refuses : ℕ → Said → Service → Service → Type 0
Refuses now (said.Ring call tag) old new = Tells now (NotRung call 503) old new
Refuses now (said.Peer place end is_moved) old new = Ends now place old new
Refuses now (said.Refuse place digits) old new = new ≡ old
Refuses now (said.HangUp place) old new = new ≡ old

-- this is to be said; or memory is refused for it, and the agent is told that it was refused
abbrev pub Keeps : ℕ → Said → Service → Service → Type 0
Keeps now it old new = (new ≡ record old { to_say = old.to_say ++ it ∷ [] })
    ⊎ Refuses now it (record old { lost = counted old.lost }) new

abbrev pub KeepsIf : ℕ → Option Said → Service → Service → Type 0
KeepsIf now None old new = new ≡ old
KeepsIf now (Some it) old new = Keeps now it old new

-- audio begins and ends as an order says, if memory suffices; and what it says is to be said
abbrev pub TakesOrder : ℕ → LineOrder → Service → Service → Type 0
TakesOrder now given old new =
    (mid : Service) × IsNoted old mid × KeepsIf now (said_of given) mid new

abbrev pub TakesOrders : ℕ → List LineOrder → Service → Service → Type 0
TakesOrders now [] old new = new ≡ old
TakesOrders now (given ∷ others) old new =
    (mid : Service) × TakesOrder now given old mid × TakesOrders now others mid new

-- what the agent tells is to be told, if memory suffices
abbrev pub KeepsNews : Told → Service → Service → Type 0
KeepsNews told old new = (new ≡ record old { news = old.news ++ told ∷ [] })
    ⊎ (new ≡ record old { lost = counted old.lost })

abbrev pub TakesNews : List Told → Service → Service → Type 0
TakesNews [] old new = new ≡ old
TakesNews (told ∷ others) old new =
    (mid : Service) × KeepsNews told old mid × TakesNews others mid new

abbrev pub without_words : Service → Service
without_words service = record service { agent = record service.agent { words = [] } }

abbrev pub without_news : Service → Service
without_news service = record service { agent = record service.agent { told = [] } }

-- what the agent has ordered and told is taken
pub record Collects (now : ℕ) (old new : Service) : Type 0 where
  pub orders : List LineOrder
  pub given : map word_of orders ≡ old.agent.words
  pub taken : Service
  pub takes : TakesOrders now orders (without_words old) taken
  pub tells : TakesNews taken.agent.told (without_news taken) new

abbrev pub AndCollects : ℕ → (Service → Service → Type 0) → Service → Service → Type 0
AndCollects now does old new = (mid : Service) × does old mid × Collects now mid new

-- ---- WHAT THE DESK ANSWERED IS TOLD THE AGENT, of the call that said it

-- a line was rung for a call; nobody is told where there is no such line
abbrev pub RingsOn : ℕ → ℕ → LineCall → Option SocketAddr → Service → Service → Type 0
RingsOn now call on None old new = new ≡ old
RingsOn now call on (Some address) old new =
    (mid : Service) × Holds (calling_place on) old mid × Tells now (Rung call on) mid new

abbrev pub RingsIf : ℕ → ℕ → Option LineCall → Service → Service → Type 0
RingsIf now call None old new = new ≡ old
RingsIf now call (Some on) old new =
    RingsOn now call on (address_of old.lines (calling_place on)) old new

abbrev pub IsRung : ℕ → Said → Option LineCall → Service → Service → Type 0
IsRung now (said.Ring call tag) on old new = RingsIf now call on old new
IsRung now (said.Peer place end is_moved) on old new = new ≡ old
IsRung now (said.Refuse place digits) on old new = new ≡ old
IsRung now (said.HangUp place) on old new = new ≡ old

abbrev pub Answers : ℕ → Said → Reply → Service → Service → Type 0
Answers now it reply.Done old new = new ≡ old
Answers now it (reply.Rung call) old new = new ≡ old
Answers now it (reply.RungOn rung) old new = IsRung now it (line_call rung.line rung.call) old new
Answers now it (reply.Refused why) old new = Refuses now it old new

-- what waits for the end of its order is answered; nothing where nothing waits
abbrev pub AnswersIf : ℕ → Option Said → Reply → Service → Service → Type 0
AnswersIf now None answer old new = new ≡ old
AnswersIf now (Some it) answer old new =
    AndCollects now (Answers now it answer) (record old { waits = None }) new

-- ---- WHAT HAPPENS ON LINES IS TOLD THE AGENT

-- the call of a job is asked for, to this number; where memory is refused, it is refused with 500
abbrev pub Dials : ℕ → LineCall → List ℕ → Service → Service → Type 0
Dials now on number old new = DoesWhole (HearsDial now on number) old new
    ⊎ ((mid : Service) × DoesPart (MayHearDialInPart now on number) old mid
    × TakesOrder now (order.Refuse (called_place on) 500) mid new)

abbrev pub HoldsAndDials : ℕ → LineCall → List ℕ → Service → Service → Type 0
HoldsAndDials now on number old new =
    (mid : Service) × Holds (called_place on) old mid × Dials now on number mid new

-- SIP calls this number, from a leg that is heard there; it calls none that no route takes
abbrev pub DialsFrom : ℕ → LineCall → List ℕ → Option SocketAddr → Service → Service → Type 0
DialsFrom now on number None old new = new ≡ old
DialsFrom now on number (Some address) old new =
    AndCollects now (HoldsAndDials now on number) old new

abbrev pub DialsIf : ℕ → LineCall → Option (List ℕ) → Option SocketAddr → Service → Service → Type 0
DialsIf now on None address old new = new ≡ old
DialsIf now on (Some number) address old new = DialsFrom now on number address old new

abbrev pub Asks : ℕ → Option LineCall → Option Tag → Service → Service → Type 0
Asks now None tag old new = new ≡ old
Asks now (Some on) tag old new =
    DialsIf now on (number_for old.routes tag) (address_of old.lines (called_place on)) old new

abbrev pub EndsIf : ℕ → Option Place → Service → Service → Type 0
EndsIf now None old new = new ≡ old
EndsIf now (Some place) old new = AndCollects now (Ends now place) old new

-- this happened on this line, counted from 0
abbrev pub Happens : ℕ → ℕ → LineEvent → Service → Service → Type 0
Happens now line (happened.Asked job tag) old new = Asks now (line_call line job.call) tag old new
Happens now line (happened.Ended ended ending) old new =
    EndsIf now (option_map calling_place (line_call line ended.call)) old new
Happens now line (happened.Job report tag cause) old new =
    EndsIf now (option_map called_place (line_call line report.call)) old new
Happens now line (happened.Rung rung) old new = new ≡ old
Happens now line (happened.NotStored lost) old new = new ≡ old
Happens now line (happened.Page page tag) old new = new ≡ old
Happens now line (happened.RefusedPage page tag) old new = new ≡ old
Happens now line (happened.Dial dialled) old new = new ≡ old
Happens now line (happened.Connected connected) old new = new ≡ old

-- ---- the server stops

-- the registrations are to end; once
abbrev pub Leaves : ℕ → Bool → Service → Service → Type 0
Leaves now true old new = new ≡ old
Leaves now false old new =
    AndCollects now (Does IsQuiet IsQuiet) (record old { is_leaving = true }) new

-- all calls end
abbrev pub EndsAll : ℕ → Service → Service → Type 0
EndsAll now old new = AndCollects now (EndsEach now old.places) (record old { places = [] }) new

-- nothing was done so far
pub record IsBegun (service : Service) : Type 0 where
  pub to_say : service.to_say ≡ []
  pub waits : service.waits ≡ None
  pub places : service.places ≡ []
  pub news : service.news ≡ []
  pub lost : service.lost ≡ 0
  pub stays : service.is_leaving ≡ false
