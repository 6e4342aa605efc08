-- What the service does, step by step.
use Rattle.std.proofs.Common.{◌≡◌, ℕ, suc, ◌⊎◌, Bool, true, false, List, [], map, Option, Some, None, Result, Ok, Err, OnOk, OnErr, inl, inr, ap, sym, subst, refl, ◌∙◌}
use Rattle.std.specs.Bool.{OnFalse, OnTrue}
use Rattle.std.specs.declared.net.socket_addr.SocketAddr.{SocketAddr}
use Rattle.fax_desk.specs.declared.next.Reply.{Reply}
use Rattle.fax_sip.specs.declared.fault.SipFault.{SipFault}
use Rattle.fax_sip.specs.Messages.{MessageText}
use Rattle.fax_switch.specs.declared.event.Event.{Event}
use Rattle.fax_switch.specs.declared.place.LineCall.{LineCall}
use Rattle.fax_switch.specs.declared.place.Place.{Place}
use Rattle.fax_user_agent.specs.Agents.{Agent, Hears, HearsDatagram, HearsDial, HearsInPart, IsQuiet, MayHearDialInPart, Queues}
use Rattle.fax_user_agent.specs.Orders.{word_of}
use Rattle.fax_user_agent.specs.Senders.{trunk_of}
use Rattle.fax_user_agent.specs.declared.out.Heard.{Heard}
use Rattle.fax_user_agent.specs.declared.out.Heard.TheVariants as heard
use Rattle.fax_user_agent.specs.declared.out.LineOrder.{LineOrder}
use Rattle.fax_user_agent.specs.declared.out.Told.{Told}
use Rattle.fax_sip_service.specs.declared.said.Said.{Said}
use Rattle.fax_sip_service.specs.Services.{Service, AndCollects, Answers, AnswersIf, Collects, Does, DoesPart, DoesWhole, Ends, EndsAll, EndsEach, GoesOn, GoesOnOnce, HearsFrom, IsNoted, Keeps, Leaves, Refuses, Tells, TakesNews, TakesOrders, counted, noted, over_of, without, without_news, without_words}

does_so : {E : Type 0} (whole part : Agent → Agent → Type 0) (outcome : Result (Unit {0}) E) (old : Service) (after : Agent)
    → Queues old.agent after → OnOk outcome (whole old.agent after) → OnErr outcome (part old.agent after) → Does whole part old (noted outcome (record old { agent = after }))
does_so whole part (Ok done) old after queues ok err = inl (record { rest = refl; queues = queues; done = ok })
does_so whole part (Err failed) old after queues ok err = inr (record { rest = refl; queues = queues; done = err })

-- the agent did this, and it is noted whether memory was refused
pub does : {E : Type 0} (whole part : Agent → Agent → Type 0) (outcome : Result (Unit {0}) E) (seen old : Service) (after : Agent) (new : Service)
    → seen ≡ old → Queues seen.agent after → OnOk outcome (whole seen.agent after) → OnErr outcome (part seen.agent after) → new ≡ noted outcome (record seen { agent = after }) → Does whole part old new
does whole part outcome seen old after new is queues ok err notes =
    subst (λ s. Does whole part s new) is (subst (λ s. Does whole part seen s) (sym notes) (does_so whole part outcome seen after queues ok err))

pub tells : {E : Type 0} (now : ℕ) (event : Event) (outcome : Result (Unit {0}) E) (seen old : Service) (after : Agent) (new : Service)
    → seen ≡ old → Queues seen.agent after → OnOk outcome (Hears now event seen.agent after) → OnErr outcome (HearsInPart now event seen.agent after) → new ≡ noted outcome (record seen { agent = after }) → Tells now event old new
tells now event = does (Hears now event) (HearsInPart now event)

-- the agent was told to call the number that these octets are
pub dials_whole : (now : ℕ) (on : LineCall) (octets number : List ℕ) (seen old : Service) (after : Agent)
    → seen ≡ old → octets ≡ number → Queues seen.agent after → HearsDial now on octets seen.agent after → DoesWhole (HearsDial now on number) old (record seen { agent = after })
dials_whole now on octets number seen old after is same queues done =
    subst (λ s. DoesWhole (HearsDial now on number) s (record seen { agent = after })) is (record { rest = refl; queues = queues; done = subst (λ (n : List ℕ). HearsDial now on n seen.agent after) same done })

pub dials_part : (now : ℕ) (on : LineCall) (octets number : List ℕ) (seen old : Service) (after : Agent) (new : Service)
    → seen ≡ old → octets ≡ number → Queues seen.agent after → MayHearDialInPart now on octets seen.agent after → new ≡ record seen { agent = after; lost = counted seen.lost } → DoesPart (MayHearDialInPart now on number) old new
dials_part now on octets number seen old after new is same queues done notes =
    subst (λ s. DoesPart (MayHearDialInPart now on number) s new) is (subst (λ s. DoesPart (MayHearDialInPart now on number) seen s) (sym notes)
    (record { rest = refl; queues = queues; done = subst (λ (n : List ℕ). MayHearDialInPart now on n seen.agent after) same done }))

-- orders and news were taken
pub collects : (now : ℕ) (orders : List LineOrder) (news : List Told) (old given taken late new : Service)
    → map word_of orders ≡ old.agent.words → given ≡ without_words old → TakesOrders now orders given taken
    → news ≡ taken.agent.told → late ≡ without_news taken → TakesNews news late new → Collects now old new
collects now orders news old given taken late new words rest takes told without tells = record {
  orders = orders;
  given = words;
  taken = taken;
  takes = subst (λ s. TakesOrders now orders s taken) rest takes;
  tells = subst (λ s. TakesNews taken.agent.told s new) without (subst (λ (l : List Told). TakesNews l late new) told tells);
}

-- what is added is there, or memory was refused for it
pub keeps : {E : Type 0} (outcome : Result (Unit {0}) E) (old put new added : Service)
    → OnOk outcome (put ≡ added) → OnErr outcome (put ≡ old) → new ≡ noted outcome put → (new ≡ added) ⊎ (new ≡ record old { lost = counted old.lost })
keeps (Ok done) old put new added ok err notes = inl (notes ∙ ok)
keeps (Err failed) old put new added ok err notes = inr (notes ∙ ap (λ (s : Service). record s { lost = counted s.lost }) err)

-- what holds anyhow
pub on_ok : {E : Type 0} {P : Type 0} (outcome : Result (Unit {0}) E) → P → OnOk outcome P
on_ok (Ok done) h = h
on_ok (Err failed) h = tt

pub on_err : {E : Type 0} {P : Type 0} (outcome : Result (Unit {0}) E) → P → OnErr outcome P
on_err (Ok done) h = tt
on_err (Err failed) h = h

pub notes_so : {E : Type 0} (outcome : Result (Unit {0}) E) (seen old new : Service) → seen ≡ old → new ≡ noted outcome seen → IsNoted old new
notes_so outcome seen old new is notes = keeps outcome old seen new old (on_ok outcome is) (on_err outcome is) notes

same_whole : (E : Type 0) (now : ℕ) (trunk : Option ℕ) (message : Result MessageText SipFault) (it : Heard) (old new : Agent) → HearsDatagram {E = E} now trunk message (Ok it) old new → HearsDatagram {E = Unit {0}} now trunk message (Ok it) old new
same_whole E now trunk message heard.Stranger old new h = h
same_whole E now trunk message (heard.NoMessage fault) old new h = h
same_whole E now trunk message heard.Message old new h = h

-- a datagram was heard, or memory was refused for what it brought
pub heard_whole : {E : Type 0} (now : ℕ) (from : SocketAddr) (message : Result MessageText SipFault) (it : Heard) (result : Result Heard E) (seen old : Service) (after : Agent) (new : Service)
    → seen ≡ old → Queues seen.agent after → HearsDatagram now (trunk_of seen.agent.trunks from) message result seen.agent after → result ≡ Ok it → new ≡ record seen { agent = after }
    → HearsFrom now (trunk_of old.agent.trunks from) message old new
heard_whole {E = E} now from message it result seen old after new is queues hears came same =
    subst (λ s. HearsFrom now (trunk_of s.agent.trunks from) message s new) is (subst (λ s. HearsFrom now (trunk_of seen.agent.trunks from) message seen s) (sym same)
    (inl (record {
      rest = refl;
      queues = queues;
      done = (it, same_whole E now (trunk_of seen.agent.trunks from) message it seen.agent after (subst (λ (r : Result Heard E). HearsDatagram now (trunk_of seen.agent.trunks from) message r seen.agent after) came hears));
    })))

pub heard_part : {E : Type 0} (now : ℕ) (from : SocketAddr) (message : Result MessageText SipFault) (failed : E) (result : Result Heard E) (seen old : Service) (after : Agent) (new : Service)
    → seen ≡ old → Queues seen.agent after → HearsDatagram now (trunk_of seen.agent.trunks from) message result seen.agent after → result ≡ Err failed
    → new ≡ record (record seen { agent = after }) { lost = counted seen.lost } → HearsFrom now (trunk_of old.agent.trunks from) message old new
heard_part {E = E} now from message failed result seen old after new is queues hears came same =
    subst (λ s. HearsFrom now (trunk_of s.agent.trunks from) message s new) is (subst (λ s. HearsFrom now (trunk_of seen.agent.trunks from) message seen s) (sym same)
    (inr (record {
      rest = refl;
      queues = queues;
      done = subst (λ (r : Result Heard E). HearsDatagram now (trunk_of seen.agent.trunks from) message r seen.agent after) came hears;
    })))

-- one thing more was done, or nothing
pub goes_more : (now : ℕ) (old mid new : Service) (went : Bool) → GoesOn now old mid → OnTrue went (GoesOnOnce now mid new) → OnFalse went (new ≡ mid) → GoesOn now old new
goes_more now old mid new true so_far once not = (suc so_far.0, (mid, so_far.1, once))
goes_more now old mid new false so_far once not = subst (λ s. GoesOn now old s) (sym not) so_far

pub ended_on : (now : ℕ) (place : Place) (seen old : Service) (places : List Place) (new : Service)
    → seen ≡ old → places ≡ without place seen.places → Tells now (over_of place) (record seen { places = places }) new → Ends now place old new
ended_on now place seen old places new is left tells =
    subst (λ s. Ends now place s new) is (subst (λ (l : List Place). Tells now (over_of place) (record seen { places = l }) new) left tells)

pub told_as : (now : ℕ) (event wanted : Event) (seen old new : Service) → event ≡ wanted → seen ≡ old → Tells now event seen new → Tells now wanted old new
told_as now event wanted seen old new same is tells = subst (λ e. Tells now e old new) same (subst (λ s. Tells now event s new) is tells)

pub refused_so : (now : ℕ) (it refused : Said) (old mid late new : Service)
    → refused ≡ it → mid ≡ old → late ≡ record mid { lost = counted mid.lost } → Refuses now refused late new → Keeps now it old new
refused_so now it refused old mid late new same is notes refuses =
    inr (subst (λ (x : Said). Refuses now x (record old { lost = counted old.lost }) new) same
    (subst (λ s. Refuses now refused (record s { lost = counted s.lost }) new) is (subst (λ s. Refuses now refused s new) notes refuses)))

pub answered_if : (now : ℕ) (it : Said) (waits : Option Said) (answer : Reply) (old mid new : Service)
    → waits ≡ Some it → mid ≡ record old { waits = None } → AndCollects now (Answers now it answer) mid new → AnswersIf now waits answer old new
answered_if now it waits answer old mid new is rest answers =
    subst (λ (w : Option Said). AnswersIf now w answer old new) (sym is) (subst (λ s. AndCollects now (Answers now it answer) s new) rest answers)

pub none_waits : (now : ℕ) (answer : Reply) (old new : Service) → old.waits ≡ None → new ≡ record old { waits = None } → AnswersIf now old.waits answer old new
none_waits now answer old new is rest =
    subst (λ (w : Option Said). AnswersIf now w answer old new) (sym is) (rest ∙ ap (λ (w : Option Said). record old { waits = w }) (sym is))

pub left_before : (now : ℕ) (old new : Service) → old.is_leaving ≡ true → new ≡ record old { is_leaving = true } → Leaves now old.is_leaving old new
left_before now old new is rest = subst (λ (b : Bool). Leaves now b old new) (sym is) (rest ∙ ap (λ (b : Bool). record old { is_leaving = b }) (sym is))

pub leaves_now : (now : ℕ) (before : Bool) (old mid new : Service) → before ≡ false → mid ≡ record old { is_leaving = true } → AndCollects now (Does IsQuiet IsQuiet) mid new → Leaves now before old new
leaves_now now before old mid new is rest leaves = subst (λ (b : Bool). Leaves now b old new) (sym is) (subst (λ s. AndCollects now (Does IsQuiet IsQuiet) s new) rest leaves)

pub ends_all : (now : ℕ) (places : List Place) (old mid late new : Service) → places ≡ old.places → mid ≡ record old { places = [] } → EndsEach now places mid late → Collects now late new → EndsAll now old new
ends_all now places old mid late new taken rest each collected =
    (late, subst (λ s. EndsEach now old.places s late) rest (subst (λ (l : List Place). EndsEach now l mid late) taken each), collected)
