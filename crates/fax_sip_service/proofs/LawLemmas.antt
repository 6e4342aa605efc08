-- Each word of the switch is said.
use Rattle.std.proofs.Common.{◌≡◌, ℕ, suc, zero, Bool, true, false, List, [], ◌∷◌, ◌++◌, map, Option, Some, None, option_map, Result, Ok, inl, inr, ap, sym, subst, refl, ◌∙◌, append_assoc, arith, if◌then◌else◌}
use Rattle.std.proofs.lemmas.List.{append-nil, map-append}
use Rattle.std.proofs.lemmas.List.Concat.{flat_map-append}
use Rattle.std.proofs.lemmas.Option.{none-some, same_Some}
use Rattle.std.specs.Option.{option_to_list}
use Rattle.std.specs.declared.net.socket_addr.SocketAddr.{SocketAddr}
use Rattle.fax_desk.specs.declared.next.RefusedWord.{RefusedWord}
use Rattle.fax_desk.specs.declared.next.Reply.{Reply}
use Rattle.fax_desk.specs.declared.next.Reply.TheVariants as reply
use Rattle.fax_desk.specs.declared.tag.Tag.{Tag}
use Rattle.fax_desk.specs.declared.told.LineEvent.{LineEvent}
use Rattle.fax_desk.specs.declared.told.LineEvent.TheVariants as happened
use Rattle.fax_sip.specs.declared.fault.SipFault.{SipFault}
use Rattle.fax_sip.specs.Messages.{MessageText}
use Rattle.fax_switch.specs.declared.action.LineAction.{LineAction}
use Rattle.fax_switch.specs.declared.event.Event.{Event}
use Rattle.fax_switch.specs.declared.event.Event.TheVariants.{Rung, NotRung, CallOver, JobOver}
use Rattle.fax_switch.specs.declared.place.LineCall.{LineCall}
use Rattle.fax_switch.specs.declared.place.Place.{Place}
use Rattle.fax_switch.specs.Places.{called_place, calling_place}
use Rattle.fax_switch.specs.Tables.{Table, row}
use Rattle.fax_user_agent.specs.declared.out.Heard.{Heard}
use Rattle.fax_user_agent.specs.declared.out.Heard.TheVariants as heard
use Rattle.fax_user_agent.specs.declared.out.LineOrder.{LineOrder}
use Rattle.fax_user_agent.specs.declared.out.LineOrder.TheVariants as order
use Rattle.fax_user_agent.specs.declared.out.Told.{Told}
use Rattle.fax_user_agent.specs.declared.settings.Trunk.{Trunk}
use Rattle.fax_user_agent.specs.Agents.{Agent, Hears, HearsDatagram, HearsDial, HearsSome, IsQuiet, Queues}
use Rattle.fax_user_agent.specs.Dues.{MayBeDue}
use Rattle.fax_user_agent.specs.Events.{MayBe}
use Rattle.fax_user_agent.specs.Orders.{word_of, words_of}
use Rattle.fax_user_agent.specs.Placings.{IsDial}
use Rattle.fax_sip_service.specs.declared.said.Said.{Said}
use Rattle.fax_sip_service.specs.declared.said.Said.TheVariants as said
use Rattle.fax_trunks.specs.RouteValues.{RouteValue}
use Rattle.fax_sip_service.specs.Laws.{Setting, Step, Came, Passed, Spoke, Waited, Ended, Answered, Happened, Stops, Stopped, Emptied, StepsBy, Passes, SaysItsWords, AnswerBrings, EachOf, IsBrought, IsNumberOf, LineBrings, MessageBrings, said_by, said_in, says, words_since}
use Rattle.fax_sip_service.specs.Numbers.{has_route, number_for, number_in, routed}
use Rattle.fax_sip_service.specs.Services.{Service, Answers, AnswersIf, Asks, Collects, Dials, DialsFrom, DialsIf, Does, EndsEach, EndsIf, GoesOnTimes, Happens, Holds, IsNoted, Keeps, KeepsIf, Leaves, Refuses, RingsIf, RingsOn, TakesNews, TakesOrder, TakesOrders, Tells, counted, line_call, over_of, without_words, without_news}
use Rattle.fax_sip_service.specs.Words.{said_of}

-- what was said so far is right, if no memory was refused, and what the switch heard is of this kind
abbrev IsRight : Setting → (ℕ × Event → Type 0) → List Said → Service → Type 0
IsRight setting C told service = service.lost ≡ 0 → SaysItsWords setting C told service

none_counted : {P : Type 0} (lost : ℕ) → counted lost ≡ 0 → P
none_counted lost h = absurd (omega (arith, h))

-- ---- while no memory is refused, none was before

does_lost : (whole part : Agent → Agent → Type 0) (old new : Service) → Does whole part old new → new.lost ≡ 0 → old.lost ≡ 0
does_lost whole part old new (inl w) none = sym (ap (λ (s : Service). s.lost) w.rest) ∙ none
does_lost whole part old new (inr p) none = none_counted old.lost (sym (ap (λ (s : Service). s.lost) p.rest) ∙ none)

refuses_lost : (now : ℕ) (it : Said) (old new : Service) → Refuses now it old new → new.lost ≡ 0 → old.lost ≡ 0
refuses_lost now (said.Ring call tag) old new r none = does_lost _ _ old new r none
refuses_lost now (said.Peer place end is_moved) old new r none = does_lost _ _ _ new r none
refuses_lost now (said.Refuse place digits) old new r none = sym (ap (λ (s : Service). s.lost) r) ∙ none
refuses_lost now (said.HangUp place) old new r none = sym (ap (λ (s : Service). s.lost) r) ∙ none

-- ---- orders are taken

record Kept (told : List Said) (old new : Service) : Type 0 where
  lost : old.lost ≡ 0
  agent : new.agent ≡ old.agent
  to_say : new.to_say ≡ old.to_say ++ told

same_kept : (old new : Service) → new ≡ old → new.lost ≡ 0 → Kept [] old new
same_kept old new is none = subst (λ (s : Service). Kept [] s new) is (record { lost = none; agent = refl; to_say = sym (append-nil new.to_say) })

noted_kept : (old new : Service) → IsNoted old new → new.lost ≡ 0 → Kept [] old new
noted_kept old new (inl is) none = same_kept old new is none
noted_kept old new (inr is) none = none_counted old.lost (sym (ap (λ (s : Service). s.lost) is) ∙ none)

keeps_kept : (now : ℕ) (it : Said) (old new : Service) → Keeps now it old new → new.lost ≡ 0 → Kept (it ∷ []) old new
keeps_kept now it old new (inl is) none = record {
  lost = sym (ap (λ (s : Service). s.lost) is) ∙ none;
  agent = ap (λ (s : Service). s.agent) is;
  to_say = ap (λ (s : Service). s.to_say) is;
}
keeps_kept now it old new (inr refused) none = none_counted old.lost (refuses_lost now it (record old { lost = counted old.lost }) new refused none)

keeps_if_kept : (now : ℕ) (it : Option Said) (old new : Service) → KeepsIf now it old new → new.lost ≡ 0 → Kept (option_to_list it) old new
keeps_if_kept now None old new is none = same_kept old new is none
keeps_if_kept now (Some it) old new k none = keeps_kept now it old new k none

then_kept : (one other : List Said) (old mid new : Service) → Kept one old mid → Kept other mid new → Kept (one ++ other) old new
then_kept one other old mid new first second = record {
  lost = first.lost;
  agent = second.agent ∙ first.agent;
  to_say = second.to_say ∙ ap (λ (l : List Said). l ++ other) first.to_say ∙ append_assoc old.to_say one other;
}

order_kept : (now : ℕ) (given : LineOrder) (old new : Service) → TakesOrder now given old new → new.lost ≡ 0 → Kept (option_to_list (said_of given)) old new
order_kept now given old new (mid, noted, keeps) none =
    let second = keeps_if_kept now (said_of given) mid new keeps none in
    then_kept [] (option_to_list (said_of given)) old mid new (noted_kept old mid noted second.lost) second

orders_kept : (now : ℕ) (orders : List LineOrder) (old new : Service) → TakesOrders now orders old new → new.lost ≡ 0 → Kept (says orders) old new
orders_kept now [] old new is none = same_kept old new is none
orders_kept now (given ∷ others) old new (mid, first, rest) none =
    let later = orders_kept now others mid new rest none in
    then_kept (option_to_list (said_of given)) (says others) old mid new (order_kept now given old mid first later.lost) later

news_kept : (told : List Told) (old new : Service) → TakesNews told old new → new.lost ≡ 0 → Kept [] old new
news_kept [] old new is none = same_kept old new is none
news_kept (first ∷ others) old new (mid, inl is, rest) none =
    let later = news_kept others mid new rest none in
    then_kept [] [] old mid new (record { lost = sym (ap (λ (s : Service). s.lost) is) ∙ later.lost; agent = ap (λ (s : Service). s.agent) is; to_say = ap (λ (s : Service). s.to_say) is ∙ sym (append-nil old.to_say) }) later
news_kept (first ∷ others) old new (mid, inr is, rest) none =
    none_counted old.lost (sym (ap (λ (s : Service). s.lost) is) ∙ (news_kept others mid new rest none).lost)

-- ---- each step

-- what is not of the switch and says nothing
record IsAlike (old new : Agent) : Type 0 where
  trunks : new.trunks ≡ old.trunks
  routes : new.routes ≡ old.routes
  switch : new.switch ≡ old.switch
  words : new.words ≡ old.words

same_alike : (old new : Agent) → new ≡ old → IsAlike old new
same_alike old new is = record { trunks = ap (λ (a : Agent). a.trunks) is; routes = ap (λ (a : Agent). a.routes) is; switch = ap (λ (a : Agent). a.switch) is; words = ap (λ (a : Agent). a.words) is }

same_right : (setting : Setting) (C : ℕ × Event → Type 0) (told : List Said) (old new : Service)
    → IsAlike old.agent new.agent → new.to_say ≡ old.to_say → SaysItsWords setting C told old → SaysItsWords setting C told new
same_right setting C told old new alike to_say right = record {
  trunks = alike.trunks ∙ right.trunks;
  routes = alike.routes ∙ right.routes;
  past = right.past;
  came = right.came;
  orders = right.orders;
  switch = alike.switch ∙ right.switch;
  words = ap (λ (l : List LineAction). map word_of right.orders ++ l) alike.words ∙ right.words;
  same = ap (λ (l : List Said). told ++ l) to_say ∙ right.same;
}

collected : (setting : Setting) (C : ℕ × Event → Type 0) (told : List Said) (now : ℕ) (old new : Service) → IsRight setting C told old → Collects now old new → IsRight setting C told new
collected setting C told now old new right collects none =
    let news = news_kept collects.taken.agent.told (without_news collects.taken) new collects.tells none in
    let kept = orders_kept now collects.orders (without_words old) collects.taken collects.takes news.lost in
    let before = right kept.lost in
    record {
      trunks = ap (λ (a : Agent). a.trunks) news.agent ∙ ap (λ (a : Agent). a.trunks) kept.agent ∙ before.trunks;
      routes = ap (λ (a : Agent). a.routes) news.agent ∙ ap (λ (a : Agent). a.routes) kept.agent ∙ before.routes;
      past = before.past;
      came = before.came;
      orders = before.orders ++ collects.orders;
      switch = ap (λ (a : Agent). a.switch) news.agent ∙ ap (λ (a : Agent). a.switch) kept.agent ∙ before.switch;
      words = ap (λ (l : List LineAction). map word_of (before.orders ++ collects.orders) ++ l) (ap (λ (a : Agent). a.words) news.agent ∙ ap (λ (a : Agent). a.words) kept.agent)
          ∙ append-nil (map word_of (before.orders ++ collects.orders))
          ∙ map-append word_of before.orders collects.orders
          ∙ ap (λ (l : List LineAction). map word_of before.orders ++ l) collects.given
          ∙ before.words;
      same = ap (λ (l : List Said). told ++ l) (news.to_say ∙ append-nil collects.taken.to_say ∙ kept.to_say)
          ∙ sym (append_assoc told old.to_say (says collects.orders))
          ∙ ap (λ (l : List Said). l ++ says collects.orders) before.same
          ∙ sym (flat_map-append (λ (given : LineOrder). option_to_list (said_of given)) before.orders collects.orders);
    }

-- the switch hears an event
hears_right : (setting : Setting) (C : ℕ × Event → Type 0) (told : List Said) (now : ℕ) (event : Event) (old new : Service)
    → C (now, event) → new.to_say ≡ old.to_say → Queues old.agent new.agent → Hears now event old.agent new.agent → SaysItsWords setting C told old → SaysItsWords setting C told new
hears_right setting C told now event old new came to_say queues hears right =
    let switch = hears.switch ∙ ap (λ (t : Table). row t now event) right.switch in
    record {
      trunks = queues.trunks ∙ right.trunks;
      routes = queues.routes ∙ right.routes;
      past = (now, event) ∷ right.past;
      came = (came, right.came);
      orders = right.orders;
      switch = switch;
      words = ap (λ (l : List LineAction). map word_of right.orders ++ l) hears.words
          ∙ sym (append_assoc (map word_of right.orders) old.agent.words (words_of new.agent.switch.entries))
          ∙ ap (λ (l : List LineAction). l ++ words_of new.agent.switch.entries) right.words
          ∙ ap (λ (t : Table). words_since setting.most right.past ++ words_of t.entries) switch;
      same = ap (λ (l : List Said). told ++ l) to_say ∙ right.same;
    }

-- what the agent does keeps what is right
abbrev IsKept : Setting → (ℕ × Event → Type 0) → (Agent → Agent → Type 0) → Type 0
IsKept setting C does = (told : List Said) (old new : Service)
    → new.to_say ≡ old.to_say → Queues old.agent new.agent → does old.agent new.agent → SaysItsWords setting C told old → SaysItsWords setting C told new

does_right : (setting : Setting) (C : ℕ × Event → Type 0) (told : List Said) (whole part : Agent → Agent → Type 0) (old new : Service) → IsKept setting C whole → IsRight setting C told old → Does whole part old new → IsRight setting C told new
does_right setting C told whole part old new kept right (inl w) none =
    kept told old new (ap (λ (s : Service). s.to_say) w.rest) w.queues w.done (right (sym (ap (λ (s : Service). s.lost) w.rest) ∙ none))
does_right setting C told whole part old new kept right (inr p) none = none_counted old.lost (sym (ap (λ (s : Service). s.lost) p.rest) ∙ none)

event_kept : (setting : Setting) (C : ℕ × Event → Type 0) (now : ℕ) (event : Event) → C (now, event) → IsKept setting C (Hears now event)
event_kept setting C now event came told old new to_say queues hears right = hears_right setting C told now event old new came to_say queues hears right

some_kept : (setting : Setting) (C : ℕ × Event → Type 0) (now : ℕ) (may : Event → Type 0) → ((event : Event) → may event → C (now, event)) → IsKept setting C (HearsSome may now)
some_kept setting C now may came told old new to_say queues (event, is, hears) right = hears_right setting C told now event old new (came event is) to_say queues hears right

dial_kept : (setting : Setting) (C : ℕ × Event → Type 0) (now : ℕ) (on : LineCall) (number : List ℕ) → ((event : Event) → IsDial setting.trunks setting.routes on number event → C (now, event))
    → IsKept setting C (HearsDial now on number)
dial_kept setting C now on number came told old new to_say queues (event, is, hears) right =
    hears_right setting C told now event old new
    (came event (subst (λ (trunks : List Trunk). IsDial trunks setting.routes on number event) right.trunks (subst (λ (routes : List RouteValue). IsDial old.agent.trunks routes on number event) right.routes is)))
    to_say queues hears right

quiet_kept : (setting : Setting) (C : ℕ × Event → Type 0) → IsKept setting C IsQuiet
quiet_kept setting C told old new to_say queues quiet right =
    same_right setting C told old new (record { trunks = queues.trunks; routes = queues.routes; switch = quiet.switch; words = quiet.words }) to_say right

nothing_kept : (setting : Setting) (C : ℕ × Event → Type 0) (told : List Said) (old new : Service) → new.to_say ≡ old.to_say → new.agent ≡ old.agent → SaysItsWords setting C told old → SaysItsWords setting C told new
nothing_kept setting C told old new to_say is right = same_right setting C told old new (same_alike old.agent new.agent is) to_say right

datagram_kept : (setting : Setting) (C : ℕ × Event → Type 0) (now : ℕ) (trunk : Option ℕ) (message : Result MessageText SipFault) → ((event : Event) → MessageBrings setting trunk message event → C (now, event))
    → IsKept setting C (λ old new. (it : Heard) × HearsDatagram {E = Unit {0}} now trunk message (Ok it) old new)
datagram_kept setting C now trunk message came told old new to_say queues (heard.Stranger, (strange, is)) right = nothing_kept setting C told old new to_say is right
datagram_kept setting C now trunk message came told old new to_say queues (heard.NoMessage fault, (known, reads, is)) right = nothing_kept setting C told old new to_say is right
datagram_kept setting C now trunk message came told old new to_say queues (heard.Message, (known, text, reads, inl quiet)) right = quiet_kept setting C told old new to_say queues quiet right
datagram_kept setting C now trunk message came told old new to_say queues (heard.Message, (known, text, reads, inr (event, may, hears))) right =
    hears_right setting C told now event old new (came event (known, text, reads, subst (λ (routes : List RouteValue). MayBe routes text event) right.routes may)) to_say queues hears right

tells_right : (setting : Setting) (C : ℕ × Event → Type 0) (told : List Said) (now : ℕ) (event : Event) (old new : Service) → C (now, event) → IsRight setting C told old → Tells now event old new → IsRight setting C told new
tells_right setting C told now event old new came right tells = does_right setting C told _ _ old new (event_kept setting C now event came) right tells

times_right : (setting : Setting) (C : ℕ × Event → Type 0) (told : List Said) (now count : ℕ) (old new : Service) → ((event : Event) → MayBeDue event → C (now, event)) → IsRight setting C told old → GoesOnTimes now count old new → IsRight setting C told new
times_right setting C told now zero old new came right is = subst (λ s. IsRight setting C told s) (sym is) right
times_right setting C told now (suc count) old new came right (mid, earlier, once) = does_right setting C told _ _ mid new (some_kept setting C now MayBeDue came) (times_right setting C told now count old mid came right earlier) once

is_right : (setting : Setting) (C : ℕ × Event → Type 0) (told : List Said) (old new : Service) → IsRight setting C told old → new ≡ old → IsRight setting C told new
is_right setting C told old new right is = subst (λ s. IsRight setting C told s) (sym is) right

holds_right : (setting : Setting) (C : ℕ × Event → Type 0) (told : List Said) (place : Place) (old new : Service) → IsRight setting C told old → Holds place old new → IsRight setting C told new
holds_right setting C told place old new right (inl is) none =
    nothing_kept setting C told old new (ap (λ (s : Service). s.to_say) is) (ap (λ (s : Service). s.agent) is) (right (sym (ap (λ (s : Service). s.lost) is) ∙ none))
holds_right setting C told place old new right (inr is) none = none_counted old.lost (sym (ap (λ (s : Service). s.lost) is) ∙ none)

refuses_right : (setting : Setting) (C : ℕ × Event → Type 0) (told : List Said) (now : ℕ) (it : Said) (why : RefusedWord) (old new : Service) → ((event : Event) → AnswerBrings it (reply.Refused why) event → C (now, event)) → IsRight setting C told old → Refuses now it old new → IsRight setting C told new
refuses_right setting C told now (said.Ring call tag) why old new came right r = tells_right setting C told now (NotRung call 503) old new (came (NotRung call 503) refl) right r
refuses_right setting C told now (said.Peer place end is_moved) why old new came right r = tells_right setting C told now (over_of place) _ new (came (over_of place) refl) (λ none. nothing_kept setting C told old _ refl refl (right none)) r
refuses_right setting C told now (said.Refuse place digits) why old new came right r = is_right setting C told old new right r
refuses_right setting C told now (said.HangUp place) why old new came right r = is_right setting C told old new right r

rings_right : (setting : Setting) (C : ℕ × Event → Type 0) (told : List Said) (now call : ℕ) (on : LineCall) (leg : Option SocketAddr) (old new : Service) → C (now, Rung call on) → IsRight setting C told old → RingsOn now call on leg old new → IsRight setting C told new
rings_right setting C told now call on None old new came right is = is_right setting C told old new right is
rings_right setting C told now call on (Some address) old new came right (mid, holds, tells) = tells_right setting C told now _ mid new came (holds_right setting C told _ old mid right holds) tells

rings_if_right : (setting : Setting) (C : ℕ × Event → Type 0) (told : List Said) (now call : ℕ) (on : Option LineCall) (old new : Service) → ((it : LineCall) → on ≡ Some it → C (now, Rung call it)) → IsRight setting C told old → RingsIf now call on old new → IsRight setting C told new
rings_if_right setting C told now call None old new came right is = is_right setting C told old new right is
rings_if_right setting C told now call (Some on) old new came right rings = rings_right setting C told now call on _ old new (came on refl) right rings

answers_right : (setting : Setting) (C : ℕ × Event → Type 0) (told : List Said) (now : ℕ) (it : Said) (answer : Reply) (old new : Service) → ((event : Event) → AnswerBrings it answer event → C (now, event)) → IsRight setting C told old → Answers now it answer old new → IsRight setting C told new
answers_right setting C told now it reply.Done old new came right is = is_right setting C told old new right is
answers_right setting C told now it (reply.Rung call) old new came right is = is_right setting C told old new right is
answers_right setting C told now (said.Ring call tag) (reply.RungOn rung) old new came right rings = rings_if_right setting C told now call _ old new (λ on is. came (Rung call on) (on, is, refl)) right rings
answers_right setting C told now (said.Peer place end is_moved) (reply.RungOn rung) old new came right is = is_right setting C told old new right is
answers_right setting C told now (said.Refuse place digits) (reply.RungOn rung) old new came right is = is_right setting C told old new right is
answers_right setting C told now (said.HangUp place) (reply.RungOn rung) old new came right is = is_right setting C told old new right is
answers_right setting C told now it (reply.Refused why) old new came right refuses = refuses_right setting C told now it why old new came right refuses

waited_right : (setting : Setting) (C : ℕ × Event → Type 0) (told : List Said) (now : ℕ) (waits : Option Said) (answer : Reply) (old new : Service) → ((it : Said) (event : Event) → AnswerBrings it answer event → C (now, event)) → IsRight setting C told old → AnswersIf now waits answer old new → IsRight setting C told new
waited_right setting C told now None answer old new came right is = is_right setting C told old new right is
waited_right setting C told now (Some it) answer old new came right (mid, answers, collects) =
    collected setting C told now mid new (answers_right setting C told now it answer _ mid (came it) (λ none. nothing_kept setting C told old _ refl refl (right none)) answers) collects

-- the call of a job is asked for, to this number
abbrev IsBroughtBy : Setting → (ℕ × Event → Type 0) → ℕ → LineCall → List ℕ → Type 0
IsBroughtBy setting C now on number = (event : Event) → IsDial setting.trunks setting.routes on number event → C (now, event)

dials_right : (setting : Setting) (C : ℕ × Event → Type 0) (told : List Said) (now : ℕ) (on : LineCall) (number : List ℕ) (old new : Service) → IsBroughtBy setting C now on number → IsRight setting C told old → Dials now on number old new → IsRight setting C told new
dials_right setting C told now on number old new came right (inl w) none =
    dial_kept setting C now on number came told old new (ap (λ (s : Service). s.to_say) w.rest) w.queues w.done (right (sym (ap (λ (s : Service). s.lost) w.rest) ∙ none))
dials_right setting C told now on number old new came right (inr (mid, part, takes)) none =
    none_counted old.lost (sym (ap (λ (s : Service). s.lost) part.rest) ∙ (order_kept now (order.Refuse (called_place on) 500) mid new takes none).lost)

dials_from_right : (setting : Setting) (C : ℕ × Event → Type 0) (told : List Said) (now : ℕ) (on : LineCall) (number : List ℕ) (leg : Option SocketAddr) (old new : Service) → IsBroughtBy setting C now on number → IsRight setting C told old → DialsFrom now on number leg old new → IsRight setting C told new
dials_from_right setting C told now on number None old new came right is = is_right setting C told old new right is
dials_from_right setting C told now on number (Some address) old new came right (mid, (held, holds, dials), collects) =
    collected setting C told now mid new (dials_right setting C told now on number held mid came (holds_right setting C told _ old held right holds) dials) collects

dials_if_right : (setting : Setting) (C : ℕ × Event → Type 0) (told : List Said) (now : ℕ) (on : LineCall) (number : Option (List ℕ)) (leg : Option SocketAddr) (old new : Service) → ((it : List ℕ) → number ≡ Some it → IsBroughtBy setting C now on it) → IsRight setting C told old → DialsIf now on number leg old new → IsRight setting C told new
dials_if_right setting C told now on None leg old new came right is = is_right setting C told old new right is
dials_if_right setting C told now on (Some number) leg old new came right dials = dials_from_right setting C told now on number leg old new (came number refl) right dials

-- the number that SIP calls for a tag is the tag's
is_its_number : (routes : List RouteValue) (tag : Option Tag) (number : List ℕ) → number_for routes tag ≡ Some number → IsNumberOf tag number
is_its_number routes None number is = absurd (none-some number is)
is_its_number routes (Some tag) number is = (tag, refl, by (number_in tag) is)
  where
    only : (takes : Bool) (found : List ℕ) → if◌then◌else◌ {A = Option (List ℕ)} takes (Some found) None ≡ Some number → Some found ≡ Some number
    only true found same = same
    only false found same = absurd (none-some number same)

    by : (found : Option (List ℕ)) → routed routes found ≡ Some number → found ≡ Some number
    by None same = absurd (none-some number same)
    by (Some found) same = only (has_route routes found) found same

asks_right : (setting : Setting) (C : ℕ × Event → Type 0) (told : List Said) (now : ℕ) (on : Option LineCall) (tag : Option Tag) (old new : Service) → ((it : LineCall) (number : List ℕ) → on ≡ Some it → IsNumberOf tag number → IsBroughtBy setting C now it number) → IsRight setting C told old → Asks now on tag old new → IsRight setting C told new
asks_right setting C told now None tag old new came right is = is_right setting C told old new right is
asks_right setting C told now (Some on) tag old new came right dials = dials_if_right setting C told now on _ _ old new (λ number is. came on number refl (is_its_number old.routes tag number is)) right dials

ends_right : (setting : Setting) (C : ℕ × Event → Type 0) (told : List Said) (now : ℕ) (place : Option Place) (old new : Service) → ((it : Place) → place ≡ Some it → C (now, over_of it)) → IsRight setting C told old → EndsIf now place old new → IsRight setting C told new
ends_right setting C told now None old new came right is = is_right setting C told old new right is
ends_right setting C told now (Some place) old new came right (mid, ends, collects) =
    collected setting C told now mid new (tells_right setting C told now _ _ mid (came place refl) (λ none. nothing_kept setting C told old _ refl refl (right none)) ends) collects

-- the call of a leg is over, where the line has such a number
call_brought : (C : ℕ × Event → Type 0) (now : ℕ) (on : Option LineCall) → ((it : LineCall) → on ≡ Some it → C (now, CallOver it)) → (place : Place) → option_map calling_place on ≡ Some place → C (now, over_of place)
call_brought C now None came place is = absurd (none-some place is)
call_brought C now (Some on) came place is = subst (λ (p : Place). C (now, over_of p)) (same_Some (calling_place on) place is) (came on refl)

job_brought : (C : ℕ × Event → Type 0) (now : ℕ) (on : Option LineCall) → ((it : LineCall) → on ≡ Some it → C (now, JobOver it)) → (place : Place) → option_map called_place on ≡ Some place → C (now, over_of place)
job_brought C now None came place is = absurd (none-some place is)
job_brought C now (Some on) came place is = subst (λ (p : Place). C (now, over_of p)) (same_Some (called_place on) place is) (came on refl)

happens_right : (setting : Setting) (C : ℕ × Event → Type 0) (told : List Said) (now line : ℕ) (what : LineEvent) (old new : Service) → ((event : Event) → LineBrings setting line what event → C (now, event)) → IsRight setting C told old → Happens now line what old new → IsRight setting C told new
happens_right setting C told now line (happened.Asked job tag) old new came right asks = asks_right setting C told now _ tag old new (λ on number is tagged event dial. came event (on, number, is, tagged, dial)) right asks
happens_right setting C told now line (happened.Ended ended ending) old new came right ends = ends_right setting C told now _ old new (call_brought C now (line_call line ended.call) (λ on is. came (CallOver on) (on, is, refl))) right ends
happens_right setting C told now line (happened.Job report tag cause) old new came right ends = ends_right setting C told now _ old new (job_brought C now (line_call line report.call) (λ on is. came (JobOver on) (on, is, refl))) right ends
happens_right setting C told now line (happened.Rung rung) old new came right is = is_right setting C told old new right is
happens_right setting C told now line (happened.NotStored lost) old new came right is = is_right setting C told old new right is
happens_right setting C told now line (happened.Page page tag) old new came right is = is_right setting C told old new right is
happens_right setting C told now line (happened.RefusedPage page tag) old new came right is = is_right setting C told old new right is
happens_right setting C told now line (happened.Dial dialled) old new came right is = is_right setting C told old new right is
happens_right setting C told now line (happened.Connected connected) old new came right is = is_right setting C told old new right is

leaves_right : (setting : Setting) (C : ℕ × Event → Type 0) (told : List Said) (now : ℕ) (before : Bool) (old new : Service) → IsRight setting C told old → Leaves now before old new → IsRight setting C told new
leaves_right setting C told now true old new right is = is_right setting C told old new right is
leaves_right setting C told now false old new right (mid, quiet, collects) =
    collected setting C told now mid new (does_right setting C told _ _ _ mid (quiet_kept setting C) (λ none. nothing_kept setting C told old _ refl refl (right none)) quiet) collects

each_right : (setting : Setting) (C : ℕ × Event → Type 0) (told : List Said) (now : ℕ) (places : List Place) (old new : Service) → ((place : Place) → C (now, over_of place)) → IsRight setting C told old → EndsEach now places old new → IsRight setting C told new
each_right setting C told now [] old new came right is = is_right setting C told old new right is
each_right setting C told now (place ∷ others) old new came right (mid, tells, rest) = each_right setting C told now others mid new came (tells_right setting C told now _ old mid (came place) right tells) rest

spoken : (setting : Setting) (C : ℕ × Event → Type 0) (told : List Said) (it : List Said) (old new : Service) → old.to_say ≡ it ++ new.to_say → new ≡ record old { to_say = new.to_say } → IsRight setting C told old → IsRight setting C (told ++ it) new
spoken setting C told it old new first rest right none =
    let before = right (sym (ap (λ (s : Service). s.lost) rest) ∙ none) in
    record {
      trunks = ap (λ (s : Service). s.agent.trunks) rest ∙ before.trunks;
      routes = ap (λ (s : Service). s.agent.routes) rest ∙ before.routes;
      past = before.past;
      came = before.came;
      orders = before.orders;
      switch = ap (λ (s : Service). s.agent.switch) rest ∙ before.switch;
      words = ap (λ (s : Service). map word_of before.orders ++ s.agent.words) rest ∙ before.words;
      same = append_assoc told it new.to_say ∙ ap (λ (l : List Said). told ++ l) (sym first) ∙ before.same;
    }

wider : (P Q : ℕ × Event → Type 0) → ((heard : ℕ × Event) → P heard → Q heard) → (past : List (ℕ × Event)) → EachOf P past → EachOf Q past
wider P Q leads [] each = tt
wider P Q leads (heard ∷ past) (here, rest) = (leads heard here, wider P Q leads past rest)

-- what was brought before is brought still
later_right : (setting : Setting) (step : Step) (earlier : List Step) (told : List Said) (service : Service) → IsRight setting (IsBrought setting earlier) told service → IsRight setting (IsBrought setting (step ∷ earlier)) told service
later_right setting step earlier told service right none =
    let before = right none in
    record {
      trunks = before.trunks;
      routes = before.routes;
      past = before.past;
      came = wider (IsBrought setting earlier) (IsBrought setting (step ∷ earlier)) (λ heard brought. inr brought) before.past before.came;
      orders = before.orders;
      switch = before.switch;
      words = before.words;
      same = before.same;
    }

nothing_more : (setting : Setting) (C : ℕ × Event → Type 0) (told : List Said) (service : Service) → IsRight setting C told service → IsRight setting C (told ++ []) service
nothing_more setting C told service right = subst (λ (l : List Said). IsRight setting C l service) (sym (append-nil told)) right

step_right : (setting : Setting) (step : Step) (earlier : List Step) (told : List Said) (old new : Service) → IsRight setting (IsBrought setting (step ∷ earlier)) told old → StepsBy step old new → IsRight setting (IsBrought setting (step ∷ earlier)) (told ++ said_by step) new
step_right setting (Came now trunk message) earlier told old new right (mid, hears, collects) =
    let C = IsBrought setting (Came now trunk message ∷ earlier) in
    nothing_more setting C told new (collected setting C told now mid new (does_right setting C told _ _ old mid (datagram_kept setting C now trunk message (λ event may. inl (refl, may))) right hears) collects)
step_right setting (Passed now) earlier told old new right (mid, goes, collects) =
    let C = IsBrought setting (Passed now ∷ earlier) in
    nothing_more setting C told new (collected setting C told now mid new (times_right setting C told now goes.0 old mid (λ event due. inl (refl, due)) right goes.1) collects)
step_right setting (Spoke it) earlier told old new right speaks = spoken setting (IsBrought setting (Spoke it ∷ earlier)) told (option_to_list it) old new speaks.first speaks.rest right
step_right setting (Waited it) earlier told old new right is =
    let C = IsBrought setting (Waited it ∷ earlier) in
    nothing_more setting C told new (subst (λ s. IsRight setting C told s) (sym is) (λ none. nothing_kept setting C told old _ refl refl (right none)))
step_right setting (Ended now answer) earlier told old new right answers =
    let C = IsBrought setting (Ended now answer ∷ earlier) in
    nothing_more setting C told new (waited_right setting C told now old.waits answer old new (λ it event brings. inl (refl, (it, brings))) right answers)
step_right setting (Answered now it answer) earlier told old new right (mid, answers, collects) =
    let C = IsBrought setting (Answered now it answer ∷ earlier) in
    nothing_more setting C told new (collected setting C told now mid new (answers_right setting C told now it answer old mid (λ event brings. inl (refl, brings)) right answers) collects)
step_right setting (Happened now line what) earlier told old new right happens =
    let C = IsBrought setting (Happened now line what ∷ earlier) in
    nothing_more setting C told new (happens_right setting C told now line what old new (λ event brings. inl (refl, brings)) right happens)
step_right setting (Stops now) earlier told old new right leaves =
    let C = IsBrought setting (Stops now ∷ earlier) in
    nothing_more setting C told new (leaves_right setting C told now old.is_leaving old new right leaves)
step_right setting (Stopped now) earlier told old new right (mid, each, collects) =
    let C = IsBrought setting (Stopped now ∷ earlier) in
    nothing_more setting C told new (collected setting C told now mid new (each_right setting C told now old.places _ mid (λ place. inl (refl, (place, refl))) (λ none. nothing_kept setting C told old _ refl refl (right none)) each) collects)
step_right setting Emptied earlier told old new right empties =
    let C = IsBrought setting (Emptied ∷ earlier) in
    nothing_more setting C told new (λ none. same_right setting C told old new (record { trunks = empties.trunks; routes = empties.routes; switch = empties.switch; words = empties.words }) empties.to_say (right (sym empties.lost ∙ none)))

pub each_word : (setting : Setting) (passed : List Step) (service : Service) → Passes setting passed service → service.lost ≡ 0 → SaysItsWords setting (IsBrought setting passed) (said_in passed) service
each_word setting [] service made none =
    record { trunks = made.trunks; routes = made.routes; past = []; came = tt; orders = []; switch = made.switch; words = made.words; same = made.to_say }
each_word setting (step ∷ earlier) service (before, passes, steps) none = step_right setting step earlier (said_in earlier) before service (later_right setting step earlier (said_in earlier) before (each_word setting earlier before passes)) steps none
