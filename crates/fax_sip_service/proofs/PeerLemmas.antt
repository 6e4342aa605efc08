-- Each peer that SIP says of a called leg is the machine of its job.
use Rattle.std.proofs.Common.{◌≡◌, ℕ, Bool, true, false, ◌==◌, ◌&&◌, List, [], ◌∷◌, ◌++◌, map, Option, Some, None, inl, inr, ap, sym, subst, refl, ◌∙◌, if◌then◌else◌}
use Rattle.std.proofs.lemmas.List.Elements.{All-append, All-cons, All-head, All-nil, All-same, All-tail}
use Rattle.std.proofs.lemmas.Bool.{eqb-true}
use Rattle.std.proofs.lemmas.Option.{none-some, same_Some}
use Rattle.std.specs.List.{All}
use Rattle.std.specs.Option.{option_to_list}
use Rattle.fax_desk.specs.declared.next.Reply.{Reply}
use Rattle.fax_desk.specs.declared.next.Reply.TheVariants as reply
use Rattle.fax_desk.specs.declared.told.LineEvent.TheVariants as happened
use Rattle.fax_sip.specs.declared.start.Method.{Method}
use Rattle.fax_sip.specs.Messages.{MessageText}
use Rattle.fax_sip.specs.Starts.{StartText, Request, Answer, method_of}
use Rattle.fax_switch.specs.declared.action.LineAction.{LineAction}
use Rattle.fax_switch.specs.declared.action.LineAction.TheVariants as word
use Rattle.fax_switch.specs.declared.call.Entry.{Entry}
use Rattle.fax_switch.specs.declared.event.CallEvent.{CallEvent}
use Rattle.fax_switch.specs.declared.event.CallEvent.TheVariants as call
use Rattle.fax_switch.specs.declared.event.Choice.{Choice}
use Rattle.fax_switch.specs.declared.event.Choice.TheVariants.{Routed, Unrouted, TrunkFull}
use Rattle.fax_switch.specs.declared.event.Event.{Event}
use Rattle.fax_switch.specs.declared.event.Event.TheVariants.{Elapsed, Came, Rung, NotRung, Dialled, CallOver, JobOver, Within}
use Rattle.fax_switch.specs.declared.media.Description.{Description}
use Rattle.fax_switch.specs.declared.media.Description.TheVariants.{FaxAt, AudioAt, NothingSaid, Unusable}
use Rattle.fax_switch.specs.declared.media.FaxEnd.{FaxEnd}
use Rattle.fax_switch.specs.declared.media.Offer.{Offer}
use Rattle.fax_switch.specs.declared.place.Leg.{Leg}
use Rattle.fax_switch.specs.declared.place.Leg.TheVariants.{Calling, Called}
use Rattle.fax_switch.specs.declared.place.LineCall.{LineCall}
use Rattle.fax_switch.specs.declared.place.Place.{Place}
use Rattle.fax_switch.specs.Descriptions.{Says}
use Rattle.fax_switch.specs.Entries.{Each}
use Rattle.fax_switch.specs.Histories.{Dial, dial_by, dial_of, dial_with, fax_in, fax_said, fax_told, is_dial_of, table_after}
use Rattle.fax_switch.specs.SwitchLaws.{IsOfItsDial, OnCalled}
use Rattle.fax_switch.proofs.SwitchProofs.{peers_are_of_their_dials}
use Rattle.fax_user_agent.specs.declared.out.LineOrder.{LineOrder}
use Rattle.fax_user_agent.specs.declared.out.LineOrder.TheVariants as order
use Rattle.fax_user_agent.specs.declared.settings.Trunk.{Trunk}
use Rattle.fax_user_agent.specs.Dues.{IsOfTime}
use Rattle.fax_user_agent.specs.Events.{IsFinal, IsOfAnswer, IsOfRequest, MayBeOf}
use Rattle.fax_user_agent.specs.Orders.{said_by, word_of, words_of}
use Rattle.fax_user_agent.specs.Placings.{IsPlacing, IsRoutedOver}
use Rattle.fax_sip_service.specs.declared.said.Said.{Said}
use Rattle.fax_sip_service.specs.declared.said.Said.TheVariants as said
use Rattle.fax_sip_service.specs.Laws as laws
use Rattle.fax_sip_service.specs.Laws.{Setting, Step, Passes, AnswerBrings, Brings, EachOf, IsBrought, IsNumberOf, LineBrings, SaysItsWords, SomeStep, said_in, says, words_since}
use Rattle.fax_sip_service.specs.Peers.{AsksFor, Describes, IsItsMachine, IsToItsMachine, PeersAreOfTheirJobs}
use Rattle.fax_sip_service.specs.Services.{over_of, over_on}
use Rattle.fax_sip_service.specs.Words.{said_of}
use Rattle.fax_sip_service.proofs.LawLemmas.{each_word}

some_leads : (P Q : Step → Type 0) → ((step : Step) → P step → Q step) → (passed : List Step) → SomeStep P passed → SomeStep Q passed
some_leads P Q leads [] some = some
some_leads P Q leads (step ∷ earlier) (inl is) = inl (leads step is)
some_leads P Q leads (step ∷ earlier) (inr some) = inr (some_leads P Q leads earlier some)

-- ---- no answer, and no end of a call, is an event of this kind: neither in a call nor a dial

abbrev IsElsewhere : Event → Type 0
IsElsewhere (Within id event) = ⊥
IsElsewhere (Dialled on choice) = ⊥
IsElsewhere other = Unit {0}

over_elsewhere : (leg : Leg) (on : LineCall) → IsElsewhere (over_on leg on)
over_elsewhere Calling on = tt
over_elsewhere Called on = tt

answer_elsewhere : (it : Said) (answer : Reply) (event : Event) → AnswerBrings it answer event → IsElsewhere event
answer_elsewhere (said.Ring call tag) (reply.RungOn rung) event (on, is, same) = subst IsElsewhere (sym same) tt
answer_elsewhere (said.Ring call tag) (reply.Refused why) event same = subst IsElsewhere (sym same) tt
answer_elsewhere (said.Ring call tag) reply.Done event brings = absurd brings
answer_elsewhere (said.Ring call tag) (reply.Rung rung) event brings = absurd brings
answer_elsewhere (said.Peer place end is_moved) (reply.Refused why) event same = subst IsElsewhere (sym same) (over_elsewhere place.leg _)
answer_elsewhere (said.Peer place end is_moved) (reply.RungOn rung) event brings = absurd brings
answer_elsewhere (said.Peer place end is_moved) reply.Done event brings = absurd brings
answer_elsewhere (said.Peer place end is_moved) (reply.Rung rung) event brings = absurd brings
answer_elsewhere (said.Refuse place digits) answer event brings = absurd brings
answer_elsewhere (said.HangUp place) answer event brings = absurd brings

-- ---- a dial is that of a job that asked for its call

-- a step that brings a dial is one of a line
record AsksSo (setting : Setting) (on : LineCall) (choice : Choice) (number : List ℕ) (step : Step) : Type 0 where
  asked : AsksFor on number step
  placed : IsPlacing setting.trunks setting.routes number choice

dialled_same : (on it : LineCall) (choice chosen : Choice) → Dialled on choice ≡ Dialled it chosen → (on ≡ it) × (choice ≡ chosen)
dialled_same on it choice chosen same = (ap on_of same, ap choice_of same)
  where
    on_of : Event → LineCall
    on_of (Dialled other placed) = other
    on_of other = on

    choice_of : Event → Choice
    choice_of (Dialled other placed) = placed
    choice_of other = choice

elsewhere_dial : {P : Type 0} (event : Event) (on : LineCall) (choice : Choice) → IsElsewhere event → Dialled on choice ≡ event → P
elsewhere_dial event on choice is same = absurd (subst IsElsewhere (sym same) is)

no_dial : {P : Type 0} (setting : Setting) (text : MessageText) (start : StartText) (on : LineCall) (choice : Choice) → MayBeOf setting.routes start text (Dialled on choice) → P
no_dial setting text (Request method uri) on choice may = absurd may
no_dial setting text (Answer status) on choice may = absurd may

dial_asks : (setting : Setting) (on : LineCall) (choice : Choice) (at : ℕ) (step : Step) → Brings setting step (at, Dialled on choice) → (number : List ℕ) × AsksSo setting on choice number step
dial_asks setting on choice at (laws.Came now trunk message) (same, (known, text, reads, may)) = no_dial setting text text.start on choice may
dial_asks setting on choice at (laws.Passed now) (same, due) = absurd due
dial_asks setting on choice at (laws.Spoke it) brings = absurd brings
dial_asks setting on choice at (laws.Waited it) brings = absurd brings
dial_asks setting on choice at (laws.Ended now answer) (same, (it, brings)) = absurd (answer_elsewhere it answer (Dialled on choice) brings)
dial_asks setting on choice at (laws.Answered now it answer) (same, brings) = absurd (answer_elsewhere it answer (Dialled on choice) brings)
dial_asks setting on choice at (laws.Happened now line (happened.Asked job tag)) (same, (it, number, is, tagged, (chosen, placed, event))) =
    let both = dialled_same on it choice chosen event in (
      number,
      record {
        asked = (is ∙ ap (λ (l : LineCall). Some l) (sym both.0), tagged);
        placed = subst (λ (c : Choice). IsPlacing setting.trunks setting.routes number c) (sym both.1) placed;
      },
    )
dial_asks setting on choice at (laws.Happened now line (happened.Ended ended ending)) (same, (it, is, event)) = elsewhere_dial (CallOver it) on choice tt event
dial_asks setting on choice at (laws.Happened now line (happened.Job report tag cause)) (same, (it, is, event)) = elsewhere_dial (JobOver it) on choice tt event
dial_asks setting on choice at (laws.Happened now line (happened.Rung rung)) (same, brings) = absurd brings
dial_asks setting on choice at (laws.Happened now line (happened.NotStored lost)) (same, brings) = absurd brings
dial_asks setting on choice at (laws.Happened now line (happened.Page page tag)) (same, brings) = absurd brings
dial_asks setting on choice at (laws.Happened now line (happened.RefusedPage page tag)) (same, brings) = absurd brings
dial_asks setting on choice at (laws.Happened now line (happened.Dial dialled)) (same, brings) = absurd brings
dial_asks setting on choice at (laws.Happened now line (happened.Connected connected)) (same, brings) = absurd brings
dial_asks setting on choice at (laws.Stops now) brings = absurd brings
dial_asks setting on choice at (laws.Stopped now) (same, (place, event)) = elsewhere_dial (over_of place) on choice (over_elsewhere place.leg _) event
dial_asks setting on choice at laws.Emptied brings = absurd brings

-- the job of this call asked for its call, by a tag whose number has this route
record IsAsked (setting : Setting) (passed : List Step) (on : LineCall) (route : ℕ) : Type 0 where
  number : List ℕ
  asked : SomeStep (AsksFor on number) passed
  trunk : Trunk
  routed : IsRoutedOver setting.trunks setting.routes number route trunk

earlier_asked : (setting : Setting) (step : Step) (earlier : List Step) (on : LineCall) (route : ℕ) → IsAsked setting earlier on route → IsAsked setting (step ∷ earlier) on route
earlier_asked setting step earlier on route is = record { number = is.number; asked = inr is.asked; trunk = is.trunk; routed = is.routed }

routed_asked : (setting : Setting) (passed : List Step) (on : LineCall) (route : ℕ) (offer : Offer) (at : ℕ) → IsBrought setting passed (at, Dialled on (Routed route offer)) → IsAsked setting passed on route
routed_asked setting [] on route offer at brought = absurd brought
routed_asked setting (step ∷ earlier) on route offer at (inl brings) =
    let asks = dial_asks setting on (Routed route offer) at step brings in
    let placed = asks.1.placed in
    record { number = asks.0; asked = inl asks.1.asked; trunk = placed.0; routed = placed.1 }
routed_asked setting (step ∷ earlier) on route offer at (inr brought) = earlier_asked setting step earlier on route (routed_asked setting earlier on route offer at brought)

dial_fields : (dial other : Dial) → Some dial ≡ Some other → (dial.call ≡ other.call) × (dial.route ≡ other.route)
dial_fields dial other same = let is = same_Some dial other same in (ap (λ (d : Dial). d.call) is, ap (λ (d : Dial). d.route) is)

placed_asked : (setting : Setting) (passed : List Step) (line : ℕ) (dial : Dial) (id at : ℕ) (on : LineCall) (choice : Choice) → line ≡ on.line
    → IsBrought setting passed (at, Dialled on choice) → dial_by id on choice ≡ Some dial → IsAsked setting passed (record { line = line; call = dial.call }) dial.route
placed_asked setting passed line dial id at on (Routed route offer) here brought is =
    let fields = dial_fields (dial_with id on.call route) dial is in
    subst (λ (r : ℕ). IsAsked setting passed (record { line = line; call = dial.call }) r) fields.1
    (subst (λ (c : ℕ). IsAsked setting passed (record { line = line; call = c }) route) fields.0
    (subst (λ (l : ℕ). IsAsked setting passed (record { line = l; call = on.call }) route) (sym here) (routed_asked setting passed on route offer at brought)))
placed_asked setting passed line dial id at on Unrouted here brought is = absurd (none-some dial is)
placed_asked setting passed line dial id at on TrunkFull here brought is = absurd (none-some dial is)

dial_asked : (setting : Setting) (passed : List Step) (line : ℕ) (dial : Dial) (past : List (ℕ × Event)) → EachOf (IsBrought setting passed) past
    → dial_of setting.most past line ≡ Some dial → IsAsked setting passed (record { line = line; call = dial.call }) dial.route
dial_asked setting passed line dial [] each is = absurd (none-some dial is)
dial_asked setting passed line dial ((at, Dialled on choice) ∷ past) (here, rest) is = by (line == on.line) refl (dial_asked setting passed line dial past rest) is
  where
    by : (b : Bool) → (line == on.line) ≡ b → (dial_of setting.most past line ≡ Some dial → IsAsked setting passed (record { line = line; call = dial.call }) dial.route)
        → if◌then◌else◌ {A = Option Dial} b (dial_by (table_after setting.most past).next on choice) (dial_of setting.most past line) ≡ Some dial
        → IsAsked setting passed (record { line = line; call = dial.call }) dial.route
    by true same before found = placed_asked setting passed line dial _ at on choice (eqb-true line on.line same) here found
    by false other before found = before found
dial_asked setting passed line dial ((at, JobOver on) ∷ past) (here, rest) is = by (line == on.line && is_dial_of on (dial_of setting.most past line)) (dial_asked setting passed line dial past rest) is
  where
    by : (b : Bool) → (dial_of setting.most past line ≡ Some dial → IsAsked setting passed (record { line = line; call = dial.call }) dial.route)
        → if◌then◌else◌ {A = Option Dial} b None (dial_of setting.most past line) ≡ Some dial → IsAsked setting passed (record { line = line; call = dial.call }) dial.route
    by true before found = absurd (none-some dial found)
    by false before found = before found
dial_asked setting passed line dial ((at, Elapsed) ∷ past) (here, rest) is = dial_asked setting passed line dial past rest is
dial_asked setting passed line dial ((at, Came route said) ∷ past) (here, rest) is = dial_asked setting passed line dial past rest is
dial_asked setting passed line dial ((at, Rung id on) ∷ past) (here, rest) is = dial_asked setting passed line dial past rest is
dial_asked setting passed line dial ((at, NotRung id status) ∷ past) (here, rest) is = dial_asked setting passed line dial past rest is
dial_asked setting passed line dial ((at, CallOver on) ∷ past) (here, rest) is = dial_asked setting passed line dial past rest is
dial_asked setting passed line dial ((at, Within id event) ∷ past) (here, rest) is = dial_asked setting passed line dial past rest is

-- ---- an end of T.38 that is told is one that a message describes

end_said : (body : List ℕ) (said : Description) (end : FaxEnd) → fax_said said ≡ Some end → Says body said → Says body (FaxAt end)
end_said body (FaxAt other) end is says = subst (λ (e : FaxEnd). Says body (FaxAt e)) (same_Some other end is) says
end_said body (AudioAt address) end is says = absurd (none-some end is)
end_said body NothingSaid end is says = absurd (none-some end is)
end_said body Unusable end is says = absurd (none-some end is)

nothing_said : {P : Type 0} (said : Description) (end : FaxEnd) → said ≡ NothingSaid → fax_said said ≡ Some end → P
nothing_said said end none is = absurd (none-some end (sym (ap fax_said none) ∙ is))

final_says : (status : ℕ) (body : List ℕ) (told : ℕ) (said : Description) (end : FaxEnd) → IsFinal status body told said → fax_said said ≡ Some end → Says body (FaxAt end)
final_says status body told said end (inl (below, inl (same, says))) is = end_said body said end is says
final_says status body told said end (inl (below, inr (failed, none))) is = nothing_said said end none is
final_says status body told said end (inr (above, refused, none)) is = nothing_said said end none is

answer_says : (text : MessageText) (status : ℕ) (event : CallEvent) (end : FaxEnd) → IsOfAnswer text status event → fax_in event ≡ Some end → Says text.body (FaxAt end)
answer_says text status (call.InviteAnswered told pause said) end (final, may) is = final_says status text.body told said end may is
answer_says text status call.AnswerRepeated end may is = absurd (none-some end is)
answer_says text status (call.Reinvited said) end may is = absurd may
answer_says text status (call.Acknowledged said) end may is = absurd may
answer_says text status call.ByeReceived end may is = absurd may
answer_says text status call.ByeDone end may is = absurd (none-some end is)
answer_says text status call.CancelReceived end may is = absurd may
answer_says text status call.RefreshDue end may is = absurd may
answer_says text status call.Expired end may is = absurd may

request_says : (text : MessageText) (asked : Method) (event : CallEvent) (end : FaxEnd) → IsOfRequest text asked event → fax_in event ≡ Some end → Says text.body (FaxAt end)
request_says text asked (call.InviteAnswered told pause said) end may is = absurd may
request_says text asked call.AnswerRepeated end may is = absurd may
request_says text asked (call.Reinvited said) end (invites, within, says) is = end_said text.body said end is says
request_says text asked (call.Acknowledged said) end (acknowledges, says) is = end_said text.body said end is says
request_says text asked call.ByeReceived end may is = absurd (none-some end is)
request_says text asked call.ByeDone end may is = absurd may
request_says text asked call.CancelReceived end may is = absurd (none-some end is)
request_says text asked call.RefreshDue end may is = absurd may
request_says text asked call.Expired end may is = absurd may

message_says : (setting : Setting) (text : MessageText) (start : StartText) (id : ℕ) (event : CallEvent) (end : FaxEnd) → MayBeOf setting.routes start text (Within id event) → fax_in event ≡ Some end
    → Says text.body (FaxAt end)
message_says setting text (Request method uri) id event end may is = request_says text (method_of method) event end may is
message_says setting text (Answer status) id event end may is = answer_says text status event end may is

time_says : {P : Type 0} (event : CallEvent) (end : FaxEnd) → IsOfTime event → fax_in event ≡ Some end → P
time_says (call.InviteAnswered told pause said) end (failed, none, nothing) is = nothing_said said end nothing is
time_says call.AnswerRepeated end due is = absurd due
time_says (call.Reinvited said) end due is = absurd due
time_says (call.Acknowledged said) end due is = absurd due
time_says call.ByeReceived end due is = absurd due
time_says call.ByeDone end due is = absurd (none-some end is)
time_says call.CancelReceived end due is = absurd due
time_says call.RefreshDue end due is = absurd (none-some end is)
time_says call.Expired end due is = absurd (none-some end is)

elsewhere_call : {P : Type 0} (event : Event) (id : ℕ) (happening : CallEvent) → IsElsewhere event → Within id happening ≡ event → P
elsewhere_call event id happening is same = absurd (subst IsElsewhere (sym same) is)

no_call : {P : Type 0} (on : LineCall) (choice : Choice) (id : ℕ) (happening : CallEvent) → Within id happening ≡ Dialled on choice → P
no_call on choice id happening same = cc (same)

within_described : (setting : Setting) (id : ℕ) (event : CallEvent) (end : FaxEnd) (at : ℕ) (step : Step) → fax_in event ≡ Some end → Brings setting step (at, Within id event) → Describes setting id end step
within_described setting id event end at (laws.Came now trunk message) is (same, (known, text, reads, may)) = (known, text, reads, event, may, message_says setting text text.start id event end may is)
within_described setting id event end at (laws.Passed now) is (same, due) = time_says event end due is
within_described setting id event end at (laws.Spoke it) is brings = absurd brings
within_described setting id event end at (laws.Waited it) is brings = absurd brings
within_described setting id event end at (laws.Ended now answer) is (same, (it, brings)) = absurd (answer_elsewhere it answer (Within id event) brings)
within_described setting id event end at (laws.Answered now it answer) is (same, brings) = absurd (answer_elsewhere it answer (Within id event) brings)
within_described setting id event end at (laws.Happened now line (happened.Asked job tag)) is (same, (it, number, on, tagged, (chosen, placed, event_is))) = no_call it chosen id event event_is
within_described setting id event end at (laws.Happened now line (happened.Ended ended ending)) is (same, (it, on, event_is)) = elsewhere_call (CallOver it) id event tt event_is
within_described setting id event end at (laws.Happened now line (happened.Job report tag cause)) is (same, (it, on, event_is)) = elsewhere_call (JobOver it) id event tt event_is
within_described setting id event end at (laws.Happened now line (happened.Rung rung)) is (same, brings) = absurd brings
within_described setting id event end at (laws.Happened now line (happened.NotStored lost)) is (same, brings) = absurd brings
within_described setting id event end at (laws.Happened now line (happened.Page page tag)) is (same, brings) = absurd brings
within_described setting id event end at (laws.Happened now line (happened.RefusedPage page tag)) is (same, brings) = absurd brings
within_described setting id event end at (laws.Happened now line (happened.Dial dialled)) is (same, brings) = absurd brings
within_described setting id event end at (laws.Happened now line (happened.Connected connected)) is (same, brings) = absurd brings
within_described setting id event end at (laws.Stops now) is brings = absurd brings
within_described setting id event end at (laws.Stopped now) is (same, (place, event_is)) = elsewhere_call (over_of place) id event (over_elsewhere place.leg _) event_is
within_described setting id event end at laws.Emptied is brings = absurd brings

told_described : (setting : Setting) (passed : List Step) (id : ℕ) (end : FaxEnd) (at : ℕ) (event : Event) → fax_told event id ≡ Some end → IsBrought setting passed (at, event) → SomeStep (Describes setting id end) passed
told_described setting passed id end at (Within call happening) is brought = by (call == id) refl is
  where
    by : (b : Bool) → (call == id) ≡ b → if◌then◌else◌ {A = Option FaxEnd} b (fax_in happening) None ≡ Some end → SomeStep (Describes setting id end) passed
    by true same told =
        subst (λ (i : ℕ). SomeStep (Describes setting i end) passed) (eqb-true call id same)
        (some_leads (λ step. Brings setting step (at, Within call happening)) (Describes setting call end) (λ step brings. within_described setting call happening end at step told brings) passed brought)
    by false other told = absurd (none-some end told)
told_described setting passed id end at Elapsed is brought = absurd (none-some end is)
told_described setting passed id end at (Came route said) is brought = absurd (none-some end is)
told_described setting passed id end at (Rung call on) is brought = absurd (none-some end is)
told_described setting passed id end at (NotRung call status) is brought = absurd (none-some end is)
told_described setting passed id end at (Dialled on choice) is brought = absurd (none-some end is)
told_described setting passed id end at (CallOver on) is brought = absurd (none-some end is)
told_described setting passed id end at (JobOver on) is brought = absurd (none-some end is)

-- ---- each word

abbrev IsSo : Setting → List Step → LineAction → Type 0
IsSo setting passed (word.Peer place end moved) = OnCalled place.leg (IsItsMachine setting passed place end)
IsSo setting passed other = Unit {0}

on_called : (leg : Leg) (P Q : Type 0) → (P → Q) → OnCalled leg P → OnCalled leg Q
on_called Calling P Q leads is = tt
on_called Called P Q leads is = leads is

its_machine : (setting : Setting) (passed : List Step) (place : Place) (end : FaxEnd) (id route at : ℕ) (event : Event) (past : List (ℕ × Event)) → IsBrought setting passed (at, event) → EachOf (IsBrought setting passed) past
    → dial_of setting.most past place.line ≡ Some (dial_with id place.call route) → fax_told event id ≡ Some end → IsItsMachine setting passed place end
its_machine setting passed place end id route at event past brought each dial told =
    let asked = dial_asked setting passed place.line (dial_with id place.call route) past each dial in
    record {
      number = asked.number;
      asked = asked.asked;
      route = route;
      trunk = asked.trunk;
      routed = asked.routed;
      past = past;
      heard = each;
      call = id;
      dial = dial;
      described = told_described setting passed id end at event told brought;
    }

word_so : (setting : Setting) (passed : List Step) (id route at : ℕ) (event : Event) (past : List (ℕ × Event)) → IsBrought setting passed (at, event) → EachOf (IsBrought setting passed) past
    → (line : LineAction) → IsOfItsDial (dial_of setting.most past) (fax_told event id) id route line → All (IsSo setting passed) (said_by line)
word_so setting passed id route at event past brought each (word.Peer place end moved) is =
    All-cons (IsSo setting passed) (word.Peer place end moved) []
    (on_called place.leg ((dial_of setting.most past place.line ≡ Some (dial_with id place.call route)) × (fax_told event id ≡ Some end)) (IsItsMachine setting passed place end) (λ both. its_machine setting passed place end id route at event past brought each both.0 both.1) is)
    (All-nil (IsSo setting passed))
word_so setting passed id route at event past brought each word.NoWord is = All-nil (IsSo setting passed)
word_so setting passed id route at event past brought each word.RingAny is = All-cons (IsSo setting passed) word.RingAny [] tt (All-nil (IsSo setting passed))
word_so setting passed id route at event past brought each (word.AudioOn place address) is = All-cons (IsSo setting passed) (word.AudioOn place address) [] tt (All-nil (IsSo setting passed))
word_so setting passed id route at event past brought each (word.AudioOff place) is = All-cons (IsSo setting passed) (word.AudioOff place) [] tt (All-nil (IsSo setting passed))
word_so setting passed id route at event past brought each (word.RefuseCall place status) is = All-cons (IsSo setting passed) (word.RefuseCall place status) [] tt (All-nil (IsSo setting passed))
word_so setting passed id route at event past brought each (word.HangUpLeg place) is = All-cons (IsSo setting passed) (word.HangUpLeg place) [] tt (All-nil (IsSo setting passed))

entries_so : (setting : Setting) (passed : List Step) (at : ℕ) (event : Event) (past : List (ℕ × Event)) → IsBrought setting passed (at, event) → EachOf (IsBrought setting passed) past
    → (entries : List Entry) → Each (λ entry. IsOfItsDial (dial_of setting.most past) (fax_told event entry.call.id) entry.call.id entry.call.route entry.line) entries → All (IsSo setting passed) (words_of entries)
entries_so setting passed at event past brought each [] is = All-nil (IsSo setting passed)
entries_so setting passed at event past brought each (entry ∷ entries) (first, rest) =
    All-append (IsSo setting passed) (said_by entry.line) (words_of entries)
    (word_so setting passed entry.call.id entry.call.route at event past brought each entry.line first)
    (entries_so setting passed at event past brought each entries rest)

words_so : (setting : Setting) (passed : List Step) (past : List (ℕ × Event)) → EachOf (IsBrought setting passed) past → All (IsSo setting passed) (words_since setting.most past)
words_so setting passed [] each = All-nil (IsSo setting passed)
words_so setting passed ((at, event) ∷ past) (here, rest) =
    All-append (IsSo setting passed) (words_since setting.most past) (words_of (table_after setting.most ((at, event) ∷ past)).entries)
    (words_so setting passed past rest)
    (entries_so setting passed at event past here rest (table_after setting.most ((at, event) ∷ past)).entries (peers_are_of_their_dials setting.most at event past))

all_front : {X : Type 0} (P : X → Type 0) (xs ys : List X) → All P (xs ++ ys) → All P xs
all_front P [] ys all = All-nil P
all_front P (x ∷ xs) ys all = All-cons P x xs (All-head P x (xs ++ ys) all) (all_front P xs ys (All-tail P x (xs ++ ys) all))

order_so : (setting : Setting) (passed : List Step) (given : LineOrder) → IsSo setting passed (word_of given) → All (IsToItsMachine setting passed) (option_to_list (said_of given))
order_so setting passed (order.Ring call tag) is = All-cons (IsToItsMachine setting passed) (said.Ring call tag) [] tt (All-nil (IsToItsMachine setting passed))
order_so setting passed (order.Peer place end is_moved) is = All-cons (IsToItsMachine setting passed) (said.Peer place end is_moved) [] is (All-nil (IsToItsMachine setting passed))
order_so setting passed (order.AudioOn place end) is = All-nil (IsToItsMachine setting passed)
order_so setting passed (order.AudioOff place) is = All-nil (IsToItsMachine setting passed)
order_so setting passed (order.Refuse place status) is = All-cons (IsToItsMachine setting passed) (said.Refuse place _) [] tt (All-nil (IsToItsMachine setting passed))
order_so setting passed (order.HangUp place) is = All-cons (IsToItsMachine setting passed) (said.HangUp place) [] tt (All-nil (IsToItsMachine setting passed))

orders_so : (setting : Setting) (passed : List Step) (orders : List LineOrder) → All (IsSo setting passed) (map word_of orders) → All (IsToItsMachine setting passed) (says orders)
orders_so setting passed [] all = All-nil (IsToItsMachine setting passed)
orders_so setting passed (given ∷ orders) all =
    All-append (IsToItsMachine setting passed) (option_to_list (said_of given)) (says orders)
    (order_so setting passed given (All-head (IsSo setting passed) (word_of given) (map word_of orders) all))
    (orders_so setting passed orders (All-tail (IsSo setting passed) (word_of given) (map word_of orders) all))

pub each_peer : PeersAreOfTheirJobs
each_peer setting passed service passes none =
    let right = each_word setting passed service passes none in
    let words = All-same (IsSo setting passed) (map word_of right.orders ++ service.agent.words) (words_since setting.most right.past) right.words (words_so setting passed right.past right.came) in
    let said = orders_so setting passed right.orders (all_front (IsSo setting passed) (map word_of right.orders) service.agent.words words) in
    all_front (IsToItsMachine setting passed) (said_in passed) service.to_say (All-same (IsToItsMachine setting passed) (said_in passed ++ service.to_say) (says right.orders) right.same said)
