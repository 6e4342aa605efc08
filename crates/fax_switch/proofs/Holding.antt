-- A call that holds a leg is the one that the leg was given to.
use Rattle.std.proofs.Common.{◌≡◌, ℕ, ◌==◌, ◌&&◌, Bool, true, false, if◌then◌else◌, Option, None, Some, refl, ap, sym, subst, ◌∙◌, inl, inr, eq-eqb}
use Rattle.std.proofs.lemmas.Bool.{eqb-true}
use Rattle.fax_transactions.proofs.RunProofs.{chosen}
use Rattle.fax_switch.specs.declared.action.LineAction.{LineAction}
use Rattle.fax_switch.specs.declared.action.LineAction.TheVariants.{NoWord, RingAny, Peer, AudioOn, AudioOff, RefuseCall, HangUpLeg}
use Rattle.fax_switch.specs.declared.action.SipAction.{SipAction}
use Rattle.fax_switch.specs.declared.action.SipAction.TheVariants.{SendOffer, Accept}
use Rattle.fax_switch.specs.declared.call.Call.{Call}
use Rattle.fax_switch.specs.declared.call.Entry.{Entry}
use Rattle.fax_switch.specs.declared.call.Stage.{Stage}
use Rattle.fax_switch.specs.declared.call.Stage.TheVariants.{Asking, Dropped, Placing, Cancelling, Talking, Over}
use Rattle.fax_switch.specs.declared.event.CallEvent.{CallEvent}
use Rattle.fax_switch.specs.declared.event.Choice.{Choice}
use Rattle.fax_switch.specs.declared.event.Choice.TheVariants.{Routed, Unrouted, TrunkFull}
use Rattle.fax_switch.specs.declared.event.Event.{Event}
use Rattle.fax_switch.specs.declared.event.Event.TheVariants.{Elapsed, Came, Rung, NotRung, Dialled, CallOver, JobOver, Within}
use Rattle.fax_switch.specs.declared.media.Description.{Description}
use Rattle.fax_switch.specs.declared.media.Description.TheVariants.{FaxAt, AudioAt, NothingSaid, Unusable}
use Rattle.fax_switch.specs.declared.media.FaxEnd.{FaxEnd}
use Rattle.fax_switch.specs.declared.place.Leg.{Leg}
use Rattle.fax_switch.specs.declared.place.Leg.TheVariants.{Calling, Called}
use Rattle.fax_switch.specs.declared.place.LineCall.{LineCall}
use Rattle.fax_switch.specs.declared.place.Place.{Place}
use Rattle.fax_switch.specs.Calls.{begun_by, call_row, came, dialled, freed, not_rung, passed, released, rung, taken, within}
use Rattle.fax_switch.specs.Histories.{Dial, Ring, dial_after, dial_by, dial_with, fax_in, fax_told, is_dial_of, is_reinvite, is_ring_of, reinvites, ring_after, ring_with}
use Rattle.fax_switch.specs.Places.{called_place, calling_place, holds, holds_leg, is_leg}
use Rattle.fax_switch.specs.SwitchLaws.{IsAcceptedFor, IsOfItsDial, IsOverItsRoute, IsRouted, OnCalled}
use Rattle.fax_switch.proofs.Preserving.{IsKept, Keeps, SipIs, WordIs, not_rung_keeps, passed_keeps, released_keeps, within_keeps}

abbrev pub HoldsLeg : (ℕ → Option Ring) → (ℕ → Option Dial) → ℕ → ℕ → Leg → ℕ → ℕ → Type 0
HoldsLeg ring dial id route Calling line call = ring line ≡ Some (ring_with id call)
HoldsLeg ring dial id route Called line call = dial line ≡ Some (dial_with id call route)

abbrev pub HoldsPlace : (ℕ → Option Ring) → (ℕ → Option Dial) → ℕ → ℕ → Option Place → Type 0
HoldsPlace ring dial id route None = Unit {0}
HoldsPlace ring dial id route (Some place) = HoldsLeg ring dial id route place.leg place.line place.call

abbrev pub Holds : (ℕ → Option Ring) → (ℕ → Option Dial) → Call → Type 0
Holds ring dial call = HoldsPlace ring dial call.id call.route call.place

-- what happens to the legs
abbrev pub rings : Event → (ℕ → Option Ring) → ℕ → Option Ring
rings event ring line = ring_after line event (ring line)

abbrev pub dials : ℕ → Event → (ℕ → Option Dial) → ℕ → Option Dial
dials next event dial line = dial_after next line event (dial line)

pub holds_by :
    (ring : ℕ → Option Ring) (dial : ℕ → Option Dial) (id other route over : ℕ) (held place : Option Place)
    → other ≡ id → over ≡ route → IsKept held place → HoldsPlace ring dial id route held → HoldsPlace ring dial other over place
holds_by ring dial id other route over held None e r kept h = tt
holds_by ring dial id other route over held (Some place) e r kept h =
    subst (λ (i : ℕ). HoldsPlace ring dial i over (Some place)) (sym e)
    (subst (λ (x : ℕ). HoldsPlace ring dial id x (Some place)) (sym r) (subst (λ (o : Option Place). HoldsPlace ring dial id route o) kept h))

-- ---- a leg that nothing concerns

dial_leg : (ring : ℕ → Option Ring) (dial : ℕ → Option Dial) (next id route : ℕ) (on : LineCall) (choice : Choice) (leg : Leg) (line call : ℕ)
    → (is_leg leg Called && line == on.line) ≡ false → HoldsLeg ring dial id route leg line call
    → HoldsLeg (rings (Dialled on choice) ring) (dials next (Dialled on choice) dial) id route leg line call
dial_leg ring dial next id route on choice Calling line call e h = h
dial_leg ring dial next id route on choice Called line call e h = ap (λ (b : Bool). if b then dial_by next on choice else dial line) e ∙ h

pub dial_stays : (ring : ℕ → Option Ring) (dial : ℕ → Option Dial) (next id route : ℕ) (on : LineCall) (choice : Choice) (held : Option Place)
    → holds_leg held (called_place on) ≡ false → HoldsPlace ring dial id route held
    → HoldsPlace (rings (Dialled on choice) ring) (dials next (Dialled on choice) dial) id route held
dial_stays ring dial next id route on choice None e h = tt
dial_stays ring dial next id route on choice (Some place) e h = dial_leg ring dial next id route on choice place.leg place.line place.call e h

ring_leg : (ring : ℕ → Option Ring) (dial : ℕ → Option Dial) (next id route rung_id : ℕ) (on : LineCall) (leg : Leg) (line call : ℕ)
    → (is_leg leg Calling && line == on.line) ≡ false → HoldsLeg ring dial id route leg line call
    → HoldsLeg (rings (Rung rung_id on) ring) (dials next (Rung rung_id on) dial) id route leg line call
ring_leg ring dial next id route rung_id on Calling line call e h = ap (λ (b : Bool). if b then Some (ring_with rung_id on.call) else ring line) e ∙ h
ring_leg ring dial next id route rung_id on Called line call e h = h

pub ring_stays : (ring : ℕ → Option Ring) (dial : ℕ → Option Dial) (next id route rung_id : ℕ) (on : LineCall) (held : Option Place)
    → holds_leg held (calling_place on) ≡ false → HoldsPlace ring dial id route held
    → HoldsPlace (rings (Rung rung_id on) ring) (dials next (Rung rung_id on) dial) id route held
ring_stays ring dial next id route rung_id on None e h = tt
ring_stays ring dial next id route rung_id on (Some place) e h = ring_leg ring dial next id route rung_id on place.leg place.line place.call e h

dial_not_over : (on : LineCall) (before : Option Dial) (dial : Dial) (b : Bool) → before ≡ Some dial → (b && dial.call == on.call) ≡ false
    → (if b && is_dial_of on before then None else before) ≡ Some dial
dial_not_over on before dial b is e =
    subst (λ (o : Option Dial). (if b && is_dial_of on o then None else o) ≡ Some dial) (sym is) (ap (λ (c : Bool). if c then None else Some dial) e)

ring_not_over : (on : LineCall) (before : Option Ring) (ring : Ring) (b : Bool) → before ≡ Some ring → (b && ring.call == on.call) ≡ false
    → (if b && is_ring_of on before then None else before) ≡ Some ring
ring_not_over on before ring b is e =
    subst (λ (o : Option Ring). (if b && is_ring_of on o then None else o) ≡ Some ring) (sym is) (ap (λ (c : Bool). if c then None else Some ring) e)

job_leg : (ring : ℕ → Option Ring) (dial : ℕ → Option Dial) (next id route : ℕ) (on : LineCall) (leg : Leg) (line call : ℕ)
    → ((is_leg leg Called && line == on.line) && call == on.call) ≡ false → HoldsLeg ring dial id route leg line call
    → HoldsLeg (rings (JobOver on) ring) (dials next (JobOver on) dial) id route leg line call
job_leg ring dial next id route on Calling line call e h = h
job_leg ring dial next id route on Called line call e h = dial_not_over on (dial line) (dial_with id call route) (line == on.line) h e

pub job_stays : (ring : ℕ → Option Ring) (dial : ℕ → Option Dial) (next id route : ℕ) (on : LineCall) (held : Option Place)
    → holds held (called_place on) ≡ false → HoldsPlace ring dial id route held
    → HoldsPlace (rings (JobOver on) ring) (dials next (JobOver on) dial) id route held
job_stays ring dial next id route on None e h = tt
job_stays ring dial next id route on (Some place) e h = job_leg ring dial next id route on place.leg place.line place.call e h

ended_leg : (ring : ℕ → Option Ring) (dial : ℕ → Option Dial) (next id route : ℕ) (on : LineCall) (leg : Leg) (line call : ℕ)
    → ((is_leg leg Calling && line == on.line) && call == on.call) ≡ false → HoldsLeg ring dial id route leg line call
    → HoldsLeg (rings (CallOver on) ring) (dials next (CallOver on) dial) id route leg line call
ended_leg ring dial next id route on Calling line call e h = ring_not_over on (ring line) (ring_with id call) (line == on.line) h e
ended_leg ring dial next id route on Called line call e h = h

pub ended_stays : (ring : ℕ → Option Ring) (dial : ℕ → Option Dial) (next id route : ℕ) (on : LineCall) (held : Option Place)
    → holds held (calling_place on) ≡ false → HoldsPlace ring dial id route held
    → HoldsPlace (rings (CallOver on) ring) (dials next (CallOver on) dial) id route held
ended_stays ring dial next id route on None e h = tt
ended_stays ring dial next id route on (Some place) e h = ended_leg ring dial next id route on place.leg place.line place.call e h

-- ---- what is done for a call

-- it holds its leg, its peer is that of its dial, its INVITE goes over its route, and 200 goes out as a line was rung
abbrev pub Right : ℕ → Event → (ℕ → Option Ring) → (ℕ → Option Dial) → Entry → Type 0
Right next event ring dial entry =
    Holds (rings event ring) (dials next event dial) entry.call
    × IsOfItsDial dial (fax_told event entry.call.id) entry.call.id entry.call.route entry.line
    × IsRouted (dials next event dial) entry.call.id entry.call.route entry.call.place entry.sip
    × IsAcceptedFor event entry.call.id entry.call.place entry.sip

on_called : (ring : ℕ → Option Ring) (dial : ℕ → Option Dial) (told : Option FaxEnd) (id route : ℕ) (end : FaxEnd) (leg : Leg) (line call : ℕ)
    → HoldsLeg ring dial id route leg line call → told ≡ Some end → OnCalled leg ((dial line ≡ Some (dial_with id call route)) × (told ≡ Some end))
on_called ring dial told id route end Calling line call h t = tt
on_called ring dial told id route end Called line call h t = (h, t)

word_right : (ring : ℕ → Option Ring) (dial : ℕ → Option Dial) (told : Option FaxEnd) (id route : ℕ) (held : Option Place) (word : LineAction)
    → WordIs held told word → HoldsPlace ring dial id route held → IsOfItsDial dial told id route word
word_right ring dial told id route held (Peer place end moved) is h =
    on_called ring dial told id route end place.leg place.line place.call (subst (λ (o : Option Place). HoldsPlace ring dial id route o) is.0 h) is.1
word_right ring dial told id route held NoWord is h = tt
word_right ring dial told id route held RingAny is h = tt
word_right ring dial told id route held (AudioOn place address) is h = tt
word_right ring dial told id route held (AudioOff place) is h = tt
word_right ring dial told id route held (RefuseCall place status) is h = tt
word_right ring dial told id route held (HangUpLeg place) is h = tt

leg_right : (ring : ℕ → Option Ring) (dial : ℕ → Option Dial) (id route : ℕ) (leg : Leg) (line call : ℕ) → HoldsLeg ring dial id route leg line call
    → OnCalled leg (dial line ≡ Some (dial_with id call route))
leg_right ring dial id route Calling line call h = tt
leg_right ring dial id route Called line call h = h

over_right : (ring : ℕ → Option Ring) (dial : ℕ → Option Dial) (id route over : ℕ) (held : Option Place) → over ≡ route → HoldsPlace ring dial id route held
    → IsOverItsRoute dial id route over held
over_right ring dial id route over None same h = tt
over_right ring dial id route over (Some place) same h = (same, leg_right ring dial id route place.leg place.line place.call h)

pub route_right : (ring : ℕ → Option Ring) (dial : ℕ → Option Dial) (again : Bool) (id route : ℕ) (held : Option Place) (sip : SipAction)
    → SipIs again route sip → HoldsPlace ring dial id route held → IsRouted dial id route held sip
route_right ring dial again id route held (SendOffer over offer) is h = over_right ring dial id route over held is h
route_right ring dial again id route held other is h = tt

accept_right : (event : Event) (id other : ℕ) (route : ℕ) (held : Option Place) (sip : SipAction) → other ≡ id → SipIs (is_reinvite event id) route sip → IsAcceptedFor event other held sip
accept_right event id other route held (Accept offer) same is = inl (ap (λ (i : ℕ). is_reinvite event i) same ∙ is)
accept_right event id other route held rest same is = tt

-- a call that keeps its leg or lets go of it is right where the leg is still its own
pub right_by : (next : ℕ) (event : Event) (ring : ℕ → Option Ring) (dial : ℕ → Option Dial) (call : Call) (entry : Entry)
    → Keeps call (fax_told event call.id) (is_reinvite event call.id) entry → Holds ring dial call → Holds (rings event ring) (dials next event dial) call
    → Right next event ring dial entry
right_by next event ring dial call entry keeps before after =
    let holds_still : Holds (rings event ring) (dials next event dial) entry.call =
    holds_by (rings event ring) (dials next event dial) call.id entry.call.id call.route entry.call.route call.place entry.call.place keeps.0 keeps.1 keeps.2 after in
    let word : IsOfItsDial dial (fax_told event call.id) call.id call.route entry.line =
    word_right ring dial (fax_told event call.id) call.id call.route call.place entry.line keeps.3 before in (
      holds_still,
      subst (λ (i : ℕ). IsOfItsDial dial (fax_told event i) i entry.call.route entry.line) (sym keeps.0)
          (subst (λ (x : ℕ). IsOfItsDial dial (fax_told event call.id) call.id x entry.line) (sym keeps.1) word),
      route_right (rings event ring) (dials next event dial) (is_reinvite event call.id) entry.call.id entry.call.route entry.call.place entry.sip keeps.4 holds_still,
      accept_right event call.id entry.call.id entry.call.route entry.call.place entry.sip keeps.0 keeps.4,
    )

-- time passes for it, or it is let go of, while its leg is still its own
passed_right : (next : ℕ) (event : Event) (ring : ℕ → Option Ring) (dial : ℕ → Option Dial) (call : Call) (now : ℕ)
    → Holds ring dial call → Holds (rings event ring) (dials next event dial) call → Right next event ring dial (passed call now call.stage)
passed_right next event ring dial call now before after =
    right_by next event ring dial call (passed call now call.stage) (passed_keeps call (fax_told event call.id) (is_reinvite event call.id) now call.stage) before after

released_right : (next : ℕ) (event : Event) (ring : ℕ → Option Ring) (dial : ℕ → Option Dial) (call : Call) (now : ℕ) → Right next event ring dial (released call now call.stage)
released_right next event ring dial call now =
    right_by next event ring dial (freed call) (released call now call.stage)
    (released_keeps call (fax_told event call.id) (is_reinvite event call.id) now call.stage) tt tt

let_go_right : (next : ℕ) (event : Event) (ring : ℕ → Option Ring) (dial : ℕ → Option Dial) (call : Call) (now : ℕ) (b : Bool)
    → Holds ring dial call → (b ≡ false → Holds (rings event ring) (dials next event dial) call)
    → Right next event ring dial (if b then released call now call.stage else passed call now call.stage)
let_go_right next event ring dial call now b before after =
    chosen (Right next event ring dial) b (released call now call.stage) (passed call now call.stage)
    (λ _. released_right next event ring dial call now) (λ e. passed_right next event ring dial call now before (after e))

-- ---- a line is rung for it

taken_holds : (ring : ℕ → Option Ring) (dial : ℕ → Option Dial) (next id : ℕ) (call : Call) (on : LineCall) → id ≡ call.id
    → HoldsPlace (rings (Rung id on) ring) (dials next (Rung id on) dial) call.id call.route (Some (calling_place on))
taken_holds ring dial next id call on same =
    ap (λ (b : Bool). if b then Some (ring_with id on.call) else ring on.line) (eq-eqb on.line on.line refl) ∙ ap (λ (i : ℕ). Some (ring_with i on.call)) same

taken_right : (next id : ℕ) (ring : ℕ → Option Ring) (dial : ℕ → Option Dial) (call : Call) (now : ℕ) (on : LineCall) (said : Description) → id ≡ call.id
    → Right next (Rung id on) ring dial (taken call now (calling_place on) said)
taken_right next id ring dial call now on (FaxAt end) same = (taken_holds ring dial next id call on same, tt, tt, inr (same, refl))
taken_right next id ring dial call now on (AudioAt address) same = (taken_holds ring dial next id call on same, tt, tt, inr (same, refl))
taken_right next id ring dial call now on NothingSaid same = (taken_holds ring dial next id call on same, tt, tt, inr (same, refl))
taken_right next id ring dial call now on Unusable same = (tt, tt, tt, tt)

-- what `rung` comes to where no line was asked for
rung_other : (next id : ℕ) (ring : ℕ → Option Ring) (dial : ℕ → Option Dial) (call : Call) (now : ℕ) (on : LineCall) (stage : Stage) → call.stage ≡ stage
    → Holds ring dial call
    → Right next (Rung id on) ring dial (if holds_leg call.place (calling_place on) then released call now stage else passed call now stage)
rung_other next id ring dial call now on stage is before =
    subst (λ (s : Stage). Right next (Rung id on) ring dial (if holds_leg call.place (calling_place on) then released call now s else passed call now s)) is
    (let_go_right next (Rung id on) ring dial call now (holds_leg call.place (calling_place on)) before
    (λ e. ring_stays ring dial next call.id call.route id on call.place e before))

rung_right : (next id : ℕ) (ring : ℕ → Option Ring) (dial : ℕ → Option Dial) (call : Call) (now : ℕ) (on : LineCall) (stage : Stage) → call.stage ≡ stage → id ≡ call.id
    → Holds ring dial call → Right next (Rung id on) ring dial (rung call now (calling_place on) stage)
rung_right next id ring dial call now on (Asking said until) is same before = taken_right next id ring dial call now on said same
rung_right next id ring dial call now on (Dropped until) is same before = (tt, tt, tt, tt)
rung_right next id ring dial call now on (Placing offer again) is same before = rung_other next id ring dial call now on (Placing offer again) is before
rung_right next id ring dial call now on (Cancelling until) is same before = rung_other next id ring dial call now on (Cancelling until) is before
rung_right next id ring dial call now on (Talking state media) is same before = rung_other next id ring dial call now on (Talking state media) is before
rung_right next id ring dial call now on Over is same before = rung_other next id ring dial call now on Over is before

-- ---- each event

abbrev within_kept_at : Bool → Call → ℕ → CallEvent → Type 0
within_kept_at b call now event =
    Keeps call (if b then fax_in event else None) (if b then reinvites event else false) (if b then within call now call.stage event else passed call now call.stage)

within_kept : (b : Bool) (call : Call) (now : ℕ) (event : CallEvent) → within_kept_at b call now event
within_kept true call now event = within_keeps call now call.stage event
within_kept false call now event = passed_keeps call None false now call.stage

within_right : (next id : ℕ) (event : CallEvent) (ring : ℕ → Option Ring) (dial : ℕ → Option Dial) (call : Call) (now : ℕ) → Holds ring dial call
    → Right next (Within id event) ring dial (if id == call.id then within call now call.stage event else passed call now call.stage)
within_right next id event ring dial call now before =
    right_by next (Within id event) ring dial call (if id == call.id then within call now call.stage event else passed call now call.stage)
    (within_kept (id == call.id) call now event) before before

pub call_right : (next : ℕ) (event : Event) (ring : ℕ → Option Ring) (dial : ℕ → Option Dial) (call : Call) (now : ℕ) → Holds ring dial call
    → Right next event ring dial (call_row call now event)
call_right next Elapsed ring dial call now before = passed_right next Elapsed ring dial call now before before
call_right next (Came route said) ring dial call now before = passed_right next (Came route said) ring dial call now before before
call_right next (Rung id on) ring dial call now before =
    chosen (Right next (Rung id on) ring dial) (id == call.id) (rung call now (calling_place on) call.stage) _
    (λ e. rung_right next id ring dial call now on call.stage refl (eqb-true id call.id e) before)
    (λ _. rung_other next id ring dial call now on call.stage refl before)
call_right next (NotRung id status) ring dial call now before =
    chosen (Right next (NotRung id status) ring dial) (id == call.id) (not_rung call now status call.stage) (passed call now call.stage)
    (λ _. right_by next (NotRung id status) ring dial call (not_rung call now status call.stage) (not_rung_keeps call None false now status call.stage) before before)
    (λ _. passed_right next (NotRung id status) ring dial call now before before)
call_right next (Dialled on choice) ring dial call now before =
    let_go_right next (Dialled on choice) ring dial call now (holds_leg call.place (called_place on)) before
    (λ e. dial_stays ring dial next call.id call.route on choice call.place e before)
call_right next (CallOver on) ring dial call now before =
    let_go_right next (CallOver on) ring dial call now (holds call.place (calling_place on)) before
    (λ e. ended_stays ring dial next call.id call.route on call.place e before)
call_right next (JobOver on) ring dial call now before =
    let_go_right next (JobOver on) ring dial call now (holds call.place (called_place on)) before
    (λ e. job_stays ring dial next call.id call.route on call.place e before)
call_right next (Within id event) ring dial call now before = within_right next id event ring dial call now before

-- ---- a call that begins

abbrev pub IfNew : (Entry → Type 0) → Option Entry → Type 0
IfNew P None = Unit {0}
IfNew P (Some entry) = P entry

came_right : (room : Bool) (id route now : ℕ) (said : Description) (ring : ℕ → Option Ring) (dial : ℕ → Option Dial)
    → Right id (Came route said) ring dial (came room id route now said)
came_right true id route now (FaxAt end) ring dial = (tt, tt, tt, tt)
came_right true id route now (AudioAt address) ring dial = (tt, tt, tt, tt)
came_right true id route now NothingSaid ring dial = (tt, tt, tt, tt)
came_right false id route now (FaxAt end) ring dial = (tt, tt, tt, tt)
came_right false id route now (AudioAt address) ring dial = (tt, tt, tt, tt)
came_right false id route now NothingSaid ring dial = (tt, tt, tt, tt)
came_right true id route now Unusable ring dial = (tt, tt, tt, tt)
came_right false id route now Unusable ring dial = (tt, tt, tt, tt)

dialled_right : (room : Bool) (id : ℕ) (on : LineCall) (choice : Choice) (ring : ℕ → Option Ring) (dial : ℕ → Option Dial)
    → Right id (Dialled on choice) ring dial (dialled room id on choice)
dialled_right true id on (Routed route offer) ring dial =
    let held : dials id (Dialled on (Routed route offer)) dial on.line ≡ Some (dial_with id on.call route) =
    ap (λ (b : Bool). if b then Some (dial_with id on.call route) else dial on.line) (eq-eqb on.line on.line refl) in
    (held, tt, (refl, held), tt)
dialled_right false id on (Routed route offer) ring dial = (tt, tt, tt, tt)
dialled_right true id on Unrouted ring dial = (tt, tt, tt, tt)
dialled_right false id on Unrouted ring dial = (tt, tt, tt, tt)
dialled_right true id on TrunkFull ring dial = (tt, tt, tt, tt)
dialled_right false id on TrunkFull ring dial = (tt, tt, tt, tt)

pub begun_right : (room : Bool) (id now : ℕ) (event : Event) (ring : ℕ → Option Ring) (dial : ℕ → Option Dial) → IfNew (Right id event ring dial) (begun_by room id now event)
begun_right room id now (Came route said) ring dial = came_right room id route now said ring dial
begun_right room id now (Dialled on choice) ring dial = dialled_right room id on choice ring dial
begun_right room id now Elapsed ring dial = tt
begun_right room id now (Rung call on) ring dial = tt
begun_right room id now (NotRung call status) ring dial = tt
begun_right room id now (CallOver on) ring dial = tt
begun_right room id now (JobOver on) ring dial = tt
begun_right room id now (Within call happened) ring dial = tt
