-- SIP serves the right call.
use Rattle.std.proofs.Common.{◌≡◌, ℕ, ◌+◌, ◌<◌, ◌==◌, ◌&&◌, Bool, true, false, nat_lt, if◌then◌else◌, List, [], ◌∷◌, filter, Option, None, Some, refl, ap, sym, subst, ◌∙◌, arith, eq-eqb, true≢false}
use Rattle.std.proofs.lemmas.Bool.{eqb-true}
use Rattle.fax_transactions.proofs.RunProofs.{chosen}
use Rattle.fax_switch.specs.declared.call.Call.{Call}
use Rattle.fax_switch.specs.declared.call.Entry.{Entry}
use Rattle.fax_switch.specs.declared.call.Stage.{Stage}
use Rattle.fax_switch.specs.declared.call.Stage.TheVariants.{Asking, Dropped, Placing, Cancelling, Talking, Over}
use Rattle.fax_switch.specs.declared.event.Choice.{Choice}
use Rattle.fax_switch.specs.declared.event.Choice.TheVariants.{Routed, Unrouted, TrunkFull}
use Rattle.fax_switch.specs.declared.event.Event.{Event}
use Rattle.fax_switch.specs.declared.event.Event.TheVariants.{Elapsed, Came, Rung, NotRung, Dialled, CallOver, JobOver, Within}
use Rattle.fax_switch.specs.declared.media.Description.{Description}
use Rattle.fax_switch.specs.declared.media.Description.TheVariants.{FaxAt, AudioAt, NothingSaid, Unusable}
use Rattle.fax_switch.specs.declared.place.Leg.{Leg}
use Rattle.fax_switch.specs.declared.place.Leg.TheVariants.{Calling, Called}
use Rattle.fax_switch.specs.declared.place.LineCall.{LineCall}
use Rattle.fax_switch.specs.declared.place.Place.{Place}
use Rattle.fax_switch.specs.Calls.{begun_by, call_row, came, dialled, not_rung, passed, released, rung, taken, within}
use Rattle.fax_switch.specs.Entries.{Each, EachTwo}
use Rattle.fax_switch.specs.Histories.{Dial, Ring, dial_of, dial_with, ring_of, ring_with, table_after}
use Rattle.fax_switch.specs.Places.{called_place, calling_place, holds, holds_leg, is_leg}
use Rattle.fax_switch.specs.SwitchLaws.{AnsweredCallsAreRung, AreOnOtherLegs, LegsHaveOneCall, OffersAreRouted, PeersAreOfTheirDials}
use Rattle.fax_switch.specs.Tables.{Table, has_room, is_on, new_entry, row, stepped, swept, with_new}
use Rattle.fax_switch.proofs.EntryLemmas.{Differ, differ_filter, differ_map, differ_push, each_both, each_filter, each_map, each_push, each_weaker}
use Rattle.fax_switch.proofs.Holding.{Holds, HoldsLeg, HoldsPlace, IfNew, Right, begun_right, call_right}
use Rattle.fax_switch.proofs.Preserving.{not_rung_keeps, passed_keeps, released_keeps, within_keeps}

-- ---- a step of all calls

-- calls that are not over
abbrev pub filter_on : List Entry → List Entry
filter_on entries = filter is_on entries

pub pushed : (Q : Entry → Type 0) (new : Option Entry) (table : Table) → IfNew Q new → Each Q table.entries → Each Q (with_new new table).entries
pushed Q None table is each = each
pushed Q (Some entry) table is each = each_push Q table.entries entry each is

pub step_each :
    (P Q : Entry → Type 0) (table : Table) (now : ℕ) (event : Event) → ((entry : Entry) → P entry → Q (call_row entry.call now event))
    → IfNew Q (new_entry (swept table) now event) → Each P table.entries → Each Q (row table now event).entries
step_each P Q table now event step new each =
    pushed Q (new_entry (swept table) now event) (record { next = table.next; most = table.most; entries = stepped now event (filter_on table.entries) }) new
    (each_map P Q (λ (entry : Entry). call_row entry.call now event) step (filter_on table.entries) (each_filter P is_on table.entries each))

new_right : (table : Table) (now : ℕ) (event : Event) (ring : ℕ → Option Ring) (dial : ℕ → Option Dial) → IfNew (Right table.next event ring dial) (new_entry table now event)
new_right table now event ring dial =
    chosen (IfNew (Right table.next event ring dial)) (nat_lt table.next 18446744073709551615) (begun_by (has_room table) table.next now event) None
    (λ _. begun_right (has_room table) table.next now event ring dial) (λ _. tt)

-- each call holds its leg
abbrev pub TableHolds : ℕ → List (ℕ × Event) → Type 0
TableHolds most past = Each (λ entry. Holds (ring_of past) (dial_of most past) entry.call) (table_after most past).entries

abbrev RightAfter : ℕ → List (ℕ × Event) → Event → Entry → Type 0
RightAfter most past event entry = Right (table_after most past).next event (ring_of past) (dial_of most past) entry

right_after : (most now : ℕ) (event : Event) (past : List (ℕ × Event)) → TableHolds most past → Each (RightAfter most past event) (row (table_after most past) now event).entries
right_after most now event past holding =
    step_each (λ entry. Holds (ring_of past) (dial_of most past) entry.call) (RightAfter most past event) (table_after most past) now event
    (λ entry h. call_right (table_after most past).next event (ring_of past) (dial_of most past) entry.call now h)
    (new_right (swept (table_after most past)) now event (ring_of past) (dial_of most past)) holding

pub table_holds : (most : ℕ) (past : List (ℕ × Event)) → TableHolds most past
table_holds most [] = tt
table_holds most (happening ∷ past) =
    each_weaker (RightAfter most past happening.1) (λ entry. Holds (ring_of (happening ∷ past)) (dial_of most (happening ∷ past)) entry.call) (λ entry right. right.0)
    (row (table_after most past) happening.0 happening.1).entries (right_after most happening.0 happening.1 past (table_holds most past))

pub peers_are_of_their_dials : PeersAreOfTheirDials
peers_are_of_their_dials most now event past =
    each_weaker (RightAfter most past event) _ (λ entry right. right.1) (row (table_after most past) now event).entries (right_after most now event past (table_holds most past))

pub offers_are_routed : OffersAreRouted
offers_are_routed most [] = tt
offers_are_routed most (happening ∷ past) =
    each_weaker (RightAfter most past happening.1) _ (λ entry right. right.2) (row (table_after most past) happening.0 happening.1).entries
    (right_after most happening.0 happening.1 past (table_holds most past))

pub answered_calls_are_rung : AnsweredCallsAreRung
answered_calls_are_rung most now event past =
    each_weaker (RightAfter most past event) _ (λ entry right. right.3) (row (table_after most past) now event).entries (right_after most now event past (table_holds most past))

-- ---- numbers of calls

abbrev SameId : Call → Entry → Type 0
SameId call entry = entry.call.id ≡ call.id

let_go_id : (call : Call) (now : ℕ) (stage : Stage) (b : Bool) → SameId call (if b then released call now stage else passed call now stage)
let_go_id call now stage b =
    chosen (SameId call) b (released call now stage) (passed call now stage) (λ _. (released_keeps call None false now stage).0) (λ _. (passed_keeps call None false now stage).0)

taken_id : (call : Call) (now : ℕ) (place : Place) (said : Description) → SameId call (taken call now place said)
taken_id call now place (FaxAt end) = refl
taken_id call now place (AudioAt address) = refl
taken_id call now place NothingSaid = refl
taken_id call now place Unusable = refl

rung_id : (call : Call) (now : ℕ) (place : Place) (stage : Stage) → SameId call (rung call now place stage)
rung_id call now place (Asking said until) = taken_id call now place said
rung_id call now place (Dropped until) = refl
rung_id call now place (Placing offer second) = let_go_id call now (Placing offer second) (holds_leg call.place place)
rung_id call now place (Cancelling until) = let_go_id call now (Cancelling until) (holds_leg call.place place)
rung_id call now place (Talking state media) = let_go_id call now (Talking state media) (holds_leg call.place place)
rung_id call now place Over = let_go_id call now Over (holds_leg call.place place)

pub call_id : (call : Call) (now : ℕ) (event : Event) → (call_row call now event).call.id ≡ call.id
call_id call now Elapsed = (passed_keeps call None false now call.stage).0
call_id call now (Came route said) = (passed_keeps call None false now call.stage).0
call_id call now (Rung id on) =
    chosen (SameId call) (id == call.id) (rung call now (calling_place on) call.stage) _ (λ _. rung_id call now (calling_place on) call.stage)
    (λ _. let_go_id call now call.stage (holds_leg call.place (calling_place on)))
call_id call now (NotRung id status) =
    chosen (SameId call) (id == call.id) (not_rung call now status call.stage) (passed call now call.stage) (λ _. (not_rung_keeps call None false now status call.stage).0)
    (λ _. (passed_keeps call None false now call.stage).0)
call_id call now (Dialled on choice) = let_go_id call now call.stage (holds_leg call.place (called_place on))
call_id call now (CallOver on) = let_go_id call now call.stage (holds call.place (calling_place on))
call_id call now (JobOver on) = let_go_id call now call.stage (holds call.place (called_place on))
call_id call now (Within id event) =
    chosen (SameId call) (id == call.id) (within call now call.stage event) (passed call now call.stage) (λ _. (within_keeps call now call.stage event).0)
    (λ _. (passed_keeps call None false now call.stage).0)

abbrev pub IsNumbered : ℕ → Entry → Type 0
IsNumbered id entry = entry.call.id ≡ id

came_id : (room : Bool) (id route now : ℕ) (said : Description) → IsNumbered id (came room id route now said)
came_id true id route now (FaxAt end) = refl
came_id false id route now (FaxAt end) = refl
came_id true id route now (AudioAt address) = refl
came_id false id route now (AudioAt address) = refl
came_id true id route now NothingSaid = refl
came_id false id route now NothingSaid = refl
came_id true id route now Unusable = refl
came_id false id route now Unusable = refl

dialled_id : (room : Bool) (id : ℕ) (on : LineCall) (choice : Choice) → IsNumbered id (dialled room id on choice)
dialled_id true id on (Routed route offer) = refl
dialled_id false id on (Routed route offer) = refl
dialled_id room id on Unrouted = refl
dialled_id room id on TrunkFull = refl

begun_id : (room : Bool) (id now : ℕ) (event : Event) → IfNew (IsNumbered id) (begun_by room id now event)
begun_id room id now (Came route said) = came_id room id route now said
begun_id room id now (Dialled on choice) = dialled_id room id on choice
begun_id room id now Elapsed = tt
begun_id room id now (Rung call on) = tt
begun_id room id now (NotRung call status) = tt
begun_id room id now (CallOver on) = tt
begun_id room id now (JobOver on) = tt
begun_id room id now (Within call happened) = tt

pub new_id : (table : Table) (now : ℕ) (event : Event) → IfNew (IsNumbered table.next) (new_entry table now event)
new_id table now event =
    chosen (IfNew (IsNumbered table.next)) (nat_lt table.next 18446744073709551615) (begun_by (has_room table) table.next now event) None
    (λ _. begun_id (has_room table) table.next now event) (λ _. tt)

-- ---- they differ

abbrev Below : ℕ → Entry → Type 0
Below next entry = entry.call.id < next

below_more : (next : ℕ) (entry : Entry) → Below next entry → Below (next + 1) entry
below_more next entry below = omega arith

is_below_more : (id next : ℕ) → id ≡ next → id < next + 1
is_below_more id next is = omega arith

pushed_below : (new : Option Entry) (table : Table) → IfNew (IsNumbered table.next) new → Each (Below table.next) table.entries
    → Each (Below (with_new new table).next) (with_new new table).entries
pushed_below None table is each = each
pushed_below (Some entry) table is each =
    each_push (Below (table.next + 1)) table.entries entry (each_weaker (Below table.next) (Below (table.next + 1)) (below_more table.next) table.entries each)
    (is_below_more entry.call.id table.next is)

pushed_differ : (new : Option Entry) (table : Table) → IfNew (IsNumbered table.next) new → Each (Below table.next) table.entries → EachTwo Differ table.entries
    → EachTwo Differ (with_new new table).entries
pushed_differ None table is each two = two
pushed_differ (Some entry) table is each two = differ_push table.entries entry table.next is each two

abbrev pub AfterStep : Table → ℕ → Event → Table
AfterStep table now event = record { next = table.next; most = table.most; entries = stepped now event (filter_on table.entries) }

stepped_below : (table : Table) (now : ℕ) (event : Event) → Each (Below table.next) table.entries → Each (Below table.next) (stepped now event (filter_on table.entries))
stepped_below table now event each =
    each_map (Below table.next) (Below table.next) (λ (entry : Entry). call_row entry.call now event)
    (λ entry below. subst (λ (i : ℕ). i < table.next) (sym (call_id entry.call now event)) below) (filter_on table.entries) (each_filter (Below table.next) is_on table.entries each)

pub ids_below : (most : ℕ) (past : List (ℕ × Event)) → Each (Below (table_after most past).next) (table_after most past).entries
ids_below most [] = tt
ids_below most (happening ∷ past) =
    let table : Table = table_after most past in
    pushed_below (new_entry (swept table) happening.0 happening.1) (AfterStep table happening.0 happening.1) (new_id (swept table) happening.0 happening.1)
    (stepped_below table happening.0 happening.1 (ids_below most past))

pub ids_differ : (most : ℕ) (past : List (ℕ × Event)) → EachTwo Differ (table_after most past).entries
ids_differ most [] = tt
ids_differ most (happening ∷ past) =
    let table : Table = table_after most past in
    pushed_differ (new_entry (swept table) happening.0 happening.1) (AfterStep table happening.0 happening.1) (new_id (swept table) happening.0 happening.1)
    (stepped_below table happening.0 happening.1 (ids_below most past))
    (differ_map (λ (entry : Entry). call_row entry.call happening.0 happening.1) (λ entry. call_id entry.call happening.0 happening.1) (filter_on table.entries)
    (differ_filter is_on table.entries (ids_differ most past)))

-- ---- one call a leg

abbrev id_of_dial : Option Dial → ℕ
id_of_dial None = 0
id_of_dial (Some dial) = dial.id

abbrev id_of_ring : Option Ring → ℕ
id_of_ring None = 0
id_of_ring (Some ring) = ring.id

dial_id : (a b c d e f : ℕ) → Some (dial_with a b c) ≡ Some (dial_with d e f) → a ≡ d
dial_id a b c d e f is = ap id_of_dial is

ring_id : (a b c d : ℕ) → Some (ring_with a b) ≡ Some (ring_with c d) → a ≡ c
ring_id a b c d is = ap id_of_ring is

refuted : (b : Bool) → (b ≡ true → ⊥) → b ≡ false
refuted true none = absurd (none refl)
refuted false none = refl

legs_differ : (ring : ℕ → Option Ring) (dial : ℕ → Option Dial) (id route other over : ℕ) (leg another : Leg) (line row_line call second : ℕ)
    → (id == other) ≡ false → HoldsLeg ring dial id route leg line call → HoldsLeg ring dial other over another row_line second
    → (is_leg leg another && line == row_line) ≡ false
legs_differ ring dial id route other over Calling Calling line row_line call second differ h k =
    refuted (line == row_line) (λ e. true≢false (sym (eq-eqb id other
    (ring_id id call other second (sym h ∙ (ap ring (eqb-true line row_line e) ∙ k)))) ∙ differ))
legs_differ ring dial id route other over Called Called line row_line call second differ h k =
    refuted (line == row_line) (λ e. true≢false (sym (eq-eqb id other
    (dial_id id call route other second over (sym h ∙ (ap dial (eqb-true line row_line e) ∙ k)))) ∙ differ))
legs_differ ring dial id route other over Calling Called line row_line call second differ h k = refl
legs_differ ring dial id route other over Called Calling line row_line call second differ h k = refl

places_differ : (ring : ℕ → Option Ring) (dial : ℕ → Option Dial) (id route other over : ℕ) (held place : Option Place)
    → (id == other) ≡ false → HoldsPlace ring dial id route held → HoldsPlace ring dial other over place → AreOnOtherLegs held place
places_differ ring dial id route other over held None differ h k = tt
places_differ ring dial id route other over None (Some place) differ h k = refl
places_differ ring dial id route other over (Some one) (Some place) differ h k =
    legs_differ ring dial id route other over one.leg place.leg one.line place.line one.call place.call differ h k

abbrev AreApart : Entry → Entry → Type 0
AreApart entry other = ((entry.call.id == other.call.id) ≡ false) × AreOnOtherLegs entry.call.place other.call.place

all_apart : (ring : ℕ → Option Ring) (dial : ℕ → Option Dial) (entries : List Entry) → EachTwo Differ entries → Each (λ entry. Holds ring dial entry.call) entries → EachTwo AreApart entries
all_apart ring dial [] two each = tt
all_apart ring dial (entry ∷ entries) two each = (
  each_both (Differ entry) (λ other. Holds ring dial other.call) (AreApart entry)
      (λ other differ h. (
        differ,
        places_differ ring dial entry.call.id entry.call.route other.call.id other.call.route entry.call.place other.call.place differ each.0 h,
      ))
      entries two.0 each.1,
  all_apart ring dial entries two.1 each.1,
)

pub legs_have_one_call : LegsHaveOneCall
legs_have_one_call most past = all_apart (ring_of past) (dial_of most past) (table_after most past).entries (ids_differ most past) (table_holds most past)
