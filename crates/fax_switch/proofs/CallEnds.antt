-- Each dialog ends.
use Rattle.std.proofs.Common.{◌≡◌, ℕ, ◌+◌, ◌<◌, ◌≤◌, ◌==◌, Bool, true, false, nat_eq, nat_le, nat_lt, if◌then◌else◌, List, [], ◌∷◌, ◌++◌, Option, None, Some, refl, ap, sym, subst, ◌∙◌, arith, eq-eqb, true≢false}
use Rattle.std.proofs.lemmas.Bool.{eqb-true}
use Rattle.fax_dialogs.specs.declared.session.Session.{Session}
use Rattle.fax_dialogs.specs.declared.session.Session.TheVariants.{Confirmed, Accepted, Inviting, Invited, Ending, Ended}
use Rattle.fax_dialogs.specs.declared.session_action.SessionAction.{SessionAction}
use Rattle.fax_dialogs.specs.declared.session_action.SessionAction.TheVariants.{Nothing, TellAndSendBye}
use Rattle.fax_dialogs.specs.declared.session_event.SessionEvent.{SessionEvent}
use Rattle.fax_dialogs.specs.declared.session_event.SessionEvent.TheVariants.{HangUp}
use Rattle.fax_dialogs.specs.Sessions.{ending, row as session_row}
use Rattle.fax_dialogs.proofs.SessionEndProofs.{Before, Leaving, ended_stays, row_before, row_leaving, told_leaving}
use Rattle.fax_transactions.proofs.RunProofs.{chosen, le_false}
use Rattle.fax_switch.specs.declared.action.LineAction.TheVariants.{NoWord}
use Rattle.fax_switch.specs.declared.action.SipAction.TheVariants.{Silence}
use Rattle.fax_switch.specs.declared.call.Call.{Call}
use Rattle.fax_switch.specs.declared.call.Entry.{Entry}
use Rattle.fax_switch.specs.declared.call.Stage.{Stage}
use Rattle.fax_switch.specs.declared.call.Stage.TheVariants.{Asking, Dropped, Placing, Cancelling, Talking, Over}
use Rattle.fax_switch.specs.declared.event.Event.{Event}
use Rattle.fax_switch.specs.declared.event.Event.TheVariants.{Elapsed, Came, Rung, NotRung, Dialled, CallOver, JobOver, Within}
use Rattle.fax_switch.specs.declared.event.Choice.{Choice}
use Rattle.fax_switch.specs.declared.event.Choice.TheVariants.{Routed, Unrouted, TrunkFull}
use Rattle.fax_switch.specs.declared.media.Description.{Description}
use Rattle.fax_switch.specs.declared.media.Description.TheVariants.{FaxAt, AudioAt, NothingSaid, Unusable}
use Rattle.fax_switch.specs.declared.place.LineCall.{LineCall}
use Rattle.fax_switch.specs.Calls.{begun_by, call_row, came, dialled, entry_of, freed, is_confirmed, passed, released}
use Rattle.fax_switch.specs.Entries.{Each, EachTwo}
use Rattle.fax_switch.specs.Histories.{AllUpTo, table_after}
use Rattle.fax_switch.specs.Places.{called_place, calling_place, holds}
use Rattle.fax_switch.specs.SwitchLaws.{CallsEnd, NoneIsOn, lets_go}
use Rattle.fax_switch.specs.Tables.{Table, has_room, is_on, is_on_at, new_entry, row, swept, with_new}
use Rattle.fax_switch.proofs.EntryLemmas.{Differ, each_both, each_weaker}
use Rattle.fax_switch.proofs.Holding.{IfNew}
use Rattle.fax_switch.proofs.Stages.{EntryIs, Lives, StageIs, Steps, alive, plain_by, row_by}
use Rattle.fax_switch.proofs.SwitchProofs.{AfterStep, IsNumbered, call_id, ids_below, ids_differ, new_id, step_each}

-- ---- before it is let go of: what is due is due soon

abbrev Soon : ℕ → ℕ → Type 0
Soon told until = until ≤ told + 32000

early_steps : (told now : ℕ) → now ≤ told → Steps now (Unit {0}) (Soon told) (Before told) (Unit {0}) (Soon told) (Before told)
early_steps told now early = record {
  kept = λ a. a;
  cancels = λ a. omega arith;
  accepts = λ a next. omega arith;
  confirms = λ a reinvite. tt;
  refuses = λ a. omega arith;
  waits = λ until c soon. c;
  answers = λ until c soon. omega arith;
  moves = λ state event before. row_before told state now event early before;
  again = λ state event before. row_before told state now event early before;
  hung_up = λ state before is. omega arith;
  drops = λ reinvite has. has;
}

abbrev IsEarly : ℕ → Entry → Type 0
IsEarly told entry = EntryIs (Unit {0}) (Soon told) (Before told) entry

-- ---- after it: it ends by a bound

abbrev Bounded : ℕ → ℕ → Type 0
Bounded bound until = until + 32000 ≤ bound

not_confirmed : (bound : ℕ) (state : Session) → Leaving bound state → is_confirmed state ≡ true → ⊥
not_confirmed bound (Confirmed reinvite) leaving is = leaving
not_confirmed bound (Accepted again pause until next) leaving is = true≢false (sym is)
not_confirmed bound Inviting leaving is = leaving
not_confirmed bound (Invited reinvite) leaving is = leaving
not_confirmed bound (Ending until) leaving is = true≢false (sym is)
not_confirmed bound Ended leaving is = true≢false (sym is)

answered_late : (bound until now : ℕ) → until + 32000 ≤ bound → now < until → Leaving bound (ending now)
answered_late bound until now within early = omega arith

leaving_steps : (bound now : ℕ) → Steps now ⊥ (Bounded bound) (Leaving bound) ⊥ (Bounded bound) (Leaving bound)
leaving_steps bound now = record {
  kept = λ a. a;
  cancels = λ a. absurd a;
  accepts = λ a next. absurd a;
  confirms = λ a reinvite. absurd a;
  refuses = λ a. absurd a;
  waits = λ until c early. c;
  answers = λ until c early. answered_late bound until now c early;
  moves = λ state event leaving. row_leaving bound state now event leaving;
  again = λ state event leaving. row_leaving bound state now event leaving;
  hung_up = λ state leaving is. absurd (not_confirmed bound state leaving is);
  drops = λ reinvite has. has;
}

abbrev Leaves : ℕ → Entry → Type 0
Leaves bound entry = EntryIs ⊥ (Bounded bound) (Leaving bound) entry

released_leaves : (told : ℕ) (call : Call) (stage : Stage) → StageIs (Unit {0}) (Soon told) (Before told) stage → Leaves (told + 64000) (released call told stage)
released_leaves told call (Asking said until) early = tt
released_leaves told call (Dropped until) early = tt
released_leaves told call (Placing offer second) early = omega arith
released_leaves told call (Cancelling until) soon =
    chosen (Leaves (told + 64000)) (nat_le until told) (entry_of (freed call) None Over Silence NoWord) (entry_of (freed call) None (Cancelling until) Silence NoWord) (λ _. tt) (λ _. omega arith)
released_leaves told call (Talking state media) early =
    plain_by ⊥ (Bounded (told + 64000)) (Leaving (told + 64000)) (freed call) media (session_row state told HangUp).0 (session_row state told HangUp).1
    (told_leaving told state (alive (Before told) state early))
released_leaves told call Over early = tt

let_go_leaves : (told : ℕ) (call : Call) (b : Bool) → StageIs (Unit {0}) (Soon told) (Before told) call.stage → b ≡ true
    → Leaves (told + 64000) (if b then released call told call.stage else passed call told call.stage)
let_go_leaves told call b early is =
    subst (λ (c : Bool). Leaves (told + 64000) (if c then released call told call.stage else passed call told call.stage)) (sym is) (released_leaves told call call.stage early)

over_leaves : (told : ℕ) (over : Event) (call : Call) → StageIs (Unit {0}) (Soon told) (Before told) call.stage → lets_go over call.place ≡ true
    → Leaves (told + 64000) (call_row call told over)
over_leaves told (CallOver on) call early is = let_go_leaves told call (holds call.place (calling_place on)) early is
over_leaves told (JobOver on) call early is = let_go_leaves told call (holds call.place (called_place on)) early is
over_leaves told Elapsed call early is = absurd (true≢false (sym is))
over_leaves told (Came route said) call early is = absurd (true≢false (sym is))
over_leaves told (Rung id on) call early is = absurd (true≢false (sym is))
over_leaves told (NotRung id status) call early is = absurd (true≢false (sym is))
over_leaves told (Dialled on choice) call early is = absurd (true≢false (sym is))
over_leaves told (Within id event) call early is = absurd (true≢false (sym is))

-- ---- at the bound: one step closes it, and one more lets go of it

abbrev Closing : ℕ → Session → Type 0
Closing bound (Confirmed reinvite) = ⊥
Closing bound (Accepted again pause until next) = ⊥
Closing bound Inviting = ⊥
Closing bound (Invited reinvite) = ⊥
Closing bound (Ending until) = until ≤ bound
Closing bound Ended = Unit {0}

abbrev IsEnded : Session → Type 0
IsEnded (Confirmed reinvite) = ⊥
IsEnded (Accepted again pause until next) = ⊥
IsEnded Inviting = ⊥
IsEnded (Invited reinvite) = ⊥
IsEnded (Ending until) = ⊥
IsEnded Ended = Unit {0}

abbrev None_at : ℕ → Type 0
None_at until = ⊥

not_early : (bound until now : ℕ) → until + 32000 ≤ bound → bound ≤ now → now < until → ⊥
not_early bound until now within late early = omega arith

not_due : (bound until now : ℕ) → until ≤ bound → bound ≤ now → nat_le until now ≡ false → ⊥
not_due bound until now within late e = let early : now < until = le_false until now e in omega arith

closes : (bound : ℕ) (state : Session) (now : ℕ) (event : SessionEvent) → bound ≤ now → Leaving bound state → Closing bound (session_row state now event).0
closes bound (Confirmed reinvite) now event late leaving = absurd leaving
closes bound (Accepted again pause until next) now event late leaving =
    let within : until + 32000 ≤ bound = leaving.1 in
    chosen (λ (r : Session × SessionAction). Closing bound r.0) (nat_le until now) (ending until, TellAndSendBye) _ (λ _. omega arith)
    (λ e. absurd (not_due bound until now (omega arith) late e))
closes bound Inviting now event late leaving = absurd leaving
closes bound (Invited reinvite) now event late leaving = absurd leaving
closes bound (Ending until) now event late leaving =
    chosen (λ (r : Session × SessionAction). Closing bound r.0) (nat_le until now) (Ended, Nothing) _ (λ _. tt) (λ e. absurd (not_due bound until now leaving late e))
closes bound Ended now event late leaving = subst (Closing bound) (sym (ended_stays event)) tt

closing_ends : (bound : ℕ) (state : Session) (now : ℕ) (event : SessionEvent) → bound ≤ now → Closing bound state → IsEnded (session_row state now event).0
closing_ends bound (Confirmed reinvite) now event late closing = absurd closing
closing_ends bound (Accepted again pause until next) now event late closing = absurd closing
closing_ends bound Inviting now event late closing = absurd closing
closing_ends bound (Invited reinvite) now event late closing = absurd closing
closing_ends bound (Ending until) now event late closing =
    chosen (λ (r : Session × SessionAction). IsEnded r.0) (nat_le until now) (Ended, Nothing) _ (λ _. tt) (λ e. absurd (not_due bound until now closing late e))
closing_ends bound Ended now event late closing = subst IsEnded (sym (ended_stays event)) tt

ended_closes : (bound : ℕ) (state : Session) → IsEnded state → Closing bound state
ended_closes bound (Confirmed reinvite) ended = absurd ended
ended_closes bound (Accepted again pause until next) ended = absurd ended
ended_closes bound Inviting ended = absurd ended
ended_closes bound (Invited reinvite) ended = absurd ended
ended_closes bound (Ending until) ended = absurd ended
ended_closes bound Ended ended = tt

closing_not_confirmed : (bound : ℕ) (state : Session) → Closing bound state → is_confirmed state ≡ true → ⊥
closing_not_confirmed bound (Confirmed reinvite) closing is = closing
closing_not_confirmed bound (Accepted again pause until next) closing is = closing
closing_not_confirmed bound Inviting closing is = closing
closing_not_confirmed bound (Invited reinvite) closing is = closing
closing_not_confirmed bound (Ending until) closing is = true≢false (sym is)
closing_not_confirmed bound Ended closing is = true≢false (sym is)

first_steps : (bound now : ℕ) → bound ≤ now → Steps now ⊥ (Bounded bound) (Leaving bound) ⊥ None_at (Closing bound)
first_steps bound now late = record {
  kept = λ a. a;
  cancels = λ a. absurd a;
  accepts = λ a next. absurd a;
  confirms = λ a reinvite. absurd a;
  refuses = λ a. absurd a;
  waits = λ until c early. not_early bound until now c late early;
  answers = λ until c early. absurd (not_early bound until now c late early);
  moves = λ state event leaving. closes bound state now event late leaving;
  again = λ state event closing. ended_closes bound (session_row state now event).0 (closing_ends bound state now event late closing);
  hung_up = λ state closing is. absurd (closing_not_confirmed bound state closing is);
  drops = λ reinvite has. has;
}

second_steps : (bound now : ℕ) → bound ≤ now → Steps now ⊥ None_at (Closing bound) ⊥ None_at IsEnded
second_steps bound now late = record {
  kept = λ a. a;
  cancels = λ a. absurd a;
  accepts = λ a next. absurd a;
  confirms = λ a reinvite. absurd a;
  refuses = λ a. absurd a;
  waits = λ until c early. c;
  answers = λ until c early. absurd c;
  moves = λ state event closing. closing_ends bound state now event late closing;
  again = λ state event ended. closing_ends bound state now event late (ended_closes bound state ended);
  hung_up = λ state ended is. absurd (closing_not_confirmed bound state (ended_closes bound state ended) is);
  drops = λ reinvite has. has;
}

dead : (state : Session) → Lives IsEnded state → ⊥
dead (Confirmed reinvite) lives = lives
dead (Accepted again pause until next) lives = lives
dead Inviting lives = lives
dead (Invited reinvite) lives = lives
dead (Ending until) lives = lives
dead Ended lives = lives

none_is_on : (entry : Entry) (stage : Stage) → entry.call.stage ≡ stage → StageIs ⊥ None_at IsEnded stage → is_on entry ≡ false
none_is_on entry (Asking said until) is s = absurd s
none_is_on entry (Dropped until) is s = absurd s
none_is_on entry (Placing offer second) is s = absurd s
none_is_on entry (Cancelling until) is s = absurd s
none_is_on entry (Talking state media) is s = absurd (dead state s)
none_is_on entry Over is s = ap is_on_at is

-- ---- calls of one number

abbrev Numbered : ℕ → (Entry → Type 0) → Entry → Type 0
Numbered id P entry = (id == entry.call.id) ≡ true → P entry

numbered_step : (id : ℕ) (P Q : Entry → Type 0) (entry after : Entry) → after.call.id ≡ entry.call.id → (P entry → Q after) → Numbered id P entry → Numbered id Q after
numbered_step id P Q entry after same step has is = step (has (subst (λ (i : ℕ). (id == i) ≡ true) same is))

not_new : (id other next : ℕ) → id < next → other ≡ next → (id == other) ≡ true → ⊥
not_new id other next below same is = let e : id ≡ other = eqb-true id other is in omega arith

new_numbered : (id next : ℕ) (P : Entry → Type 0) (new : Option Entry) → id < next → IfNew (IsNumbered next) new → IfNew (Numbered id P) new
new_numbered id next P None below is = tt
new_numbered id next P (Some entry) below is = λ same. absurd (not_new id entry.call.id next below is same)

grows : (id : ℕ) (new : Option Entry) (table : Table) → id < table.next → id < (with_new new table).next
grows id None table below = below
grows id (Some entry) table below = omega arith

abbrev HasAll : ℕ → (Entry → Type 0) → Table → Type 0
HasAll id P table = Each (Numbered id P) table.entries × (id < table.next)

step_all : (id : ℕ) (P Q : Entry → Type 0) (table : Table) (now : ℕ) (event : Event) → ((call : Entry) → P call → Q (call_row call.call now event))
    → HasAll id P table → HasAll id Q (row table now event)
step_all id P Q table now event step has = (
  step_each (Numbered id P) (Numbered id Q) table now event
      (λ entry numbered. numbered_step id P Q entry (call_row entry.call now event) (call_id entry.call now event) (step entry) numbered)
      (new_numbered id table.next Q (new_entry (swept table) now event) has.1 (new_id (swept table) now event)) has.0,
  grows id (new_entry (swept table) now event) (AfterStep table now event) has.1,
)

leaving_run : (most id bound : ℕ) (between base : List (ℕ × Event)) → HasAll id (Leaves bound) (table_after most base) → HasAll id (Leaves bound) (table_after most (between ++ base))
leaving_run most id bound [] base has = has
leaving_run most id bound (happening ∷ between) base has =
    step_all id (Leaves bound) (Leaves bound) (table_after most (between ++ base)) happening.0 happening.1
    (λ entry leaves. row_by happening.0 ⊥ (Bounded bound) (Leaving bound) ⊥ (Bounded bound) (Leaving bound) (leaving_steps bound happening.0) entry.call happening.1 leaves)
    (leaving_run most id bound between base has)

abbrev Closes : ℕ → Entry → Type 0
Closes bound entry = EntryIs ⊥ None_at (Closing bound) entry

abbrev IsGone : Entry → Type 0
IsGone entry = EntryIs ⊥ None_at IsEnded entry

-- ---- what was before

came_early : (told : ℕ) (room : Bool) (id route now : ℕ) (said : Description) → IsEarly told (came room id route now said)
came_early told true id route now (FaxAt end) = tt
came_early told false id route now (FaxAt end) = tt
came_early told true id route now (AudioAt address) = tt
came_early told false id route now (AudioAt address) = tt
came_early told true id route now NothingSaid = tt
came_early told false id route now NothingSaid = tt
came_early told true id route now Unusable = tt
came_early told false id route now Unusable = tt

dialled_early : (told : ℕ) (room : Bool) (id : ℕ) (on : LineCall) (choice : Choice) → IsEarly told (dialled room id on choice)
dialled_early told true id on (Routed route offer) = tt
dialled_early told false id on (Routed route offer) = tt
dialled_early told room id on Unrouted = tt
dialled_early told room id on TrunkFull = tt

begun_early : (told : ℕ) (room : Bool) (id now : ℕ) (event : Event) → IfNew (IsEarly told) (begun_by room id now event)
begun_early told room id now (Came route said) = came_early told room id route now said
begun_early told room id now (Dialled on choice) = dialled_early told room id on choice
begun_early told room id now Elapsed = tt
begun_early told room id now (Rung call on) = tt
begun_early told room id now (NotRung call status) = tt
begun_early told room id now (CallOver on) = tt
begun_early told room id now (JobOver on) = tt
begun_early told room id now (Within call happened) = tt

new_early : (told : ℕ) (table : Table) (now : ℕ) (event : Event) → IfNew (IsEarly told) (new_entry table now event)
new_early told table now event =
    chosen (IfNew (IsEarly told)) (nat_lt table.next 18446744073709551615) (begun_by (has_room table) table.next now event) None
    (λ _. begun_early told (has_room table) table.next now event) (λ _. tt)

all_early : (most told : ℕ) (past : List (ℕ × Event)) → AllUpTo told past → Each (IsEarly told) (table_after most past).entries
all_early most told [] early = tt
all_early most told (happening ∷ past) early =
    step_each (IsEarly told) (IsEarly told) (table_after most past) happening.0 happening.1
    (λ entry is. row_by happening.0 (Unit {0}) (Soon told) (Before told) (Unit {0}) (Soon told) (Before told) (early_steps told happening.0 early.0) entry.call happening.1 is)
    (new_early told (swept (table_after most past)) happening.0 happening.1) (all_early most told past early.1)

-- each entry is the only one of its number
not_itself : (id other : ℕ) → nat_eq id other ≡ false → nat_eq other id ≡ true → ⊥
not_itself id other differ is = true≢false (sym (eq-eqb id other (sym (eqb-true other id is))) ∙ differ)

only_one : (P : Entry → Type 0) (entries : List Entry) → EachTwo Differ entries → Each (λ entry. P entry → Each (Numbered entry.call.id P) entries) entries
only_one P [] two = tt
only_one P (entry ∷ entries) two = (
  (λ p. ((λ is. p), each_weaker (Differ entry) (Numbered entry.call.id P) (λ other differ is. absurd (true≢false (sym is ∙ differ))) entries two.0)),
  each_both (Differ entry) (λ other. P other → Each (Numbered other.call.id P) entries) (λ other. P other → Each (Numbered other.call.id P) (entry ∷ entries))
      (λ other differ rest p. ((λ is. absurd (not_itself entry.call.id other.call.id differ is)), rest p)) entries two.0 (only_one P entries two.1),
)

-- ---- it ends

abbrev IsLetGo : Event → Entry → Type 0
IsLetGo over entry = lets_go over entry.call.place ≡ true

both_numbered : (id : ℕ) (P Q : Entry → Type 0) (entry : Entry) → Numbered id P entry → Q entry → Numbered id (λ other. P other × Q other) entry
both_numbered id P Q entry p q is = (p is, q)

gone : (most told first second id : ℕ) (over one other : Event) (past between : List (ℕ × Event)) → AllUpTo told past → told + 64000 ≤ first → told + 64000 ≤ second
    → Each (Numbered id (IsLetGo over)) (table_after most past).entries → id < (table_after most past).next
    → NoneIsOn id (table_after most ((second, other) ∷ ((first, one) ∷ (between ++ (told, over) ∷ past)))).entries
gone most told first second id over one other past between early late later_still let_go below =
    let begun : HasAll id (λ entry. IsLetGo over entry × IsEarly told entry) (table_after most past) = (
      each_both (Numbered id (IsLetGo over)) (IsEarly told) (Numbered id (λ entry. IsLetGo over entry × IsEarly told entry))
          (λ entry p q. both_numbered id (IsLetGo over) (IsEarly told) entry p q) (table_after most past).entries let_go (all_early most told past early),
      below,
    ) in
    let released_all : HasAll id (Leaves (told + 64000)) (table_after most ((told, over) ∷ past)) =
    step_all id (λ entry. IsLetGo over entry × IsEarly told entry) (Leaves (told + 64000)) (table_after most past) told over
    (λ entry both. over_leaves told over entry.call both.1 both.0) begun in
    let before : HasAll id (Leaves (told + 64000)) (table_after most (between ++ (told, over) ∷ past)) =
    leaving_run most id (told + 64000) between ((told, over) ∷ past) released_all in
    let closed : HasAll id (Closes (told + 64000)) (table_after most ((first, one) ∷ (between ++ (told, over) ∷ past))) =
    step_all id (Leaves (told + 64000)) (Closes (told + 64000)) (table_after most (between ++ (told, over) ∷ past)) first one
    (λ entry leaves. row_by first ⊥ (Bounded (told + 64000)) (Leaving (told + 64000)) ⊥ None_at (Closing (told + 64000))
    (first_steps (told + 64000) first late) entry.call one leaves) before in
    let ended : HasAll id IsGone (table_after most ((second, other) ∷ ((first, one) ∷ (between ++ (told, over) ∷ past)))) =
    step_all id (Closes (told + 64000)) IsGone (table_after most ((first, one) ∷ (between ++ (told, over) ∷ past))) second other
    (λ entry closes_now. row_by second ⊥ None_at (Closing (told + 64000)) ⊥ None_at IsEnded (second_steps (told + 64000) second later_still) entry.call other closes_now) closed in
    each_weaker (Numbered id IsGone) (λ entry. (id == entry.call.id) ≡ true → is_on entry ≡ false)
    (λ entry numbered is. none_is_on entry entry.call.stage refl (numbered is))
    (table_after most ((second, other) ∷ ((first, one) ∷ (between ++ (told, over) ∷ past)))).entries ended.0

pub calls_end : CallsEnd
calls_end most told first second over one other past between early late later_still =
    each_both (λ entry. IsLetGo over entry → Each (Numbered entry.call.id (IsLetGo over)) (table_after most past).entries)
    (λ entry. entry.call.id < (table_after most past).next) _
    (λ entry all below is. gone most told first second entry.call.id over one other past between early late later_still (all is) below)
    (table_after most past).entries (only_one (IsLetGo over) (table_after most past).entries (ids_differ most past)) (ids_below most past)
