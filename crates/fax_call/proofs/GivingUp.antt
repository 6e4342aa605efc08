-- In Await DIS a page was delivered exactly where a DIS was accepted before in the call.
use Rattle.std.proofs.Common.{◌≡◌, ℕ, ◌+◌, nat_eq, nat_lt, Bool, true, false, not, ◌||◌, List, [], ◌∷◌, Option, Some, None, Result, Ok, Err, refl, sym, ◌∙◌, ap, subst, arith, if◌then◌else◌}
use Rattle.fax_runcodes.specs.declared.format.Format.{Format}
use Rattle.fax_frames.specs.declared.dis.Dis.{Dis}
use Rattle.fax_frames.specs.declared.dcs.Dcs.{Dcs}
use Rattle.fax_frames.specs.declared.frame.Frame.{Frame}
use Rattle.fax_frames.specs.declared.frame.Frame.TheVariants as frames
use Rattle.fax_frames.specs.declared.choice.Refusal.{Refusal}
use Rattle.fax_frames.specs.Choice.{choice}
use Rattle.fax_frames.specs.Frames.{frame_of}
use Rattle.fax_timers.specs.Moments.{is_due}
use Rattle.fax_timers.specs.Paces.{pace_allows}
use Rattle.fax_ifp.specs.Pieces as pieces
use Rattle.fax_jobs.specs.declared.outcome.Outcome.{Outcome}
use Rattle.fax_jobs.specs.declared.outcome.Outcome.TheVariants as outcomes
use Rattle.fax_jobs.specs.Jobs.{JobValue}
use Rattle.fax_call.specs.declared.state.State.{State}
use Rattle.fax_call.specs.declared.state.State.TheVariants.{Idle, AwaitDis, AwaitCfr, AwaitMcf, Closing}
use Rattle.fax_call.specs.Writings.{Writing}
use Rattle.fax_call.specs.Replies.{Packet, Due, waits, is_last_page, turn_after}
use Rattle.fax_call.specs.Table.{Counts, Move, Stays, Trains, Sends, AsksAgain, Turns, Closes, HangsUp, first_try, next_try, next_step, next_page, one_delivered, one_refused, most_tries, by_choice, turns_or, on_frame, gives_up_dis, on_timers}
use Rattle.fax_call.specs.Calls.{CallerCore, started, moved, came, timed, taken, state_when_given, after_giving, TickResult, given_first, ticked, CallEvent, Comes, Ticks, after_events}
use Rattle.fax_call.specs.GivingUp.{leaves_choice, is_accepted, accepts, was_accepted, TellsWhyItGaveUp}

-- what is known of a state, where so many pages were delivered, and where a DIS was accepted before or not
abbrev Tells : State → (delivered : ℕ) → (accepted : Bool) → Type 0
Tells AwaitDis delivered accepted = nat_eq delivered 0 ≡ not accepted
Tells (AwaitCfr dis dcs) delivered accepted = accepted ≡ true
Tells (AwaitMcf dis dcs) delivered accepted = accepted ≡ true
Tells state delivered accepted = Unit {0}

abbrev MoveTells : State → (delivered : ℕ) → (accepted : Bool) → Move → Type 0
MoveTells state delivered accepted Stays = Tells state delivered accepted
MoveTells state delivered accepted (Trains dis dcs c) = accepted ≡ true
MoveTells state delivered accepted (Sends dis dcs c) = accepted ≡ true
MoveTells state delivered accepted (AsksAgain c) = Tells state c.delivered accepted
MoveTells state delivered accepted (Turns format t1 c) = nat_eq c.delivered 0 ≡ not accepted
MoveTells state delivered accepted (Closes outcome c) = Unit {0}
MoveTells state delivered accepted HangsUp = Unit {0}

abbrev CoreTells : CallerCore → Bool → Type 0
CoreTells a accepted = Tells a.state a.counts.delivered accepted

moved_tells : (a : CallerCore) (m : Move) (accepted : Bool) → MoveTells a.state a.counts.delivered accepted m → CoreTells (moved a m) accepted
moved_tells a Stays accepted h = h
moved_tells a (Trains dis dcs c) accepted h = h
moved_tells a (Sends dis dcs c) accepted h = h
moved_tells a (AsksAgain c) accepted h = h
moved_tells a (Turns format t1 c) accepted h = h
moved_tells a (Closes outcome c) accepted h = tt
moved_tells a HangsUp accepted h = tt

-- ---- a frame

if_tells : (s : State) (d : ℕ) (accepted t : Bool) (m n : Move) → MoveTells s d accepted m → MoveTells s d accepted n → MoveTells s d accepted (if t then m else n)
if_tells s d accepted true m n x y = x
if_tells s d accepted false m n x y = y

taken_tells : (s : State) (d : ℕ) (accepted : Bool) (dis : Dis) (c : Counts) (r : Result Dcs Refusal) → MoveTells s d (leaves_choice r || accepted) (by_choice dis c r)
taken_tells s d accepted dis c (Ok dcs) = refl
taken_tells s d accepted dis c (Err e) = tt

choice_tells : (s : State) (d : ℕ) (accepted : Bool) (dis : Dis) (c : Counts) (r : Result Dcs Refusal) → accepted ≡ true → MoveTells s d accepted (by_choice dis c r)
choice_tells s d accepted dis c (Ok dcs) h = h
choice_tells s d accepted dis c (Err e) h = tt

one_more : (n : ℕ) (accepted : Bool) → accepted ≡ true → nat_eq (n + 1) 0 ≡ not accepted
one_more n true h = grind (arith)
one_more n false h = cc

turns_tells : (s : State) (d : ℕ) (accepted : Bool) (now : ℕ) (turn : Option Format) (c : Counts) (m : Move) → accepted ≡ true → MoveTells s d accepted m → MoveTells s d accepted (turns_or now turn c m)
turns_tells s d accepted now (Some format) c m h k = one_more c.delivered accepted h
turns_tells s d accepted now None c m h k = k

frame_tells : (now : ℕ) (format : Format) (turn : Option Format) (pages : ℕ) (s : State) (c : Counts) (frame : Option Frame) (accepted : Bool) → Tells s c.delivered accepted
    → MoveTells s c.delivered (is_accepted s false format c.step frame || accepted) (on_frame now format turn pages s c frame)
frame_tells now format turn pages AwaitDis c (Some (frames.Dis dis)) accepted h = taken_tells AwaitDis c.delivered accepted dis (first_try c) (choice dis format c.step)
frame_tells now format turn pages AwaitDis c (Some frames.Dcn) accepted h = tt
frame_tells now format turn pages (AwaitCfr dis dcs) c (Some frames.Cfr) accepted h = h
frame_tells now format turn pages (AwaitCfr dis dcs) c (Some frames.Ftt) accepted h = choice_tells (AwaitCfr dis dcs) c.delivered accepted dis (next_step c) (choice dis format (c.step + 1)) h
frame_tells now format turn pages (AwaitCfr dis dcs) c (Some (frames.Dis other)) accepted h =
    if_tells (AwaitCfr dis dcs) c.delivered accepted (nat_lt c.tries most_tries) (Trains dis dcs (next_try c)) (Closes outcomes.NoReply c) h tt
frame_tells now format turn pages (AwaitCfr dis dcs) c (Some frames.Dcn) accepted h = tt
frame_tells now format turn pages (AwaitMcf dis dcs) c (Some frames.Mcf) accepted h =
    if_tells (AwaitMcf dis dcs) c.delivered accepted (is_last_page pages c.page) (Closes outcomes.Delivered (one_delivered c)) (turns_or now turn c (Sends dis dcs (next_page c))) tt
    (turns_tells (AwaitMcf dis dcs) c.delivered accepted now turn c (Sends dis dcs (next_page c)) h h)
frame_tells now format turn pages (AwaitMcf dis dcs) c (Some frames.Rtp) accepted h =
    if_tells (AwaitMcf dis dcs) c.delivered accepted (is_last_page pages c.page) (Closes outcomes.Delivered (one_delivered c)) (turns_or now turn c (Trains dis dcs (next_page c))) tt
    (turns_tells (AwaitMcf dis dcs) c.delivered accepted now turn c (Trains dis dcs (next_page c)) h h)
frame_tells now format turn pages (AwaitMcf dis dcs) c (Some frames.Rtn) accepted h =
    if_tells (AwaitMcf dis dcs) c.delivered accepted (nat_lt c.refused 2) (Trains dis dcs (one_refused c)) (Closes outcomes.PageRefused c) h tt
frame_tells now format turn pages (AwaitMcf dis dcs) c (Some frames.Dcn) accepted h = tt
frame_tells now format turn pages s c frame accepted h = h

timers_tell : (x y : Bool) (s : State) (c : Counts) (accepted : Bool) → Tells s c.delivered accepted → MoveTells s c.delivered accepted (on_timers x y s c)
timers_tell x y Idle c accepted h = tt
timers_tell x y (Closing outcome) c accepted h = tt
timers_tell true y AwaitDis c accepted h = tt
timers_tell false y AwaitDis c accepted h = h
timers_tell x true (AwaitCfr dis dcs) c accepted h = if_tells (AwaitCfr dis dcs) c.delivered accepted (nat_lt c.tries most_tries) (Trains dis dcs (next_try c)) (Closes outcomes.NoReply c) h tt
timers_tell x false (AwaitCfr dis dcs) c accepted h = h
timers_tell x true (AwaitMcf dis dcs) c accepted h = if_tells (AwaitMcf dis dcs) c.delivered accepted (nat_lt c.tries most_tries) (AsksAgain (next_try c)) (Closes outcomes.NoReply c) h tt
timers_tell x false (AwaitMcf dis dcs) c accepted h = h

-- ---- a piece, and a tick

not_while_waiting : (s : State) (format : Format) (step : ℕ) (frame : Option Frame) → is_accepted s true format step frame ≡ false
not_while_waiting Idle format step frame = refl
not_while_waiting AwaitDis format step frame = refl
not_while_waiting (AwaitCfr dis dcs) format step frame = refl
not_while_waiting (AwaitMcf dis dcs) format step frame = refl
not_while_waiting (Closing outcome) format step frame = refl

heard_tells : (now : ℕ) (format : Format) (turn : Option Format) (pages : ℕ) (s : State) (c : Counts) (frame : Option Frame) (accepted w : Bool) → Tells s c.delivered accepted
    → MoveTells s c.delivered (is_accepted s w format c.step frame || accepted) (if w then Stays else on_frame now format turn pages s c frame)
heard_tells now format turn pages s c frame accepted true h =
    subst (λ (t : Bool). Tells s c.delivered (t || accepted)) (sym (not_while_waiting s format c.step frame)) h
heard_tells now format turn pages s c frame accepted false h = frame_tells now format turn pages s c frame accepted h

came_tells : (a : CallerCore) (piece : pieces.Piece) (now : ℕ) (accepted : Bool) → CoreTells a accepted → CoreTells (came a piece now) (accepts a piece || accepted)
came_tells a (pieces.Frame octets) now accepted h =
    moved_tells a _ _ (heard_tells now a.format (turn_after a.formats a.counts.page) a.pages a.state a.counts (frame_of octets) accepted (waits a.waiting) h)
came_tells a (pieces.Start k) now accepted h = h
came_tells a (pieces.Octets os) now accepted h = h
came_tells a (pieces.End w) now accepted h = h
came_tells a pieces.Gap now accepted h = h

timed_tells : (a : CallerCore) (now : ℕ) (accepted : Bool) → CoreTells a accepted → CoreTells (timed a now) accepted
timed_tells a now accepted h =
    moved_tells a _ accepted (if_tells a.state a.counts.delivered accepted (waits a.waiting) Stays (on_timers (is_due a.t1 now) (is_due a.t4 now) a.state a.counts) h
    (timers_tell (is_due a.t1 now) (is_due a.t4 now) a.state a.counts accepted h))

given_tells : (s : State) (d : ℕ) (accepted : Bool) → Tells s d accepted → Tells (state_when_given s) d accepted
given_tells Idle d accepted h = h
given_tells AwaitDis d accepted h = h
given_tells (AwaitCfr dis dcs) d accepted h = h
given_tells (AwaitMcf dis dcs) d accepted h = h
given_tells (Closing outcome) d accepted h = tt

after_tells : (a : CallerCore) (now : ℕ) (packet : Packet) (rest : List Due) (accepted : Bool) → CoreTells a accepted → CoreTells (after_giving a now packet rest) accepted
after_tells a now packet [] accepted h = given_tells a.state a.counts.delivered accepted h
after_tells a now packet (r ∷ rest) accepted h = h

first_tells : (writes : Writing) (job : JobValue) (a : CallerCore) (now : ℕ) (due : List Due) (accepted : Bool) → CoreTells a accepted → CoreTells (given_first writes job a now due).core accepted
first_tells writes job a now [] accepted h = h
first_tells writes job a now (r ∷ due) accepted h = after_tells a now (taken writes job r due).packet (taken writes job r due).rest accepted h

ticked_tells : (writes : Writing) (job : JobValue) (a : CallerCore) (now : ℕ) (accepted : Bool) → CoreTells a accepted → CoreTells (ticked writes job a now).core accepted
ticked_tells writes job a now accepted h = by (timed a now) (timed_tells a now accepted h) (pace_allows (timed a now).pace.last now)
  where
    by : (b : CallerCore) → CoreTells b accepted → (t : Bool) → CoreTells (if◌then◌else◌ {A = TickResult} t (given_first writes job b now b.waiting) (record { core = b; given = None })).core accepted
    by b k true = first_tells writes job b now b.waiting accepted k
    by b k false = k

-- ---- a call

call_tells : (writes : Writing) (job : JobValue) (core : CallerCore) (start : ℕ) (events : List CallEvent)
    → CoreTells (after_events writes job (started core job start) events) (was_accepted writes job (started core job start) events)
call_tells writes job core start [] = refl
call_tells writes job core start (Comes piece now ∷ before) =
    came_tells (after_events writes job (started core job start) before) piece now (was_accepted writes job (started core job start) before) (call_tells writes job core start before)
call_tells writes job core start (Ticks now ∷ before) =
    ticked_tells writes job (after_events writes job (started core job start) before) now (was_accepted writes job (started core job start) before) (call_tells writes job core start before)

-- T1 is due
outcome_by : (delivered : ℕ) (accepted : Bool) → nat_eq delivered 0 ≡ not accepted
    → (if◌then◌else◌ {A = Outcome} (nat_eq delivered 0) outcomes.NoAnswer outcomes.NoReply) ≡ (if accepted then outcomes.NoReply else outcomes.NoAnswer)
outcome_by delivered true h = ap (λ (t : Bool). if◌then◌else◌ {A = Outcome} t outcomes.NoAnswer outcomes.NoReply) h
outcome_by delivered false h = ap (λ (t : Bool). if◌then◌else◌ {A = Outcome} t outcomes.NoAnswer outcomes.NoReply) h

closes_so : (writes : Writing) (job : JobValue) (a : CallerCore) (now : ℕ) → a.state ≡ AwaitDis → a.waiting ≡ [] → is_due a.t1 now ≡ true
    → (ticked writes job a now).core.state ≡ Closing (if nat_eq a.counts.delivered 0 then outcomes.NoAnswer else outcomes.NoReply)
closes_so writes job a now state none due =
    ap (λ (m : Move). given m) move ∙ by (pace_allows a.pace.last now)
  where
    given : Move → State
    given m = (Rattle.fax_call.specs.Calls.paced writes job (moved a m) now).core.state

    move : (if waits a.waiting then Stays else on_timers (is_due a.t1 now) (is_due a.t4 now) a.state a.counts) ≡ gives_up_dis a.counts
    move =
        ap (λ (w : List Due). if waits w then Stays else on_timers (is_due a.t1 now) (is_due a.t4 now) a.state a.counts) none
        ∙ ap (λ (s : State). on_timers (is_due a.t1 now) (is_due a.t4 now) s a.counts) state
        ∙ ap (λ (t : Bool). on_timers t (is_due a.t4 now) AwaitDis a.counts) due

    closed : CallerCore
    closed = moved a (gives_up_dis a.counts)

    by : (t : Bool) → (if◌then◌else◌ {A = TickResult} t (given_first writes job closed now closed.waiting) (record { core = closed; given = None })).core.state ≡ Closing (if nat_eq a.counts.delivered 0 then outcomes.NoAnswer else outcomes.NoReply)
    by true = refl
    by false = refl

pub tells_why_it_gave_up : TellsWhyItGaveUp
tells_why_it_gave_up writes job core start now events state none due =
    let a : CallerCore = after_events writes job (started core job start) events in
    let accepted : Bool = was_accepted writes job (started core job start) events in
    let known : nat_eq a.counts.delivered 0 ≡ not accepted = subst (λ (s : State). Tells s a.counts.delivered accepted) state (call_tells writes job core start events) in
    closes_so writes job a now state none due ∙ ap (λ (o : Outcome). Closing o) (outcome_by a.counts.delivered accepted known)
