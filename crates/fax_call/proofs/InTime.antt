-- T1 and T4 are set by what was given and heard.
use Rattle.std.proofs.Common.{◌≡◌, ℕ, ◌+◌, nat_lt, Bool, true, false, List, [], ◌∷◌, Option, Some, None, Result, Ok, Err, refl, sym, ◌∙◌, ap, subst, if◌then◌else◌}
use Rattle.std.specs.Prelude.{option_map}
use Rattle.fax_runcodes.specs.declared.format.Format.{Format}
use Rattle.fax_frames.specs.declared.dis.Dis.{Dis}
use Rattle.fax_frames.specs.declared.dcs.Dcs.{Dcs}
use Rattle.fax_frames.specs.declared.frame.Frame.{Frame}
use Rattle.fax_frames.specs.declared.frame.Frame.TheVariants as frames
use Rattle.fax_frames.specs.declared.choice.Refusal.{Refusal}
use Rattle.fax_frames.specs.Choice.{choice}
use Rattle.fax_frames.specs.Frames.{frame_of}
use Rattle.fax_timers.specs.Moments.{is_due, on_clock, moment_after}
use Rattle.fax_timers.specs.Paces.{pace_allows, allowed_from}
use Rattle.fax_timers.specs.Spans as spans
use Rattle.fax_ifp.specs.Pieces as pieces
use Rattle.fax_jobs.specs.declared.outcome.Outcome.TheVariants as outcomes
use Rattle.fax_jobs.specs.Jobs.{JobValue}
use Rattle.fax_call.specs.declared.state.State.{State}
use Rattle.fax_call.specs.declared.state.State.TheVariants.{Idle, AwaitDis, AwaitCfr, AwaitMcf, Closing}
use Rattle.fax_call.specs.Writings.{Writing}
use Rattle.fax_call.specs.Replies.{Packet, Due, waits, is_last_page, turn_after, command, command_after}
use Rattle.fax_call.specs.Table.{Counts, Move, Stays, Trains, Sends, AsksAgain, Turns, Closes, HangsUp, first_try, next_try, next_step, next_page, one_delivered, one_refused, most_tries, by_choice, turns_or, on_frame, on_timers}
use Rattle.fax_call.specs.Calls.{CallerCore, started, moved, came, timed, taken, after_giving, TickResult, given_first, ticked, CallEvent, Comes, Ticks, after_events}
use Rattle.fax_call.specs.Due.{timer_of, due_at}
use Rattle.fax_call.specs.InTime.{since_by, awaited_since, last_by, last_given, timer_since, NoTimerIsEarly}
use Rattle.fax_call.proofs.DueLemmas.{rests_before}

-- what is known, where a DIS is awaited from some moment on, and a packet was given last at another
abbrev Knows : State → List Due → Option ℕ → Option ℕ → (awaited : ℕ) → (given : Option ℕ) → Type 0
Knows AwaitDis due t1 t4 w g = t1 ≡ Some (moment_after w spans.t1)
Knows (AwaitCfr dis dcs) [] t1 t4 w g = t4 ≡ option_map (λ (m : ℕ). moment_after m spans.t4) g
Knows (AwaitCfr dis dcs) (d ∷ due) t1 t4 w g = Unit {0}
Knows (AwaitMcf dis dcs) [] t1 t4 w g = t4 ≡ option_map (λ (m : ℕ). moment_after m spans.t4) g
Knows (AwaitMcf dis dcs) (d ∷ due) t1 t4 w g = Unit {0}
Knows state due t1 t4 w g = Unit {0}

abbrev CoreKnows : CallerCore → ℕ → Option ℕ → Type 0
CoreKnows a w g = Knows a.state a.waiting a.t1 a.t4 w g

abbrev InMcf : State → Type 0
InMcf (AwaitMcf dis dcs) = Unit {0}
InMcf s = ⊥

asks_knows : (s : State) (a : CallerCore) (page w : ℕ) (g : Option ℕ) → InMcf s → Knows s (command (command_after a.formats a.pages page)) None None w g
asks_knows (AwaitMcf dis dcs) a page w g h = tt
asks_knows Idle a page w g h = absurd h
asks_knows AwaitDis a page w g h = absurd h
asks_knows (AwaitCfr dis dcs) a page w g h = absurd h
asks_knows (Closing x) a page w g h = absurd h

-- ---- a frame

abbrev FrameMove : State → (now : ℕ) → Move → Type 0
FrameMove s now (AsksAgain c) = InMcf s
FrameMove s now (Turns format t1 c) = (t1 ≡ moment_after now spans.t1) × InMcf s
FrameMove s now m = Unit {0}

same_since : (s : State) (now w : ℕ) → since_by s s now w ≡ w
same_since Idle now w = refl
same_since AwaitDis now w = refl
same_since (AwaitCfr dis dcs) now w = refl
same_since (AwaitMcf dis dcs) now w = refl
same_since (Closing x) now w = refl

new_since : (s : State) (now w : ℕ) → InMcf s → since_by s AwaitDis now w ≡ now
new_since (AwaitMcf dis dcs) now w h = refl
new_since Idle now w h = absurd h
new_since AwaitDis now w h = absurd h
new_since (AwaitCfr dis dcs) now w h = absurd h
new_since (Closing x) now w h = absurd h

moved_knows : (a : CallerCore) (m : Move) (now w : ℕ) (g : Option ℕ) → CoreKnows a w g → FrameMove a.state now m → CoreKnows (moved a m) (since_by a.state (moved a m).state now w) g
moved_knows a Stays now w g k h = subst (λ (v : ℕ). CoreKnows a v g) (sym (same_since a.state now w)) k
moved_knows a (Trains dis dcs c) now w g k h = tt
moved_knows a (Sends dis dcs c) now w g k h = tt
moved_knows a (AsksAgain c) now w g k h = asks_knows a.state a c.page (since_by a.state a.state now w) g h
moved_knows a (Turns format t1 c) now w g k h = ap (λ (m : ℕ). Some m) h.0 ∙ ap (λ (v : ℕ). Some (moment_after v spans.t1)) (sym (new_since a.state now w h.1))
moved_knows a (Closes outcome c) now w g k h = tt
moved_knows a HangsUp now w g k h = tt

if_frame : (s : State) (now : ℕ) (t : Bool) (x y : Move) → FrameMove s now x → FrameMove s now y → FrameMove s now (if t then x else y)
if_frame s now true x y h k = h
if_frame s now false x y h k = k

choice_frame : (s : State) (now : ℕ) (dis : Dis) (c : Counts) (r : Result Dcs Refusal) → FrameMove s now (by_choice dis c r)
choice_frame s now dis c (Ok dcs) = tt
choice_frame s now dis c (Err e) = tt

turns_frame : (s : State) (now : ℕ) (turn : Option Format) (c : Counts) (m : Move) → InMcf s → FrameMove s now m → FrameMove s now (turns_or now turn c m)
turns_frame s now (Some format) c m h k = (refl, h)
turns_frame s now None c m h k = k

frame_move : (now : ℕ) (format : Format) (turn : Option Format) (pages : ℕ) (s : State) (c : Counts) (frame : Option Frame) → FrameMove s now (on_frame now format turn pages s c frame)
frame_move now format turn pages AwaitDis c (Some (frames.Dis dis)) = choice_frame AwaitDis now dis (first_try c) (choice dis format c.step)
frame_move now format turn pages AwaitDis c (Some frames.Dcn) = tt
frame_move now format turn pages (AwaitCfr dis dcs) c (Some frames.Cfr) = tt
frame_move now format turn pages (AwaitCfr dis dcs) c (Some frames.Ftt) = choice_frame (AwaitCfr dis dcs) now dis (next_step c) (choice dis format (c.step + 1))
frame_move now format turn pages (AwaitCfr dis dcs) c (Some (frames.Dis other)) = if_frame (AwaitCfr dis dcs) now (nat_lt c.tries most_tries) (Trains dis dcs (next_try c)) (Closes outcomes.NoReply c) tt tt
frame_move now format turn pages (AwaitCfr dis dcs) c (Some frames.Dcn) = tt
frame_move now format turn pages (AwaitMcf dis dcs) c (Some frames.Mcf) =
    if_frame (AwaitMcf dis dcs) now (is_last_page pages c.page) (Closes outcomes.Delivered (one_delivered c)) (turns_or now turn c (Sends dis dcs (next_page c))) tt
    (turns_frame (AwaitMcf dis dcs) now turn c (Sends dis dcs (next_page c)) tt tt)
frame_move now format turn pages (AwaitMcf dis dcs) c (Some frames.Rtp) =
    if_frame (AwaitMcf dis dcs) now (is_last_page pages c.page) (Closes outcomes.Delivered (one_delivered c)) (turns_or now turn c (Trains dis dcs (next_page c))) tt
    (turns_frame (AwaitMcf dis dcs) now turn c (Trains dis dcs (next_page c)) tt tt)
frame_move now format turn pages (AwaitMcf dis dcs) c (Some frames.Rtn) = if_frame (AwaitMcf dis dcs) now (nat_lt c.refused 2) (Trains dis dcs (one_refused c)) (Closes outcomes.PageRefused c) tt tt
frame_move now format turn pages (AwaitMcf dis dcs) c (Some frames.Dcn) = tt
frame_move now format turn pages s c frame = tt

came_knows : (a : CallerCore) (piece : pieces.Piece) (now w : ℕ) (g : Option ℕ) → CoreKnows a w g → CoreKnows (came a piece now) (since_by a.state (came a piece now).state now w) g
came_knows a (pieces.Frame octets) now w g k =
    moved_knows a _ now w g k (if_frame a.state now (waits a.waiting) Stays (on_frame now a.format (turn_after a.formats a.counts.page) a.pages a.state a.counts (frame_of octets)) tt
    (frame_move now a.format (turn_after a.formats a.counts.page) a.pages a.state a.counts (frame_of octets)))
came_knows a (pieces.Start n) now w g k = moved_knows a Stays now w g k tt
came_knows a (pieces.Octets os) now w g k = moved_knows a Stays now w g k tt
came_knows a (pieces.End n) now w g k = moved_knows a Stays now w g k tt
came_knows a pieces.Gap now w g k = moved_knows a Stays now w g k tt

-- ---- a tick

abbrev TimerMove : State → Move → Type 0
TimerMove s (AsksAgain c) = InMcf s
TimerMove s (Turns format t1 c) = ⊥
TimerMove s m = Unit {0}

timer_knows : (a : CallerCore) (m : Move) (w : ℕ) (g : Option ℕ) → CoreKnows a w g → TimerMove a.state m → CoreKnows (moved a m) w g
timer_knows a Stays w g k h = k
timer_knows a (Trains dis dcs c) w g k h = tt
timer_knows a (Sends dis dcs c) w g k h = tt
timer_knows a (AsksAgain c) w g k h = asks_knows a.state a c.page w g h
timer_knows a (Turns format t1 c) w g k h = absurd h
timer_knows a (Closes outcome c) w g k h = tt
timer_knows a HangsUp w g k h = tt

if_timer : (s : State) (t : Bool) (x y : Move) → TimerMove s x → TimerMove s y → TimerMove s (if t then x else y)
if_timer s true x y h k = h
if_timer s false x y h k = k

timers_move : (x y : Bool) (s : State) (c : Counts) → TimerMove s (on_timers x y s c)
timers_move x y Idle c = tt
timers_move x y (Closing outcome) c = tt
timers_move true y AwaitDis c = tt
timers_move false y AwaitDis c = tt
timers_move x true (AwaitCfr dis dcs) c = if_timer (AwaitCfr dis dcs) (nat_lt c.tries most_tries) (Trains dis dcs (next_try c)) (Closes outcomes.NoReply c) tt tt
timers_move x false (AwaitCfr dis dcs) c = tt
timers_move x true (AwaitMcf dis dcs) c = if_timer (AwaitMcf dis dcs) (nat_lt c.tries most_tries) (AsksAgain (next_try c)) (Closes outcomes.NoReply c) tt tt
timers_move x false (AwaitMcf dis dcs) c = tt

timed_knows : (a : CallerCore) (now w : ℕ) (g : Option ℕ) → CoreKnows a w g → CoreKnows (timed a now) w g
timed_knows a now w g k =
    timer_knows a _ w g k (if_timer a.state (waits a.waiting) Stays (on_timers (is_due a.t1 now) (is_due a.t4 now) a.state a.counts) tt
    (timers_move (is_due a.t1 now) (is_due a.t4 now) a.state a.counts))

after_knows : (a : CallerCore) (now w : ℕ) (g : Option ℕ) (packet : Packet) (rest : List Due) → CoreKnows a w g → CoreKnows (after_giving a now packet rest) w (Some now)
after_knows a now w g packet rest k = by a.state a.waiting rest k
  where
    by : (s : State) (due rest : List Due) → Knows s due a.t1 a.t4 w g → CoreKnows (after_giving (record a { state = s }) now packet rest) w (Some now)
    by Idle due [] h = tt
    by Idle due (r ∷ rest) h = tt
    by AwaitDis due [] h = h
    by AwaitDis due (r ∷ rest) h = h
    by (AwaitCfr dis dcs) due [] h = refl
    by (AwaitCfr dis dcs) due (r ∷ rest) h = tt
    by (AwaitMcf dis dcs) due [] h = refl
    by (AwaitMcf dis dcs) due (r ∷ rest) h = tt
    by (Closing x) due [] h = tt
    by (Closing x) due (r ∷ rest) h = tt

first_knows : (writes : Writing) (job : JobValue) (a : CallerCore) (now w : ℕ) (g : Option ℕ) (due : List Due) → CoreKnows a w g
    → CoreKnows (given_first writes job a now due).core w (last_by (given_first writes job a now due).given now g)
first_knows writes job a now w g [] k = k
first_knows writes job a now w g (d ∷ due) k = after_knows a now w g (taken writes job d due).packet (taken writes job d due).rest k

ticked_knows : (writes : Writing) (job : JobValue) (a : CallerCore) (now w : ℕ) (g : Option ℕ) → CoreKnows a w g → CoreKnows (ticked writes job a now).core w (last_by (ticked writes job a now).given now g)
ticked_knows writes job a now w g h = by (timed a now) (timed_knows a now w g h) (pace_allows (timed a now).pace.last now)
  where
    by : (b : CallerCore) → CoreKnows b w g → (t : Bool) →
        let r : TickResult = if◌then◌else◌ {A = TickResult} t (given_first writes job b now b.waiting) (record { core = b; given = None }) in
        CoreKnows r.core w (last_by r.given now g)
    by b k true = first_knows writes job b now w g b.waiting k
    by b k false = k

-- ---- a call

call_knows : (writes : Writing) (job : JobValue) (core : CallerCore) (start : ℕ) (events : List CallEvent) →
    let begun : CallerCore = started core job start in
    CoreKnows (after_events writes job begun events) (awaited_since writes job begun start events) (last_given writes job begun events)
call_knows writes job core start [] = refl
call_knows writes job core start (Comes piece now ∷ before) =
    let begun : CallerCore = started core job start in
    came_knows (after_events writes job begun before) piece now (awaited_since writes job begun start before) (last_given writes job begun before) (call_knows writes job core start before)
call_knows writes job core start (Ticks now ∷ before) =
    let begun : CallerCore = started core job start in
    ticked_knows writes job (after_events writes job begun before) now (awaited_since writes job begun start before) (last_given writes job begun before) (call_knows writes job core start before)

timer_is : (s : State) (t1 t4 : Option ℕ) (w : ℕ) (g : Option ℕ) → Knows s [] t1 t4 w g → timer_of s t1 t4 ≡ timer_since s w g
timer_is Idle t1 t4 w g k = refl
timer_is AwaitDis t1 t4 w g k = k
timer_is (AwaitCfr dis dcs) t1 t4 w g k = k
timer_is (AwaitMcf dis dcs) t1 t4 w g k = k
timer_is (Closing x) t1 t4 w g k = refl

pub no_timer_is_early : NoTimerIsEarly
no_timer_is_early writes job core start events rests = (due, λ now fits early. rests_before writes job a now fits (ap (λ (t : Option ℕ). is_due t now) due ∙ early))
  where
    begun : CallerCore
    begun = started core job start

    a : CallerCore
    a = after_events writes job begun events

    w : ℕ
    w = awaited_since writes job begun start events

    g : Option ℕ
    g = last_given writes job begun events

    known : Knows a.state [] a.t1 a.t4 w g
    known = subst (λ (d : List Due). Knows a.state d a.t1 a.t4 w g) rests (call_knows writes job core start events)

    due : due_at a ≡ timer_since a.state w g
    due = ap (λ (d : List Due). if waits d then on_clock (allowed_from a.pace.last) else timer_of a.state a.t1 a.t4) rests ∙ timer_is a.state a.t1 a.t4 w g known
