-- A call in which nothing more is heard is over in time.
use Rattle.std.proofs.Common.{◌≡◌, ℕ, zero, suc, ◌+◌, ◌-◌, ◌*◌, ◌/◌, ◌<◌, ◌≤◌, nat_eq, nat_le, nat_lt, Bool, true, false, List, [], ◌∷◌, length, drop, take, replicate, Option, Some, None, Result, Ok, Err, ◌⊎◌, inl, inr, refl, sym, ◌∙◌, ap, subst, arith, length-drop, if◌then◌else◌}
use Rattle.std.specs.Prelude.{IsSome}
use Rattle.std.proofs.Math.Seq.{drop-drop}
use Rattle.std.proofs.lemmas.List.{length-replicate}
use Rattle.std.proofs.lemmas.Nat.{le-div, mul-le}
use Rattle.fax_runcodes.specs.declared.format.Format.{Format}
use Rattle.fax_frames.specs.declared.dis.Dis.{Dis}
use Rattle.fax_frames.specs.declared.dcs.Dcs.{Dcs}
use Rattle.fax_frames.specs.declared.rate.Rate.{Rate}
use Rattle.fax_frames.specs.declared.rate.Rate.TheVariants.{V27At2400, V27At4800, V29At7200, V29At9600, V17At7200, V17At9600, V17At12000, V17At14400}
use Rattle.fax_frames.specs.declared.frame.Frame.{Frame}
use Rattle.fax_frames.specs.declared.frame.Frame.TheVariants as frames
use Rattle.fax_frames.specs.declared.choice.Refusal.{Refusal}
use Rattle.fax_frames.specs.Choice.{choice}
use Rattle.fax_frames.specs.Frames.{frame_of}
use Rattle.fax_frames.specs.Rates.{bits_a_second, kind_of, training_of}
use Rattle.fax_timers.specs.Moments.{is_due}
use Rattle.fax_timers.specs.Paces.{pace_allows, allowed_from, packet_at}
use Rattle.fax_timers.specs.Spans as spans
use Rattle.fax_timers.proofs.DueMoments.{allows_is}
use Rattle.fax_ifp.specs.Pieces as pieces
use Rattle.fax_jobs.specs.declared.outcome.Outcome.{Outcome}
use Rattle.fax_jobs.specs.declared.outcome.Outcome.TheVariants as outcomes
use Rattle.fax_jobs.specs.Jobs.{JobValue}
use Rattle.fax_call.specs.declared.state.State.{State}
use Rattle.fax_call.specs.declared.state.State.TheVariants.{Idle, AwaitDis, AwaitCfr, AwaitMcf, Closing}
use Rattle.fax_call.specs.Writings.{Writing}
use Rattle.fax_call.specs.Replies.{Packet, Part, Due, One, Text, waits, signals_preamble, part_length, parts_of, check_length, training_check, training, command, command_after, goodbye, is_last_page, turn_after}
use Rattle.fax_call.specs.Table.{Counts, Move, Stays, Trains, Sends, AsksAgain, Turns, Closes, HangsUp, first_try, next_try, next_step, next_page, one_delivered, one_refused, most_tries, by_choice, tries_again, asks_again, turns_or, on_frame, gives_up_dis, on_timers}
use Rattle.fax_call.specs.Calls.{CallerCore, started, replied_with, moved, came, timed, text_at, TakenPart, taken, after_giving, TickResult, given_first, paced, ticked, CallEvent, Comes, Ticks, after_events}
use Rattle.fax_call.specs.Silence.{packet_time, time_of, last_tick, AllUntil, IsSilence, silent_time, NoCallHangs}

le_if : (m n : ℕ) → nat_le m n ≡ true → m ≤ n
le_if m n h = grind (arith)

pub gt_if : (m n : ℕ) → nat_le m n ≡ false → n < m
gt_if m n h = grind (arith)

pub lt_if : (m n : ℕ) → nat_lt m n ≡ true → m < n
lt_if m n h = grind (arith)

-- ---- WHAT IS KNOWN at a moment after all that came

abbrev pub SetBy : Option ℕ → ℕ → Type 0
SetBy None x = ⊥
SetBy (Some t) x = t ≤ x

abbrev pub TimelyState : (m : ℕ) → State → List Due → Option ℕ → Option ℕ → Option Outcome → Type 0
TimelyState m Idle [] t1 t4 o = IsSome o
TimelyState m Idle (d ∷ due) t1 t4 o = ⊥
TimelyState m AwaitDis due t1 t4 o = SetBy t1 (m + spans.t1)
TimelyState m (AwaitCfr dis dcs) [] t1 t4 o = SetBy t4 (m + spans.t4)
TimelyState m (AwaitCfr dis dcs) (d ∷ due) t1 t4 o = Unit {0}
TimelyState m (AwaitMcf dis dcs) [] t1 t4 o = SetBy t4 (m + spans.t4)
TimelyState m (AwaitMcf dis dcs) (d ∷ due) t1 t4 o = Unit {0}
TimelyState m (Closing x) [] t1 t4 o = ⊥
TimelyState m (Closing x) (d ∷ due) t1 t4 o = Unit {0}

pub record IsTimely (m : ℕ) (a : CallerCore) : Type 0 where
  pub pace : allowed_from a.pace.last ≤ m + spans.longest_pause
  pub state : TimelyState m a.state a.waiting a.t1 a.t4 a.outcome

set_later : (x y : ℕ) (t : Option ℕ) → x ≤ y → SetBy t x → SetBy t y
set_later x y None h s = s
set_later x y (Some t) h s = omega arith

state_later : (m n : ℕ) (s : State) (due : List Due) (t1 t4 : Option ℕ) (o : Option Outcome) → m ≤ n → TimelyState m s due t1 t4 o → TimelyState n s due t1 t4 o
state_later m n Idle [] t1 t4 o h k = k
state_later m n Idle (d ∷ due) t1 t4 o h k = k
state_later m n AwaitDis due t1 t4 o h k = set_later (m + spans.t1) (n + spans.t1) t1 (omega arith) k
state_later m n (AwaitCfr dis dcs) [] t1 t4 o h k = set_later (m + spans.t4) (n + spans.t4) t4 (omega arith) k
state_later m n (AwaitCfr dis dcs) (d ∷ due) t1 t4 o h k = tt
state_later m n (AwaitMcf dis dcs) [] t1 t4 o h k = set_later (m + spans.t4) (n + spans.t4) t4 (omega arith) k
state_later m n (AwaitMcf dis dcs) (d ∷ due) t1 t4 o h k = tt
state_later m n (Closing x) [] t1 t4 o h k = k
state_later m n (Closing x) (d ∷ due) t1 t4 o h k = tt

pub later : (m n : ℕ) (a : CallerCore) → m ≤ n → IsTimely m a → IsTimely n a
later m n a h k =
    let p : allowed_from a.pace.last ≤ m + spans.longest_pause = k.pace in
    record { pace = omega arith; state = state_later m n a.state a.waiting a.t1 a.t4 a.outcome h k.state }

-- a move
abbrev AsksOf : State → Type 0
AsksOf (AwaitMcf dis dcs) = Unit {0}
AsksOf s = ⊥

abbrev MoveTimely : (m : ℕ) → State → Move → Type 0
MoveTimely m s (AsksAgain c) = AsksOf s
MoveTimely m s (Turns format t1 c) = t1 ≤ m + spans.t1
MoveTimely m s move = Unit {0}

moved_timely : (m : ℕ) (a : CallerCore) (move : Move) → IsTimely m a → MoveTimely m a.state move → IsTimely m (moved a move)
moved_timely m a Stays k h = k
moved_timely m a (Trains dis dcs c) k h = record { pace = k.pace; state = tt }
moved_timely m a (Sends dis dcs c) k h = record { pace = k.pace; state = tt }
moved_timely m a (AsksAgain c) k h = record { pace = k.pace; state = by a.state h }
  where
    by : (s : State) → AsksOf s → TimelyState m s (command (command_after a.formats a.pages c.page)) None None a.outcome
    by (AwaitMcf dis dcs) g = tt
    by Idle g = absurd g
    by AwaitDis g = absurd g
    by (AwaitCfr dis dcs) g = absurd g
    by (Closing x) g = absurd g
moved_timely m a (Turns format t1 c) k h = record { pace = k.pace; state = h }
moved_timely m a (Closes outcome c) k h = record { pace = k.pace; state = tt }
moved_timely m a HangsUp k h = record { pace = k.pace; state = refl }

if_timely : (m : ℕ) (s : State) (t : Bool) (x y : Move) → MoveTimely m s x → MoveTimely m s y → MoveTimely m s (if t then x else y)
if_timely m s true x y h k = h
if_timely m s false x y h k = k

choice_timely : (m : ℕ) (s : State) (dis : Dis) (c : Counts) (r : Result Dcs Refusal) → MoveTimely m s (by_choice dis c r)
choice_timely m s dis c (Ok dcs) = tt
choice_timely m s dis c (Err e) = tt

turns_timely : (m now : ℕ) (s : State) (turn : Option Format) (c : Counts) (x : Move) → now ≤ m → MoveTimely m s x → MoveTimely m s (turns_or now turn c x)
turns_timely m now s (Some format) c x h k = omega arith
turns_timely m now s None c x h k = k

frame_timely : (m now : ℕ) (format : Format) (turn : Option Format) (pages : ℕ) (s : State) (c : Counts) (frame : Option Frame) → now ≤ m → MoveTimely m s (on_frame now format turn pages s c frame)
frame_timely m now format turn pages AwaitDis c (Some (frames.Dis dis)) h = choice_timely m AwaitDis dis (first_try c) (choice dis format c.step)
frame_timely m now format turn pages AwaitDis c (Some frames.Dcn) h = tt
frame_timely m now format turn pages (AwaitCfr dis dcs) c (Some frames.Cfr) h = tt
frame_timely m now format turn pages (AwaitCfr dis dcs) c (Some frames.Ftt) h = choice_timely m (AwaitCfr dis dcs) dis (next_step c) (choice dis format (c.step + 1))
frame_timely m now format turn pages (AwaitCfr dis dcs) c (Some (frames.Dis other)) h =
    if_timely m (AwaitCfr dis dcs) (nat_lt c.tries most_tries) (Trains dis dcs (next_try c)) (Closes outcomes.NoReply c) tt tt
frame_timely m now format turn pages (AwaitCfr dis dcs) c (Some frames.Dcn) h = tt
frame_timely m now format turn pages (AwaitMcf dis dcs) c (Some frames.Mcf) h =
    if_timely m (AwaitMcf dis dcs) (is_last_page pages c.page) (Closes outcomes.Delivered (one_delivered c)) (turns_or now turn c (Sends dis dcs (next_page c))) tt
    (turns_timely m now (AwaitMcf dis dcs) turn c (Sends dis dcs (next_page c)) h tt)
frame_timely m now format turn pages (AwaitMcf dis dcs) c (Some frames.Rtp) h =
    if_timely m (AwaitMcf dis dcs) (is_last_page pages c.page) (Closes outcomes.Delivered (one_delivered c)) (turns_or now turn c (Trains dis dcs (next_page c))) tt
    (turns_timely m now (AwaitMcf dis dcs) turn c (Trains dis dcs (next_page c)) h tt)
frame_timely m now format turn pages (AwaitMcf dis dcs) c (Some frames.Rtn) h =
    if_timely m (AwaitMcf dis dcs) (nat_lt c.refused 2) (Trains dis dcs (one_refused c)) (Closes outcomes.PageRefused c) tt tt
frame_timely m now format turn pages (AwaitMcf dis dcs) c (Some frames.Dcn) h = tt
frame_timely m now format turn pages s c frame h = tt

timers_timely : (m : ℕ) (x y : Bool) (s : State) (c : Counts) → MoveTimely m s (on_timers x y s c)
timers_timely m x y Idle c = tt
timers_timely m x y (Closing outcome) c = tt
timers_timely m true y AwaitDis c = tt
timers_timely m false y AwaitDis c = tt
timers_timely m x true (AwaitCfr dis dcs) c = if_timely m (AwaitCfr dis dcs) (nat_lt c.tries most_tries) (Trains dis dcs (next_try c)) (Closes outcomes.NoReply c) tt tt
timers_timely m x false (AwaitCfr dis dcs) c = tt
timers_timely m x true (AwaitMcf dis dcs) c = if_timely m (AwaitMcf dis dcs) (nat_lt c.tries most_tries) (AsksAgain (next_try c)) (Closes outcomes.NoReply c) tt tt
timers_timely m x false (AwaitMcf dis dcs) c = tt

pub came_timely : (m : ℕ) (a : CallerCore) (piece : pieces.Piece) (now : ℕ) → now ≤ m → IsTimely m a → IsTimely m (came a piece now)
came_timely m a (pieces.Frame octets) now h k =
    moved_timely m a _ k (if_timely m a.state (waits a.waiting) Stays (on_frame now a.format (turn_after a.formats a.counts.page) a.pages a.state a.counts (frame_of octets)) tt
    (frame_timely m now a.format (turn_after a.formats a.counts.page) a.pages a.state a.counts (frame_of octets) h))
came_timely m a (pieces.Start k) now h t = t
came_timely m a (pieces.Octets os) now h t = t
came_timely m a (pieces.End w) now h t = t
came_timely m a pieces.Gap now h t = t

timed_timely : (m : ℕ) (a : CallerCore) (now : ℕ) → IsTimely m a → IsTimely m (timed a now)
timed_timely m a now k =
    moved_timely m a _ k (if_timely m a.state (waits a.waiting) Stays (on_timers (is_due a.t1 now) (is_due a.t4 now) a.state a.counts) tt
    (timers_timely m (is_due a.t1 now) (is_due a.t4 now) a.state a.counts))

-- a packet that is given
pub span_most : (is_preamble : Bool) (pause now : ℕ) → (packet_at is_preamble pause now).span ≤ (if is_preamble then spans.longest_pause else spans.pace)
span_most true pause now = omega arith
span_most false pause now = omega arith

pub span_long : (is_preamble : Bool) → (if is_preamble then spans.longest_pause else spans.pace) ≤ spans.longest_pause
span_long true = omega arith
span_long false = omega arith

allowed_after : (m now pause : ℕ) (is_preamble : Bool) → now ≤ m → now + (packet_at is_preamble pause now).span ≤ m + spans.longest_pause
allowed_after m now pause is_preamble h =
    let s : (packet_at is_preamble pause now).span ≤ (if is_preamble then spans.longest_pause else spans.pace) = span_most is_preamble pause now in
    let l : (if is_preamble then spans.longest_pause else spans.pace) ≤ spans.longest_pause = span_long is_preamble in
    omega arith

abbrev pub put : CallerCore → State → List Due → Option ℕ → Option ℕ → CallerCore
put a s due t1 t4 = record a { state = s; waiting = due; t1 = t1; t4 = t4 }

given_timely : (m now : ℕ) (a : CallerCore) (s : State) (d : Due) (due rest : List Due) (t1 t4 : Option ℕ) (packet : Packet) → now ≤ m
    → IsTimely m (put a s (d ∷ due) t1 t4) → IsTimely m (after_giving (put a s (d ∷ due) t1 t4) now packet rest)
given_timely m now a s d due rest t1 t4 packet h k = by s rest k.state
  where
    next : now + (packet_at (signals_preamble packet) a.pace.pause now).span ≤ m + spans.longest_pause
    next = allowed_after m now a.pace.pause (signals_preamble packet) h

    by : (s : State) (rest : List Due) → TimelyState m s (d ∷ due) t1 t4 a.outcome → IsTimely m (after_giving (put a s (d ∷ due) t1 t4) now packet rest)
    by Idle rest g = absurd g
    by AwaitDis [] g = record { pace = next; state = g }
    by AwaitDis (r ∷ rest) g = record { pace = next; state = g }
    by (AwaitCfr dis dcs) [] g = record { pace = next; state = omega arith }
    by (AwaitCfr dis dcs) (r ∷ rest) g = record { pace = next; state = tt }
    by (AwaitMcf dis dcs) [] g = record { pace = next; state = omega arith }
    by (AwaitMcf dis dcs) (r ∷ rest) g = record { pace = next; state = tt }
    by (Closing x) [] g = record { pace = next; state = refl }
    by (Closing x) (r ∷ rest) g = record { pace = next; state = tt }

paced_timely : (m now : ℕ) (writes : Writing) (job : JobValue) (a : CallerCore) → now ≤ m → IsTimely m a → IsTimely m (paced writes job a now).core
paced_timely m now writes job a h k = by (pace_allows a.pace.last now) a.waiting k
  where
    by : (t : Bool) (due : List Due) → IsTimely m (put a a.state due a.t1 a.t4)
        → IsTimely m (if◌then◌else◌ {A = TickResult} t (given_first writes job (put a a.state due a.t1 a.t4) now due) (record { core = put a a.state due a.t1 a.t4; given = None })).core
    by true [] g = g
    by true (d ∷ due) g = given_timely m now a a.state d due (taken writes job d due).rest a.t1 a.t4 (taken writes job d due).packet h g
    by false due g = g

pub ticked_timely : (m now : ℕ) (writes : Writing) (job : JobValue) (a : CallerCore) → now ≤ m → IsTimely m a → IsTimely m (ticked writes job a now).core
ticked_timely m now writes job a h k = paced_timely m now writes job (timed a now) h (timed_timely m a now k)

-- ---- A CALL, until the silence

pub until_timely : (writes : Writing) (job : JobValue) (core : CallerCore) (start from : ℕ) (events : List CallEvent) → allowed_from core.pace.last ≤ start + spans.longest_pause → start ≤ from
    → AllUntil from events → IsTimely from (after_events writes job (started core job start) events)
until_timely writes job core start from [] p s u = record { pace = omega arith; state = omega arith }
until_timely writes job core start from (Comes piece now ∷ before) p s u =
    came_timely from (after_events writes job (started core job start) before) piece now u.0 (until_timely writes job core start from before p s u.1)
until_timely writes job core start from (Ticks now ∷ before) p s u =
    ticked_timely from now writes job (after_events writes job (started core job start) before) u.0 (until_timely writes job core start from before p s u.1)

-- ---- THE TIME OF WHAT WAITS

one_part_less : (n p u : ℕ) → 0 < p → p ≤ n → ((n - p) / p + 1) * u + u ≤ (n / p + 1) * u
one_part_less n p u some long =
    let q : ((n - p) / p + 1) * p ≤ n = omega arith in
    let less : (n - p) / p + 1 ≤ n / p = le-div ((n - p) / p + 1) n p some q in
    let most : ((n - p) / p + 1) * u ≤ (n / p) * u = mul-le ((n - p) / p + 1) u (n / p) u less (omega arith) in
    omega arith

one_part : (n p u : ℕ) → u ≤ (n / p + 1) * u
one_part n p u = omega arith

part_some : (rate : Rate) → 0 < bits_a_second rate / 200
part_some V27At2400 = omega arith
part_some V27At4800 = omega arith
part_some V29At7200 = omega arith
part_some V29At9600 = omega arith
part_some V17At7200 = omega arith
part_some V17At9600 = omega arith
part_some V17At12000 = omega arith
part_some V17At14400 = omega arith

few_parts : (rate : Rate) → (bits_a_second rate * 3 / 16) / (bits_a_second rate / 200) ≤ 37
few_parts V27At2400 = omega arith
few_parts V27At4800 = omega arith
few_parts V29At7200 = omega arith
few_parts V29At9600 = omega arith
few_parts V17At7200 = omega arith
few_parts V17At9600 = omega arith
few_parts V17At12000 = omega arith
few_parts V17At14400 = omega arith

taken_text_time : (writes : Writing) (job : JobValue) (gap page : ℕ) (dcs : Dcs) (from : ℕ) (due : List Due) →
    let t : TakenPart = taken writes job (Text page dcs from) due in
    time_of writes job gap t.rest + packet_time gap t.packet ≤ time_of writes job gap (Text page dcs from ∷ due)
taken_text_time writes job gap page dcs from due = by (nat_le n p) refl
  where
    text : List ℕ
    text = text_at writes job page dcs

    n : ℕ
    n = length (drop from text)

    p : ℕ
    p = part_length dcs

    u : ℕ
    u = gap + spans.pace

    left : length (drop (from + p) text) ≡ n - p
    left = ap length (sym (drop-drop p from text)) ∙ length-drop p (drop from text)

    by : (b : Bool) → nat_le n p ≡ b →
        let t : TakenPart = if◌then◌else◌ {A = TakenPart} b (record { packet = Part (kind_of dcs.rate) true (drop from text); rest = due }) (record { packet = Part (kind_of dcs.rate) false (take p (drop from text)); rest = Text page dcs (from + p) ∷ due }) in
        time_of writes job gap t.rest + packet_time gap t.packet ≤ (n / p + 1) * u + time_of writes job gap due
    by true e = let o : u ≤ (n / p + 1) * u = one_part n p u in omega arith
    by false e =
        let o : ((n - p) / p + 1) * u + u ≤ (n / p + 1) * u = one_part_less n p u (part_some dcs.rate) (let g : p < n = gt_if n p e in omega arith) in
        let m : (length (drop (from + p) text) / p + 1) * u ≡ ((n - p) / p + 1) * u = ap (λ (k : ℕ). (k / p + 1) * u) left in
        omega arith

pub taken_time : (writes : Writing) (job : JobValue) (gap : ℕ) (d : Due) (due : List Due) →
    time_of writes job gap (taken writes job d due).rest + packet_time gap (taken writes job d due).packet ≤ time_of writes job gap (d ∷ due)
taken_time writes job gap (One packet) due = omega arith
taken_time writes job gap (Text page dcs from) due = taken_text_time writes job gap page dcs from due

parts_time : (writes : Writing) (job : JobValue) (gap most kind n : ℕ) (octets : List ℕ) → 0 < n →
    time_of writes job gap (parts_of most kind n octets) ≤ (length octets / n + 1) * (gap + spans.pace)
parts_time writes job gap zero kind n octets some = omega arith
parts_time writes job gap (suc most) kind n octets some = by (parts_time writes job gap most kind n (drop n octets) some) (nat_le (length octets) n) refl
  where
    u : ℕ
    u = gap + spans.pace

    by : time_of writes job gap (parts_of most kind n (drop n octets)) ≤ (length (drop n octets) / n + 1) * u → (b : Bool) → nat_le (length octets) n ≡ b →
        time_of writes job gap (if b then One (Part kind true octets) ∷ [] else One (Part kind false (take n octets)) ∷ parts_of most kind n (drop n octets)) ≤ (length octets / n + 1) * u
    by i true e = let o : u ≤ (length octets / n + 1) * u = one_part (length octets) n u in omega arith
    by i false e =
        let m : (length (drop n octets) / n + 1) * u ≡ ((length octets - n) / n + 1) * u = ap (λ (k : ℕ). (k / n + 1) * u) (length-drop n octets) in
        let o : ((length octets - n) / n + 1) * u + u ≤ (length octets / n + 1) * u = one_part_less (length octets) n u some (let g : n < length octets = gt_if (length octets) n e in omega arith) in
        omega arith

abbrev pub training_time : ℕ → ℕ
training_time gap = 3600 + 41 * gap

abbrev pub goodbye_time : ℕ → ℕ
goodbye_time gap = 2040 + 2 * gap

check_time : (writes : Writing) (job : JobValue) (gap : ℕ) (dcs : Dcs) → time_of writes job gap (training_check dcs) ≤ 38 * (gap + spans.pace)
unfolding training_check
check_time writes job gap dcs =
    let k : ℕ = check_length dcs in
    let p : ℕ = part_length dcs in
    let u : ℕ = gap + spans.pace in
    let t : time_of writes job gap (parts_of k (kind_of dcs.rate) p (replicate k 0)) ≤ (length (replicate {A = ℕ} k 0) / p + 1) * u = parts_time writes job gap k (kind_of dcs.rate) p (replicate k 0) (part_some dcs.rate) in
    let l : (length (replicate {A = ℕ} k 0) / p + 1) * u ≡ (k / p + 1) * u = ap (λ (n : ℕ). (n / p + 1) * u) (length-replicate k 0) in
    let f : k / p + 1 ≤ 38 = let few : k / p ≤ 37 = few_parts dcs.rate in omega arith in
    let m : (k / p + 1) * u ≤ 38 * u = mul-le (k / p + 1) u 38 u f (omega arith) in
    omega arith

indicator_time : (gap : ℕ) (rate : Rate) → packet_time gap (Rattle.fax_call.specs.Replies.Signals (training_of rate true)) ≡ gap + spans.pace
indicator_time gap V27At2400 = refl
indicator_time gap V27At4800 = refl
indicator_time gap V29At7200 = refl
indicator_time gap V29At9600 = refl
indicator_time gap V17At7200 = refl
indicator_time gap V17At9600 = refl
indicator_time gap V17At12000 = refl
indicator_time gap V17At14400 = refl

pub trained_time : (writes : Writing) (job : JobValue) (gap : ℕ) (dcs : Dcs) → time_of writes job gap (training dcs) ≤ training_time gap
trained_time writes job gap dcs =
    let c : time_of writes job gap (training_check dcs) ≤ 38 * (gap + spans.pace) = check_time writes job gap dcs in
    let i : packet_time gap (Rattle.fax_call.specs.Replies.Signals (training_of dcs.rate true)) ≡ gap + spans.pace = indicator_time gap dcs.rate in
    omega arith

-- ---- THE TIME THAT IS NEEDED from a moment on, at most

abbrev pub left_of : Option ℕ → (m : ℕ) → ℕ
left_of None m = 0
left_of (Some t) m = t - m

abbrev again : (gap : ℕ) → (tries : ℕ) → ℕ
again gap zero = 0
again gap (suc n) = training_time gap + spans.t4 + again gap n

abbrev tries_time : (gap : ℕ) → Counts → ℕ
tries_time gap c = again gap (3 - c.tries) + goodbye_time gap

abbrev after : (gap : ℕ) → State → Counts → List Due → Option ℕ → Option ℕ → (m : ℕ) → ℕ
after gap Idle c due t1 t4 m = 0
after gap (Closing x) c due t1 t4 m = 0
after gap AwaitDis c due t1 t4 m = left_of t1 m + goodbye_time gap
after gap (AwaitCfr dis dcs) c [] t1 t4 m = left_of t4 m + tries_time gap c
after gap (AwaitCfr dis dcs) c (d ∷ due) t1 t4 m = spans.t4 + tries_time gap c
after gap (AwaitMcf dis dcs) c [] t1 t4 m = left_of t4 m + tries_time gap c
after gap (AwaitMcf dis dcs) c (d ∷ due) t1 t4 m = spans.t4 + tries_time gap c

abbrev needed : Writing → JobValue → (gap : ℕ) → CallerCore → (m : ℕ) → ℕ
needed writes job gap a m = allowed_from a.pace.last - m + time_of writes job gap a.waiting + after gap a.state a.counts a.waiting a.t1 a.t4 m

-- over, or within a moment
abbrev Goes : Writing → JobValue → (gap : ℕ) → (x : ℕ) → CallerCore → (now : ℕ) → Type 0
Goes writes job gap x b now = (b.state ≡ Idle) ⊎ (needed writes job gap b now + now ≤ x)

goes_most : (writes : Writing) (job : JobValue) (gap x y : ℕ) (b : CallerCore) (now : ℕ) → x ≤ y → Goes writes job gap x b now → Goes writes job gap y b now
goes_most writes job gap x y b now h (inl e) = inl e
goes_most writes job gap x y b now h (inr k) = inr (omega arith)

pub left_falls : (t : Option ℕ) (m now : ℕ) → m ≤ now → left_of t now ≤ left_of t m
left_falls None m now h = omega arith
left_falls (Some t) m now h = omega arith

after_falls : (gap : ℕ) (s : State) (c : Counts) (d r : Due) (due rest : List Due) (t1 t4 : Option ℕ) (m now : ℕ) → m ≤ now
    → after gap s c (r ∷ rest) t1 t4 now ≤ after gap s c (d ∷ due) t1 t4 m
after_falls gap Idle c d r due rest t1 t4 m now h = omega arith
after_falls gap (Closing x) c d r due rest t1 t4 m now h = omega arith
after_falls gap AwaitDis c d r due rest t1 t4 m now h = let l : left_of t1 now ≤ left_of t1 m = left_falls t1 m now h in omega arith
after_falls gap (AwaitCfr dis dcs) c d r due rest t1 t4 m now h = omega arith
after_falls gap (AwaitMcf dis dcs) c d r due rest t1 t4 m now h = omega arith

-- A PACKET IS GIVEN
given_goes : (writes : Writing) (job : JobValue) (gap x m now : ℕ) (a : CallerCore) (s : State) (d : Due) (due rest : List Due) (t1 t4 : Option ℕ) (packet : Packet) → m ≤ now → now ≤ m + gap
    → time_of writes job gap rest + packet_time gap packet ≤ x
    → Goes writes job gap (x + after gap s a.counts (d ∷ due) t1 t4 m + m) (after_giving (put a s (d ∷ due) t1 t4) now packet rest) now
given_goes writes job gap x m now a s d due rest t1 t4 packet h k t = by s rest t
  where
    span : (packet_at (signals_preamble packet) a.pace.pause now).span ≤ (if signals_preamble packet then spans.longest_pause else spans.pace)
    span = span_most (signals_preamble packet) a.pace.pause now

    by : (s : State) (rest : List Due) → time_of writes job gap rest + packet_time gap packet ≤ x
        → Goes writes job gap (x + after gap s a.counts (d ∷ due) t1 t4 m + m) (after_giving (put a s (d ∷ due) t1 t4) now packet rest) now
    by s (r ∷ rest) t =
        let f : after gap s a.counts (r ∷ rest) t1 t4 now ≤ after gap s a.counts (d ∷ due) t1 t4 m = after_falls gap s a.counts d r due rest t1 t4 m now h in
        let w : (packet_at (signals_preamble packet) a.pace.pause now).span ≤ (if signals_preamble packet then spans.longest_pause else spans.pace) = span in
        inr (omega arith)
    by Idle [] t = inl refl
    by (Closing o) [] t = inl refl
    by AwaitDis [] t =
        let f : left_of t1 now ≤ left_of t1 m = left_falls t1 m now h in
        let w : (packet_at (signals_preamble packet) a.pace.pause now).span ≤ (if signals_preamble packet then spans.longest_pause else spans.pace) = span in
        inr (omega arith)
    by (AwaitCfr dis dcs) [] t =
        let w : (packet_at (signals_preamble packet) a.pace.pause now).span ≤ (if signals_preamble packet then spans.longest_pause else spans.pace) = span in
        inr (omega arith)
    by (AwaitMcf dis dcs) [] t =
        let w : (packet_at (signals_preamble packet) a.pace.pause now).span ≤ (if signals_preamble packet then spans.longest_pause else spans.pace) = span in
        inr (omega arith)

-- WHILE PACKETS WAIT
paced_goes : (writes : Writing) (job : JobValue) (gap m now : ℕ) (a : CallerCore) (s : State) (d : Due) (due : List Due) (t1 t4 : Option ℕ) → m ≤ now → now ≤ m + gap
    → Goes writes job gap (needed writes job gap (put a s (d ∷ due) t1 t4) m + m) (paced writes job (put a s (d ∷ due) t1 t4) now).core now
paced_goes writes job gap m now a s d due t1 t4 h k = by (pace_allows a.pace.last now) (sym (allows_is a.pace.last now))
  where
    by : (t : Bool) → nat_le (allowed_from a.pace.last) now ≡ t
        → Goes writes job gap (needed writes job gap (put a s (d ∷ due) t1 t4) m + m)
        (if◌then◌else◌ {A = TickResult} t (given_first writes job (put a s (d ∷ due) t1 t4) now (d ∷ due)) (record { core = put a s (d ∷ due) t1 t4; given = None })).core now
    by true e =
        let x : ℕ = time_of writes job gap (d ∷ due) in
        goes_most writes job gap (x + after gap s a.counts (d ∷ due) t1 t4 m + m) (needed writes job gap (put a s (d ∷ due) t1 t4) m + m)
        (after_giving (put a s (d ∷ due) t1 t4) now (taken writes job d due).packet (taken writes job d due).rest) now (omega arith)
        (given_goes writes job gap x m now a s d due (taken writes job d due).rest t1 t4 (taken writes job d due).packet h k (taken_time writes job gap d due))
    by false e =
        let l : now < allowed_from a.pace.last = gt_if (allowed_from a.pace.last) now e in
        let f : after gap s a.counts (d ∷ due) t1 t4 now ≤ after gap s a.counts (d ∷ due) t1 t4 m = after_falls gap s a.counts d d due due t1 t4 m now h in
        inr (omega arith)

-- WHERE NO PACKET WAITS, and no timer is due
rests_goes : (writes : Writing) (job : JobValue) (gap x m now : ℕ) (a : CallerCore) (s : State) (t1 t4 : Option ℕ) → needed writes job gap (put a s [] t1 t4) now + now ≤ x
    → Goes writes job gap x (paced writes job (put a s [] t1 t4) now).core now
rests_goes writes job gap x m now a s t1 t4 h = by (pace_allows a.pace.last now)
  where
    by : (t : Bool) → Goes writes job gap x (if◌then◌else◌ {A = TickResult} t (given_first writes job (put a s [] t1 t4) now []) (record { core = put a s [] t1 t4; given = None })).core now
    by true = inr h
    by false = inr h

-- and where one is
acts_goes : (writes : Writing) (job : JobValue) (gap x m now : ℕ) (a : CallerCore) (s : State) (c : Counts) (due : List Due) → waits due ≡ true → m ≤ now → now ≤ m + gap
    → needed writes job gap (replied_with a s c due) m + m ≤ x
    → Goes writes job gap x (paced writes job (replied_with a s c due) now).core now
acts_goes writes job gap x m now a s c [] some h k l = cc
acts_goes writes job gap x m now a s c (d ∷ due) some h k l =
    goes_most writes job gap (needed writes job gap (replied_with a s c (d ∷ due)) m + m) x (paced writes job (replied_with a s c (d ∷ due)) now).core now l
    (paced_goes writes job gap m now (record a { counts = c }) s d due None None h k)

tries_less : (gap tries : ℕ) → tries < 3 → again gap (3 - tries) ≡ training_time gap + spans.t4 + again gap (3 - (tries + 1))
tries_less gap tries h = let e : 3 - tries ≡ suc (3 - (tries + 1)) = omega arith in ap (again gap) e

-- T4 is due in Await CFR
trains_goes : (writes : Writing) (job : JobValue) (gap x m now : ℕ) (a : CallerCore) (dis : Dis) (dcs : Dcs) → m ≤ now → now ≤ m + gap
    → allowed_from a.pace.last - m + tries_time gap a.counts + m ≤ x
    → Goes writes job gap x (paced writes job (moved a (tries_again dis dcs a.counts)) now).core now
trains_goes writes job gap x m now a dis dcs h k l = by (nat_lt a.counts.tries most_tries) refl
  where
    by : (t : Bool) → nat_lt a.counts.tries most_tries ≡ t → Goes writes job gap x (paced writes job (moved a (if t then Trains dis dcs (next_try a.counts) else Closes outcomes.NoReply a.counts)) now).core now
    by true e =
        let some : a.counts.tries < 3 = lt_if a.counts.tries most_tries e in
        let less : again gap (3 - a.counts.tries) ≡ training_time gap + spans.t4 + again gap (3 - (a.counts.tries + 1)) = tries_less gap a.counts.tries some in
        let time : time_of writes job gap (training dcs) ≤ training_time gap = trained_time writes job gap dcs in
        acts_goes writes job gap x m now a (AwaitCfr dis dcs) (next_try a.counts) (training dcs) refl h k (omega arith)
    by false e = acts_goes writes job gap x m now a (Closing outcomes.NoReply) a.counts goodbye refl h k (omega arith)

-- T4 is due in Await MCF
asks_goes : (writes : Writing) (job : JobValue) (gap x m now : ℕ) (a : CallerCore) (dis : Dis) (dcs : Dcs) (t1 t4 : Option ℕ) → m ≤ now → now ≤ m + gap
    → allowed_from a.pace.last - m + tries_time gap a.counts + m ≤ x
    → Goes writes job gap x (paced writes job (moved (put a (AwaitMcf dis dcs) [] t1 t4) (asks_again a.counts)) now).core now
asks_goes writes job gap x m now a dis dcs t1 t4 h k l = by (nat_lt a.counts.tries most_tries) refl
  where
    by : (t : Bool) → nat_lt a.counts.tries most_tries ≡ t
        → Goes writes job gap x (paced writes job (moved (put a (AwaitMcf dis dcs) [] t1 t4) (if t then AsksAgain (next_try a.counts) else Closes outcomes.NoReply a.counts)) now).core now
    by true e =
        let some : a.counts.tries < 3 = lt_if a.counts.tries most_tries e in
        let less : again gap (3 - a.counts.tries) ≡ training_time gap + spans.t4 + again gap (3 - (a.counts.tries + 1)) = tries_less gap a.counts.tries some in
        acts_goes writes job gap x m now a (AwaitMcf dis dcs) (next_try a.counts) (command (command_after a.formats a.pages a.counts.page)) refl h k (omega arith)
    by false e = acts_goes writes job gap x m now a (Closing outcomes.NoReply) a.counts goodbye refl h k (omega arith)

-- A TICK
tick_goes : (writes : Writing) (job : JobValue) (gap m now : ℕ) (a : CallerCore) (s : State) (due : List Due) (t1 t4 : Option ℕ) → m ≤ now → now ≤ m + gap
    → TimelyState m s due t1 t4 a.outcome → Goes writes job gap (needed writes job gap (put a s due t1 t4) m + m) (ticked writes job (put a s due t1 t4) now).core now
tick_goes writes job gap m now a s (d ∷ due) t1 t4 h k g = paced_goes writes job gap m now a s d due t1 t4 h k
tick_goes writes job gap m now a Idle [] t1 t4 h k g = by (pace_allows a.pace.last now)
  where
    by : (t : Bool) → Goes writes job gap (needed writes job gap (put a Idle [] t1 t4) m + m)
        (if◌then◌else◌ {A = TickResult} t (given_first writes job (put a Idle [] t1 t4) now []) (record { core = put a Idle [] t1 t4; given = None })).core now
    by true = inl refl
    by false = inl refl
tick_goes writes job gap m now a (Closing x) [] t1 t4 h k g = absurd g
tick_goes writes job gap m now a AwaitDis [] None t4 h k g = absurd g
tick_goes writes job gap m now a AwaitDis [] (Some t) t4 h k g = by (nat_le t now) refl
  where
    by : (b : Bool) → nat_le t now ≡ b → Goes writes job gap (needed writes job gap (put a AwaitDis [] (Some t) t4) m + m)
        (paced writes job (moved (put a AwaitDis [] (Some t) t4) (if b then gives_up_dis a.counts else Stays)) now).core now
    by true e = acts_goes writes job gap (needed writes job gap (put a AwaitDis [] (Some t) t4) m + m) m now a (Closing (if nat_eq a.counts.delivered 0 then outcomes.NoAnswer else outcomes.NoReply)) a.counts goodbye refl h k (omega arith)
    by false e = let l : now < t = gt_if t now e in rests_goes writes job gap (needed writes job gap (put a AwaitDis [] (Some t) t4) m + m) m now a AwaitDis (Some t) t4 (omega arith)
tick_goes writes job gap m now a (AwaitCfr dis dcs) [] t1 None h k g = absurd g
tick_goes writes job gap m now a (AwaitCfr dis dcs) [] t1 (Some t) h k g = by (nat_le t now) refl
  where
    by : (b : Bool) → nat_le t now ≡ b → Goes writes job gap (needed writes job gap (put a (AwaitCfr dis dcs) [] t1 (Some t)) m + m)
        (paced writes job (moved (put a (AwaitCfr dis dcs) [] t1 (Some t)) (if b then tries_again dis dcs a.counts else Stays)) now).core now
    by true e = trains_goes writes job gap (needed writes job gap (put a (AwaitCfr dis dcs) [] t1 (Some t)) m + m) m now (put a (AwaitCfr dis dcs) [] t1 (Some t)) dis dcs h k (omega arith)
    by false e = let l : now < t = gt_if t now e in rests_goes writes job gap (needed writes job gap (put a (AwaitCfr dis dcs) [] t1 (Some t)) m + m) m now a (AwaitCfr dis dcs) t1 (Some t) (omega arith)
tick_goes writes job gap m now a (AwaitMcf dis dcs) [] t1 None h k g = absurd g
tick_goes writes job gap m now a (AwaitMcf dis dcs) [] t1 (Some t) h k g = by (nat_le t now) refl
  where
    by : (b : Bool) → nat_le t now ≡ b → Goes writes job gap (needed writes job gap (put a (AwaitMcf dis dcs) [] t1 (Some t)) m + m)
        (paced writes job (moved (put a (AwaitMcf dis dcs) [] t1 (Some t)) (if b then asks_again a.counts else Stays)) now).core now
    by true e = asks_goes writes job gap (needed writes job gap (put a (AwaitMcf dis dcs) [] t1 (Some t)) m + m) m now a dis dcs t1 (Some t) h k (omega arith)
    by false e = let l : now < t = gt_if t now e in rests_goes writes job gap (needed writes job gap (put a (AwaitMcf dis dcs) [] t1 (Some t)) m + m) m now a (AwaitMcf dis dcs) t1 (Some t) (omega arith)

-- ---- THE SILENCE

record IsWithin (writes : Writing) (job : JobValue) (gap x m : ℕ) (a : CallerCore) : Type 0 where
  timely : IsTimely m a
  goes : Goes writes job gap x a m

-- a call that is over stays so
pub idle_stays : (writes : Writing) (job : JobValue) (now m : ℕ) (a : CallerCore) → IsTimely m a → a.state ≡ Idle → (ticked writes job a now).core.state ≡ Idle
idle_stays writes job now m a k e = by a.state a.waiting e (k.state) (pace_allows a.pace.last now)
  where
    by : (s : State) (due : List Due) → s ≡ Idle → TimelyState m s due a.t1 a.t4 a.outcome → Bool → (ticked writes job (put a s due a.t1 a.t4) now).core.state ≡ Idle
    by Idle [] q g t = two (pace_allows a.pace.last now)
      where
        two : (t : Bool) → (if◌then◌else◌ {A = TickResult} t (given_first writes job (put a Idle [] a.t1 a.t4) now []) (record { core = put a Idle [] a.t1 a.t4; given = None })).core.state ≡ Idle
        two true = refl
        two false = refl
    by Idle (d ∷ due) q g t = absurd g
    by AwaitDis due q g t = cc
    by (AwaitCfr dis dcs) due q g t = cc
    by (AwaitMcf dis dcs) due q g t = cc
    by (Closing x) due q g t = cc

ticked_within : (writes : Writing) (job : JobValue) (gap x m now : ℕ) (a : CallerCore) → m ≤ now → now ≤ m + gap → IsWithin writes job gap x m a
    → IsWithin writes job gap x now (ticked writes job a now).core
ticked_within writes job gap x m now a h k w =
    record { timely = ticked_timely now now writes job a (omega arith) (later m now a h w.timely); goes = by w.goes }
  where
    by : Goes writes job gap x a m → Goes writes job gap x (ticked writes job a now).core now
    by (inl e) = inl (idle_stays writes job now m a w.timely e)
    by (inr n) =
        goes_most writes job gap (needed writes job gap a m + m) x (ticked writes job a now).core now n
        (tick_goes writes job gap m now a a.state a.waiting a.t1 a.t4 h k w.timely.state)

silent_within : (writes : Writing) (job : JobValue) (a : CallerCore) (gap x from : ℕ) (silence : List CallEvent) → IsWithin writes job gap x from a → IsSilence writes job a gap from silence
    → IsWithin writes job gap x (last_tick from silence) (after_events writes job a silence)
silent_within writes job a gap x from [] w s = w
silent_within writes job a gap x from (Comes piece now ∷ silence) w s =
    let b : CallerCore = after_events writes job a silence in
    subst (λ (move : Move). IsWithin writes job gap x (last_tick from silence) (moved b move)) (sym s.0) (silent_within writes job a gap x from silence w s.1)
silent_within writes job a gap x from (Ticks now ∷ silence) w s =
    ticked_within writes job gap x (last_tick from silence) now (after_events writes job a silence) s.0 s.1 (silent_within writes job a gap x from silence w s.2)

-- what is needed in all
again_most : (gap n : ℕ) → n ≤ 3 → again gap n ≤ 3 * (training_time gap + spans.t4)
again_most gap zero h = omega arith
again_most gap (suc zero) h = omega arith
again_most gap (suc (suc zero)) h = omega arith
again_most gap (suc (suc (suc zero))) h = omega arith
again_most gap (suc (suc (suc (suc n)))) h = absurd (omega arith)

after_most : (gap m : ℕ) (s : State) (c : Counts) (due : List Due) (t1 t4 : Option ℕ) (o : Option Outcome) → TimelyState m s due t1 t4 o
    → after gap s c due t1 t4 m ≤ 38000 + 130 * gap
after_most gap m Idle c due t1 t4 o g = omega arith
after_most gap m (Closing x) c due t1 t4 o g = omega arith
after_most gap m AwaitDis c due None t4 o g = absurd g
after_most gap m AwaitDis c due (Some t) t4 o g = omega arith
after_most gap m (AwaitCfr dis dcs) c [] t1 None o g = absurd g
after_most gap m (AwaitCfr dis dcs) c [] t1 (Some t) o g = let a : again gap (3 - c.tries) ≤ 3 * (training_time gap + spans.t4) = again_most gap (3 - c.tries) (omega arith) in omega arith
after_most gap m (AwaitCfr dis dcs) c (d ∷ due) t1 t4 o g = let a : again gap (3 - c.tries) ≤ 3 * (training_time gap + spans.t4) = again_most gap (3 - c.tries) (omega arith) in omega arith
after_most gap m (AwaitMcf dis dcs) c [] t1 None o g = absurd g
after_most gap m (AwaitMcf dis dcs) c [] t1 (Some t) o g = let a : again gap (3 - c.tries) ≤ 3 * (training_time gap + spans.t4) = again_most gap (3 - c.tries) (omega arith) in omega arith
after_most gap m (AwaitMcf dis dcs) c (d ∷ due) t1 t4 o g = let a : again gap (3 - c.tries) ≤ 3 * (training_time gap + spans.t4) = again_most gap (3 - c.tries) (omega arith) in omega arith

needed_most : (writes : Writing) (job : JobValue) (gap m : ℕ) (a : CallerCore) → IsTimely m a → needed writes job gap a m ≤ silent_time writes job gap a
needed_most writes job gap m a k =
    let p : allowed_from a.pace.last ≤ m + spans.longest_pause = k.pace in
    let b : after gap a.state a.counts a.waiting a.t1 a.t4 m ≤ 38000 + 130 * gap = after_most gap m a.state a.counts a.waiting a.t1 a.t4 a.outcome k.state in
    omega arith

-- a call that is over has an outcome
pub over_has : (m : ℕ) (a : CallerCore) (s : State) (due : List Due) → s ≡ Idle → TimelyState m s due a.t1 a.t4 a.outcome → IsSome a.outcome
over_has m a Idle [] e g = g
over_has m a Idle (d ∷ due) e g = absurd g
over_has m a AwaitDis due e g = cc
over_has m a (AwaitCfr dis dcs) due e g = cc
over_has m a (AwaitMcf dis dcs) due e g = cc
over_has m a (Closing x) due e g = cc

pub no_call_hangs : NoCallHangs
no_call_hangs writes job core start from gap events silence p s u silent long = by w.goes
  where
    a : CallerCore
    a = after_events writes job (started core job start) events

    z : CallerCore
    z = after_events writes job a silence

    k : IsTimely from a
    k = until_timely writes job core start from events p s u

    x : ℕ
    x = needed writes job gap a from + from

    w : IsWithin writes job gap x (last_tick from silence) z
    w = silent_within writes job a gap x from silence (record { timely = k; goes = inr (omega arith) }) silent

    by : Goes writes job gap x z (last_tick from silence) → (z.state ≡ Idle) × IsSome z.outcome
    by (inl e) = (e, over_has (last_tick from silence) z z.state z.waiting e w.timely.state)
    by (inr n) = let most : needed writes job gap a from ≤ silent_time writes job gap a = needed_most writes job gap from a k in absurd (omega arith)
