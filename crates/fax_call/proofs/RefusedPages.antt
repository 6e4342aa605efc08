-- The RTNs for a page are counted.
use Rattle.std.proofs.Common.{◌≡◌, ℕ, ◌+◌, ◌≤◌, ◌<◌, nat_eq, nat_lt, Bool, true, false, List, [], ◌∷◌, Option, Some, None, Result, Ok, Err, refl, sym, ◌∙◌, ap, subst, arith, if◌then◌else◌}
use Rattle.fax_runcodes.specs.declared.format.Format.{Format}
use Rattle.fax_frames.specs.declared.dis.Dis.{Dis}
use Rattle.fax_frames.specs.declared.dcs.Dcs.{Dcs}
use Rattle.fax_frames.specs.declared.frame.Frame.{Frame}
use Rattle.fax_frames.specs.declared.frame.Frame.TheVariants as frames
use Rattle.fax_frames.specs.declared.choice.Refusal.{Refusal}
use Rattle.fax_frames.specs.declared.choice.Refusal.TheVariants as refusal
use Rattle.fax_frames.specs.Choice.{choice}
use Rattle.fax_frames.specs.Frames.{frame_of}
use Rattle.fax_timers.specs.Moments.{is_due}
use Rattle.fax_timers.specs.Paces.{pace_allows}
use Rattle.fax_ifp.specs.Pieces as pieces
use Rattle.fax_jobs.specs.declared.outcome.Outcome.{Outcome}
use Rattle.fax_jobs.specs.declared.outcome.Outcome.TheVariants as outcomes
use Rattle.fax_jobs.specs.Jobs.{JobValue}
use Rattle.fax_call.specs.declared.state.State.{State}
use Rattle.fax_call.specs.declared.state.State.TheVariants.{Idle, AwaitDis, AwaitCfr, AwaitMcf, Closing}
use Rattle.fax_call.specs.Writings.{Writing}
use Rattle.fax_call.specs.Replies.{Packet, Due, waits, is_last_page, turn_after, training, goodbye}
use Rattle.fax_call.specs.Table.{Counts, Move, Stays, Trains, Sends, AsksAgain, Turns, Closes, HangsUp, first_try, next_try, next_step, next_page, one_delivered, one_refused, most_tries, outcome_of, by_choice, after_refusal, turns_or, on_frame, gives_up_dis, on_timers}
use Rattle.fax_call.specs.Calls.{CallerCore, started, moved, heard, came, timed, taken, state_when_given, outcome_when_given, after_giving, TickResult, given_first, ticked, CallEvent, Comes, Ticks, after_events}
use Rattle.fax_call.specs.RefusedPages.{refused_by, refused_with, refusals, RefusesAtTheThird, ThirdRefusalEnds}

-- what is known, where so many RTNs are counted and heard
abbrev Ends : Outcome → ℕ → Type 0
Ends x n = (n ≤ 3) × (x ≡ outcomes.PageRefused → n ≡ 3)

abbrev Knows : State → (refused : ℕ) → Option Outcome → (n : ℕ) → Type 0
Knows Idle r o n = (n ≤ 3) × (o ≡ Some outcomes.PageRefused → n ≡ 3)
Knows (Closing x) r o n = (o ≡ None) × Ends x n
Knows AwaitDis r o n = (o ≡ None) × (r ≡ n) × (n ≤ 2)
Knows (AwaitCfr dis dcs) r o n = (o ≡ None) × (r ≡ n) × (n ≤ 2)
Knows (AwaitMcf dis dcs) r o n = (o ≡ None) × (r ≡ n) × (n ≤ 2)

abbrev MoveKnows : State → (refused : ℕ) → Option Outcome → (n : ℕ) → Move → Type 0
MoveKnows s r o n Stays = Knows s r o n
MoveKnows s r o n (Trains dis dcs c) = (o ≡ None) × (c.refused ≡ n) × (n ≤ 2)
MoveKnows s r o n (Sends dis dcs c) = (o ≡ None) × (c.refused ≡ n) × (n ≤ 2)
MoveKnows s r o n (AsksAgain c) = Knows s c.refused o n
MoveKnows s r o n (Turns format t1 c) = (o ≡ None) × (c.refused ≡ n) × (n ≤ 2)
MoveKnows s r o n (Closes x c) = (o ≡ None) × Ends x n
MoveKnows s r o n HangsUp = n ≤ 3

abbrev CoreKnows : CallerCore → ℕ → Type 0
CoreKnows a n = Knows a.state a.counts.refused a.outcome n

moved_knows : (a : CallerCore) (m : Move) (n : ℕ) → MoveKnows a.state a.counts.refused a.outcome n m → CoreKnows (moved a m) n
moved_knows a Stays n h = h
moved_knows a (Trains dis dcs c) n h = h
moved_knows a (Sends dis dcs c) n h = h
moved_knows a (AsksAgain c) n h = h
moved_knows a (Turns format t1 c) n h = h
moved_knows a (Closes outcome c) n h = h
moved_knows a HangsUp n h = (h, λ e. cc)

if_knows : (s : State) (r : ℕ) (o : Option Outcome) (n : ℕ) (t : Bool) (x y : Move) → MoveKnows s r o n x → MoveKnows s r o n y → MoveKnows s r o n (if t then x else y)
if_knows s r o n true x y h k = h
if_knows s r o n false x y h k = k

-- another outcome
none_refused : (e : Refusal) → outcome_of e ≡ outcomes.PageRefused → ⊥
none_refused refusal.NotReceiver e = cc
none_refused refusal.WidthLacking e = cc
none_refused refusal.FineLacking e = cc
none_refused refusal.RatesSpent e = cc

choice_knows : (s : State) (r : ℕ) (o : Option Outcome) (n : ℕ) (dis : Dis) (c : Counts) (x : Result Dcs Refusal) → o ≡ None → c.refused ≡ n → n ≤ 2 → MoveKnows s r o n (by_choice dis c x)
choice_knows s r o n dis c (Ok dcs) e h k = (e, h, k)
choice_knows s r o n dis c (Err x) e h k = (e, (omega arith, λ q. absurd (none_refused x q)))

no_reply : (n : ℕ) → n ≤ 2 → Ends outcomes.NoReply n
no_reply n k = (omega arith, λ e. cc)

turns_knows : (s : State) (r : ℕ) (o : Option Outcome) (now : ℕ) (turn : Option Format) (c : Counts) (m : Move) → o ≡ None → MoveKnows s r o 0 m → MoveKnows s r o 0 (turns_or now turn c m)
turns_knows s r o now (Some format) c m e h = (e, refl, omega arith)
turns_knows s r o now None c m e h = h

third : (o : Option Outcome) (n : ℕ) (dis : Dis) (dcs : Dcs) (c : Counts) → o ≡ None → c.refused ≡ n → n ≤ 2 → MoveKnows (AwaitMcf dis dcs) c.refused o (n + 1) (after_refusal dis dcs c)
third o n dis dcs c e h k = by (nat_lt c.refused 2) refl
  where
    lt_if : (x : ℕ) → nat_lt x 2 ≡ true → x < 2
    lt_if x q = grind (arith)

    ge_if : (x : ℕ) → nat_lt x 2 ≡ false → 2 ≤ x
    ge_if x q = grind (arith)

    by : (t : Bool) → nat_lt c.refused 2 ≡ t → MoveKnows (AwaitMcf dis dcs) c.refused o (n + 1) (if t then Trains dis dcs (one_refused c) else Closes outcomes.PageRefused c)
    by true q = let l : c.refused < 2 = lt_if c.refused q in (e, omega arith, omega arith)
    by false q = let l : 2 ≤ c.refused = ge_if c.refused q in (e, (omega arith, λ p. omega arith))

frame_knows : (now : ℕ) (format : Format) (turn : Option Format) (pages : ℕ) (s : State) (c : Counts) (o : Option Outcome) (frame : Option Frame) (n : ℕ) → Knows s c.refused o n
    → MoveKnows s c.refused o (refused_by s false frame n) (on_frame now format turn pages s c frame)
frame_knows now format turn pages AwaitDis c o (Some (frames.Dis dis)) n h = choice_knows AwaitDis c.refused o n dis (first_try c) (choice dis format c.step) h.0 h.1 h.2
frame_knows now format turn pages AwaitDis c o (Some frames.Dcn) n h = let k : n ≤ 2 = h.2 in omega arith
frame_knows now format turn pages (AwaitCfr dis dcs) c o (Some frames.Cfr) n h = h
frame_knows now format turn pages (AwaitCfr dis dcs) c o (Some frames.Ftt) n h = choice_knows (AwaitCfr dis dcs) c.refused o n dis (next_step c) (choice dis format (c.step + 1)) h.0 h.1 h.2
frame_knows now format turn pages (AwaitCfr dis dcs) c o (Some (frames.Dis other)) n h =
    if_knows (AwaitCfr dis dcs) c.refused o n (nat_lt c.tries most_tries) (Trains dis dcs (next_try c)) (Closes outcomes.NoReply c) h (h.0, no_reply n h.2)
frame_knows now format turn pages (AwaitCfr dis dcs) c o (Some frames.Dcn) n h = let k : n ≤ 2 = h.2 in omega arith
frame_knows now format turn pages (AwaitMcf dis dcs) c o (Some frames.Mcf) n h =
    if_knows (AwaitMcf dis dcs) c.refused o 0 (is_last_page pages c.page) (Closes outcomes.Delivered (one_delivered c)) (turns_or now turn c (Sends dis dcs (next_page c))) (h.0, (omega arith, λ e. cc))
    (turns_knows (AwaitMcf dis dcs) c.refused o now turn c (Sends dis dcs (next_page c)) h.0 (h.0, refl, omega arith))
frame_knows now format turn pages (AwaitMcf dis dcs) c o (Some frames.Rtp) n h =
    if_knows (AwaitMcf dis dcs) c.refused o 0 (is_last_page pages c.page) (Closes outcomes.Delivered (one_delivered c)) (turns_or now turn c (Trains dis dcs (next_page c))) (h.0, (omega arith, λ e. cc))
    (turns_knows (AwaitMcf dis dcs) c.refused o now turn c (Trains dis dcs (next_page c)) h.0 (h.0, refl, omega arith))
frame_knows now format turn pages (AwaitMcf dis dcs) c o (Some frames.Rtn) n h = third o n dis dcs c h.0 h.1 h.2
frame_knows now format turn pages (AwaitMcf dis dcs) c o (Some frames.Dcn) n h = let k : n ≤ 2 = h.2 in omega arith
frame_knows now format turn pages s c o frame n h = h

gives_up_knows : (c : Counts) (o : Option Outcome) (n : ℕ) → Knows AwaitDis c.refused o n → MoveKnows AwaitDis c.refused o n (gives_up_dis c)
gives_up_knows c o n h = (h.0, by (nat_eq c.delivered 0))
  where
    by : (t : Bool) → Ends (if t then outcomes.NoAnswer else outcomes.NoReply) n
    by true = (let k : n ≤ 2 = h.2 in omega arith, λ e. cc)
    by false = no_reply n h.2

timers_know : (x y : Bool) (s : State) (c : Counts) (o : Option Outcome) (n : ℕ) → Knows s c.refused o n → MoveKnows s c.refused o n (on_timers x y s c)
timers_know x y Idle c o n h = h
timers_know x y (Closing outcome) c o n h = h
timers_know true y AwaitDis c o n h = gives_up_knows c o n h
timers_know false y AwaitDis c o n h = h
timers_know x true (AwaitCfr dis dcs) c o n h = if_knows (AwaitCfr dis dcs) c.refused o n (nat_lt c.tries most_tries) (Trains dis dcs (next_try c)) (Closes outcomes.NoReply c) h (h.0, no_reply n h.2)
timers_know x false (AwaitCfr dis dcs) c o n h = h
timers_know x true (AwaitMcf dis dcs) c o n h = if_knows (AwaitMcf dis dcs) c.refused o n (nat_lt c.tries most_tries) (AsksAgain (next_try c)) (Closes outcomes.NoReply c) h (h.0, no_reply n h.2)
timers_know x false (AwaitMcf dis dcs) c o n h = h

-- ---- a piece, and a tick

not_while_waiting : (s : State) (frame : Option Frame) (n : ℕ) → refused_by s true frame n ≡ n
not_while_waiting Idle frame n = refl
not_while_waiting AwaitDis frame n = refl
not_while_waiting (AwaitCfr dis dcs) frame n = refl
not_while_waiting (AwaitMcf dis dcs) frame n = refl
not_while_waiting (Closing outcome) frame n = refl

came_knows : (a : CallerCore) (piece : pieces.Piece) (now n : ℕ) → CoreKnows a n → CoreKnows (came a piece now) (refused_with a piece n)
came_knows a (pieces.Frame octets) now n h = moved_knows a _ _ (by (waits a.waiting))
  where
    by : (w : Bool) → MoveKnows a.state a.counts.refused a.outcome (refused_by a.state w (frame_of octets) n)
        (if w then Stays else on_frame now a.format (turn_after a.formats a.counts.page) a.pages a.state a.counts (frame_of octets))
    by true = subst (λ (k : ℕ). Knows a.state a.counts.refused a.outcome k) (sym (not_while_waiting a.state (frame_of octets) n)) h
    by false = frame_knows now a.format (turn_after a.formats a.counts.page) a.pages a.state a.counts a.outcome (frame_of octets) n h
came_knows a (pieces.Start k) now n h = h
came_knows a (pieces.Octets os) now n h = h
came_knows a (pieces.End w) now n h = h
came_knows a pieces.Gap now n h = h

timed_knows : (a : CallerCore) (now n : ℕ) → CoreKnows a n → CoreKnows (timed a now) n
timed_knows a now n h =
    moved_knows a _ n (if_knows a.state a.counts.refused a.outcome n (waits a.waiting) Stays (on_timers (is_due a.t1 now) (is_due a.t4 now) a.state a.counts) h
    (timers_know (is_due a.t1 now) (is_due a.t4 now) a.state a.counts a.outcome n h))

given_knows : (s : State) (r : ℕ) (o : Option Outcome) (n : ℕ) → Knows s r o n → Knows (state_when_given s) r (outcome_when_given s o) n
given_knows Idle r o n h = h
given_knows AwaitDis r o n h = h
given_knows (AwaitCfr dis dcs) r o n h = h
given_knows (AwaitMcf dis dcs) r o n h = h
given_knows (Closing x) r o n h = (h.1.0, λ e. h.1.1 (some_one e))
  where
    some_one : ◌≡◌ {A = Option Outcome} (Some x) (Some outcomes.PageRefused) → x ≡ outcomes.PageRefused
    some_one e = cc

after_knows : (a : CallerCore) (now : ℕ) (packet : Packet) (rest : List Due) (n : ℕ) → CoreKnows a n → CoreKnows (after_giving a now packet rest) n
after_knows a now packet [] n h = given_knows a.state a.counts.refused a.outcome n h
after_knows a now packet (r ∷ rest) n h = h

first_knows : (writes : Writing) (job : JobValue) (a : CallerCore) (now : ℕ) (due : List Due) (n : ℕ) → CoreKnows a n → CoreKnows (given_first writes job a now due).core n
first_knows writes job a now [] n h = h
first_knows writes job a now (r ∷ due) n h = after_knows a now (taken writes job r due).packet (taken writes job r due).rest n h

ticked_knows : (writes : Writing) (job : JobValue) (a : CallerCore) (now n : ℕ) → CoreKnows a n → CoreKnows (ticked writes job a now).core n
ticked_knows writes job a now n h = by (timed a now) (timed_knows a now n h) (pace_allows (timed a now).pace.last now)
  where
    by : (b : CallerCore) → CoreKnows b n → (t : Bool) → CoreKnows (if◌then◌else◌ {A = TickResult} t (given_first writes job b now b.waiting) (record { core = b; given = None })).core n
    by b k true = first_knows writes job b now b.waiting n k
    by b k false = k

-- ---- a call

call_knows : (writes : Writing) (job : JobValue) (core : CallerCore) (start : ℕ) (events : List CallEvent)
    → CoreKnows (after_events writes job (started core job start) events) (refusals writes job (started core job start) events)
call_knows writes job core start [] = (refl, refl, omega arith)
call_knows writes job core start (Comes piece now ∷ before) =
    came_knows (after_events writes job (started core job start) before) piece now (refusals writes job (started core job start) before) (call_knows writes job core start before)
call_knows writes job core start (Ticks now ∷ before) =
    ticked_knows writes job (after_events writes job (started core job start) before) now (refusals writes job (started core job start) before) (call_knows writes job core start before)

few : (s : State) (r : ℕ) (o : Option Outcome) (n : ℕ) → Knows s r o n → n ≤ 3
few Idle r o n h = h.0
few AwaitDis r o n h = let k : n ≤ 2 = h.2 in omega arith
few (AwaitCfr dis dcs) r o n h = let k : n ≤ 2 = h.2 in omega arith
few (AwaitMcf dis dcs) r o n h = let k : n ≤ 2 = h.2 in omega arith
few (Closing x) r o n h = h.1.0

ended : (s : State) (r : ℕ) (o : Option Outcome) (n : ℕ) → Knows s r o n → o ≡ Some outcomes.PageRefused → n ≡ 3
ended Idle r o n h e = h.1 e
ended AwaitDis r o n h e = let q : None ≡ Some outcomes.PageRefused = sym h.0 ∙ e in cc
ended (AwaitCfr dis dcs) r o n h e = let q : None ≡ Some outcomes.PageRefused = sym h.0 ∙ e in cc
ended (AwaitMcf dis dcs) r o n h e = let q : None ≡ Some outcomes.PageRefused = sym h.0 ∙ e in cc
ended (Closing x) r o n h e = let q : None ≡ Some outcomes.PageRefused = sym h.0 ∙ e in cc

refuses : (a : CallerCore) (n : ℕ) (dis : Dis) (dcs : Dcs) (octets : List ℕ) (now : ℕ) → a.counts.refused ≡ n → a.state ≡ AwaitMcf dis dcs → a.waiting ≡ [] → frame_of octets ≡ Some frames.Rtn
    → RefusesAtTheThird n dis dcs (came a (pieces.Frame octets) now)
refuses a n dis dcs octets now r s w f = subst (λ (m : Move). RefusesAtTheThird n dis dcs (moved a m)) (sym move) (by (nat_lt n 2))
  where
    move : heard a (pieces.Frame octets) now ≡ (if nat_lt n 2 then Trains dis dcs (one_refused a.counts) else Closes outcomes.PageRefused a.counts)
    move =
        ap (λ (due : List Due). if waits due then Stays else on_frame now a.format (turn_after a.formats a.counts.page) a.pages a.state a.counts (frame_of octets)) w
        ∙ ap (λ (state : State). on_frame now a.format (turn_after a.formats a.counts.page) a.pages state a.counts (frame_of octets)) s
        ∙ ap (λ (o : Option Frame). on_frame now a.format (turn_after a.formats a.counts.page) a.pages (AwaitMcf dis dcs) a.counts o) f
        ∙ ap (λ (k : ℕ). if nat_lt k 2 then Trains dis dcs (one_refused a.counts) else Closes outcomes.PageRefused a.counts) r

    by : (t : Bool) →
        let z : CallerCore = moved a (if t then Trains dis dcs (one_refused a.counts) else Closes outcomes.PageRefused a.counts) in
        (z.state ≡ (if t then AwaitCfr dis dcs else Closing outcomes.PageRefused)) × (z.waiting ≡ (if t then training dcs else goodbye))
    by true = (refl, refl)
    by false = (refl, refl)

pub third_refusal_ends : ThirdRefusalEnds
third_refusal_ends writes job core start events =
    let begun : CallerCore = started core job start in
    let a : CallerCore = after_events writes job begun events in
    let n : ℕ = refusals writes job begun events in
    let k : CoreKnows a n = call_knows writes job core start events in (
      few a.state a.counts.refused a.outcome n k,
      λ e. let c : Knows (Closing outcomes.PageRefused) a.counts.refused a.outcome n = subst (λ (s : State). Knows s a.counts.refused a.outcome n) e k in c.1.1 refl,
      ended a.state a.counts.refused a.outcome n k,
      λ dis dcs octets now s w f. let c : Knows (AwaitMcf dis dcs) a.counts.refused a.outcome n = subst (λ (x : State). Knows x a.counts.refused a.outcome n) s k in refuses a n dis dcs octets now c.1 s w f,
    )
