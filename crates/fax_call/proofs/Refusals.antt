-- A job for which a DIS leaves no choice ends so.
use Rattle.std.proofs.Common.{◌≡◌, ℕ, ◌+◌, Bool, true, false, nat_lt, List, [], ◌∷◌, ◌++◌, Option, Some, None, Result, Ok, Err, ◌⊎◌, inl, inr, refl, sym, ◌∙◌, ap, subst, if◌then◌else◌}
use Rattle.fax_runcodes.specs.declared.format.Format.{Format}
use Rattle.fax_frames.specs.declared.dis.Dis.{Dis}
use Rattle.fax_frames.specs.declared.dcs.Dcs.{Dcs}
use Rattle.fax_frames.specs.declared.frame.Frame.{Frame}
use Rattle.fax_frames.specs.declared.frame.Frame.TheVariants as frames
use Rattle.fax_frames.specs.declared.choice.Refusal.{Refusal}
use Rattle.fax_frames.specs.Choice.{choice}
use Rattle.fax_frames.specs.Frames.{frame_of}
use Rattle.fax_timers.specs.Moments.{is_due}
use Rattle.fax_timers.specs.Paces.{pace_allows}
use Rattle.fax_ifp.specs.Pieces as pieces
use Rattle.fax_jobs.specs.declared.outcome.Outcome.{Outcome}
use Rattle.fax_jobs.specs.declared.outcome.Outcome.TheVariants as outcomes
use Rattle.fax_jobs.specs.Jobs.{JobValue}
use Rattle.fax_call.specs.declared.state.State.{State}
use Rattle.fax_call.specs.declared.state.State.TheVariants.{Idle, AwaitDis, AwaitCfr, AwaitMcf, Closing}
use Rattle.fax_call.specs.Writings.{Writing}
use Rattle.fax_call.specs.Replies.{Packet, Due, waits, is_last_page, turn_after}
use Rattle.fax_call.specs.Table.{Counts, Move, Stays, Trains, Sends, AsksAgain, Closes, first_try, next_try, next_step, next_page, one_delivered, one_refused, most_tries, outcome_of, by_choice, tries_again, asks_again, on_frame, on_timers, turns_or, gives_up_dis}
use Rattle.fax_call.specs.Calls.{CallerCore, started, moved, heard, came, timed, taken, state_when_given, outcome_when_given, after_giving, TickResult, given_first, ticked, CallEvent, Comes, Ticks, after_events}
use Rattle.fax_call.specs.Refusals.{EndsByRefusal}
use Rattle.fax_call.proofs.Due.{page_due}

-- ---- once a call closes with an outcome, it ends with that one

abbrev ClosesSo : Outcome → State → Option Outcome → Type 0
ClosesSo x state o = (state ≡ Closing x) ⊎ ((state ≡ Idle) × (o ≡ Some x))

abbrev ClosesWith : Outcome → CallerCore → Type 0
ClosesWith x a = ClosesSo x a.state a.outcome

came_closes : (x : Outcome) (a : CallerCore) (piece : pieces.Piece) (now : ℕ) → ClosesWith x a → ClosesWith x (came a piece now)
came_closes x a (pieces.Frame octets) now c = by (waits a.waiting) c
  where
    frame : (o : Option Frame) (state : State) → (state ≡ Closing x) ⊎ (state ≡ Idle) → on_frame now a.format (turn_after a.formats a.counts.page) a.pages state a.counts o ≡ Stays
    frame o state (inl e) = ap (λ (p : State). on_frame now a.format (turn_after a.formats a.counts.page) a.pages p a.counts o) e
    frame o state (inr e) = ap (λ (p : State). on_frame now a.format (turn_after a.formats a.counts.page) a.pages p a.counts o) e

    of : ClosesWith x a → (a.state ≡ Closing x) ⊎ (a.state ≡ Idle)
    of (inl e) = inl e
    of (inr e) = inr e.0

    by : (t : Bool) → ClosesWith x a → ClosesWith x (moved a (if t then Stays else on_frame now a.format (turn_after a.formats a.counts.page) a.pages a.state a.counts (frame_of octets)))
    by true c = c
    by false c = subst (λ (m : Move). ClosesWith x (moved a m)) (sym (frame (frame_of octets) a.state (of c))) c
came_closes x a (pieces.Start k) now c = c
came_closes x a (pieces.Octets os) now c = c
came_closes x a (pieces.End w) now c = c
came_closes x a pieces.Gap now c = c

timed_closes : (x : Outcome) (a : CallerCore) (now : ℕ) → ClosesWith x a → ClosesWith x (timed a now)
timed_closes x a now c = by (waits a.waiting) c
  where
    none : (state : State) → (state ≡ Closing x) ⊎ (state ≡ Idle) → on_timers (is_due a.t1 now) (is_due a.t4 now) state a.counts ≡ Stays
    none state (inl e) = ap (λ (p : State). on_timers (is_due a.t1 now) (is_due a.t4 now) p a.counts) e
    none state (inr e) = ap (λ (p : State). on_timers (is_due a.t1 now) (is_due a.t4 now) p a.counts) e

    of : ClosesWith x a → (a.state ≡ Closing x) ⊎ (a.state ≡ Idle)
    of (inl e) = inl e
    of (inr e) = inr e.0

    by : (t : Bool) → ClosesWith x a → ClosesWith x (moved a (if t then Stays else on_timers (is_due a.t1 now) (is_due a.t4 now) a.state a.counts))
    by true c = c
    by false c = subst (λ (m : Move). ClosesWith x (moved a m)) (sym (none a.state (of c))) c

given_last_closes : (x : Outcome) (state : State) (o : Option Outcome) → ClosesSo x state o → ClosesSo x (state_when_given state) (outcome_when_given state o)
given_last_closes x state o (inl e) = inr (ap state_when_given e, ap (λ (p : State). outcome_when_given p o) e)
given_last_closes x state o (inr e) = inr (ap state_when_given e.0, ap (λ (p : State). outcome_when_given p o) e.0 ∙ e.1)

given_closes : (x : Outcome) (a : CallerCore) (writes : Writing) (job : JobValue) (now : ℕ) (due : List Due) → ClosesWith x a → ClosesWith x (given_first writes job a now due).core
given_closes x a writes job now [] c = c
given_closes x a writes job now (d ∷ due) c = by (taken writes job d due).rest
  where
    by : (rest : List Due) → ClosesWith x (after_giving a now (taken writes job d due).packet rest)
    by [] = given_last_closes x a.state a.outcome c
    by (r ∷ rest) = c

ticked_closes : (x : Outcome) (a : CallerCore) (writes : Writing) (job : JobValue) (now : ℕ) → ClosesWith x a → ClosesWith x (ticked writes job a now).core
ticked_closes x a writes job now c = by (timed a now) (timed_closes x a now c) (pace_allows (timed a now).pace.last now)
  where
    by : (b : CallerCore) → ClosesWith x b → (t : Bool) → ClosesWith x (if◌then◌else◌ {A = TickResult} t (given_first writes job b now b.waiting) (record { core = b; given = None })).core
    by b c true = given_closes x b writes job now b.waiting c
    by b c false = c

stays_closed : (x : Outcome) (writes : Writing) (job : JobValue) (a : CallerCore) (later events : List CallEvent) → ClosesWith x (after_events writes job a events)
    → ClosesWith x (after_events writes job a (later ++ events))
stays_closed x writes job a [] events c = c
stays_closed x writes job a (Comes piece now ∷ later) events c = came_closes x (after_events writes job a (later ++ events)) piece now (stays_closed x writes job a later events c)
stays_closed x writes job a (Ticks now ∷ later) events c = ticked_closes x (after_events writes job a (later ++ events)) writes job now (stays_closed x writes job a later events c)

-- ---- a DIS that leaves no choice closes it

refused_move : (a : CallerCore) (octets : List ℕ) (now : ℕ) (dis : Dis) (refusal : Refusal) → a.state ≡ AwaitDis → a.waiting ≡ [] → frame_of octets ≡ Some (frames.Dis dis)
    → choice dis a.format a.counts.step ≡ Err refusal
    → heard a (pieces.Frame octets) now ≡ Closes (outcome_of refusal) (first_try a.counts)
refused_move a octets now dis refusal p w f c =
    ap (λ (due : List Due). if waits due then Stays else on_frame now a.format (turn_after a.formats a.counts.page) a.pages a.state a.counts (frame_of octets)) w
    ∙ ap (λ (state : State). on_frame now a.format (turn_after a.formats a.counts.page) a.pages state a.counts (frame_of octets)) p
    ∙ ap (λ (o : Option Frame). on_frame now a.format (turn_after a.formats a.counts.page) a.pages AwaitDis a.counts o) f
    ∙ ap (λ (r : Result Dcs Refusal). by_choice dis (first_try a.counts) r) c

-- ---- the format stays

-- ---- Await DIS has the first step of the rates

abbrev StepOf : State → Counts → Type 0
StepOf AwaitDis c = c.step ≡ 0
StepOf state c = Unit {0}

abbrev HasStep : CallerCore → Type 0
HasStep a = StepOf a.state a.counts

if_step : (a : CallerCore) (t : Bool) (m n : Move) → HasStep (moved a m) → HasStep (moved a n) → HasStep (moved a (if t then m else n))
if_step a true m n x y = x
if_step a false m n x y = y

choice_step : (a : CallerCore) (dis : Dis) (c : Counts) (r : Result Dcs Refusal) → HasStep (moved a (by_choice dis c r))
choice_step a dis c (Ok dcs) = tt
choice_step a dis c (Err e) = tt

turns_step : (a : CallerCore) (now : ℕ) (t : Option Format) (m : Move) → HasStep (moved a m) → HasStep (moved a (turns_or now t a.counts m))
turns_step a now (Some format) m h = refl
turns_step a now None m h = h

frame_step : (a : CallerCore) (now : ℕ) (state : State) (frame : Option Frame) → a.state ≡ state → StepOf state a.counts → HasStep (moved a (on_frame now a.format (turn_after a.formats a.counts.page) a.pages state a.counts frame))
frame_step a now AwaitDis (Some (frames.Dis dis)) e s = choice_step a dis (first_try a.counts) (choice dis a.format a.counts.step)
frame_step a now AwaitDis (Some frames.Dcn) e s = tt
frame_step a now (AwaitCfr dis dcs) (Some frames.Cfr) e s = tt
frame_step a now (AwaitCfr dis dcs) (Some frames.Ftt) e s = choice_step a dis (next_step a.counts) (choice dis a.format (a.counts.step + 1))
frame_step a now (AwaitCfr dis dcs) (Some (frames.Dis other)) e s = if_step a (nat_lt a.counts.tries most_tries) (Trains dis dcs (next_try a.counts)) (Closes outcomes.NoReply a.counts) tt tt
frame_step a now (AwaitCfr dis dcs) (Some frames.Dcn) e s = tt
frame_step a now (AwaitMcf dis dcs) (Some frames.Mcf) e s =
    if_step a (is_last_page a.pages a.counts.page) (Closes outcomes.Delivered (one_delivered a.counts)) (turns_or now (turn_after a.formats a.counts.page) a.counts (Sends dis dcs (next_page a.counts))) tt (turns_step a now (turn_after a.formats a.counts.page) (Sends dis dcs (next_page a.counts)) tt)
frame_step a now (AwaitMcf dis dcs) (Some frames.Rtp) e s =
    if_step a (is_last_page a.pages a.counts.page) (Closes outcomes.Delivered (one_delivered a.counts)) (turns_or now (turn_after a.formats a.counts.page) a.counts (Trains dis dcs (next_page a.counts))) tt (turns_step a now (turn_after a.formats a.counts.page) (Trains dis dcs (next_page a.counts)) tt)
frame_step a now (AwaitMcf dis dcs) (Some frames.Rtn) e s =
    if_step a (nat_lt a.counts.refused 2) (Trains dis dcs (one_refused a.counts)) (Closes outcomes.PageRefused a.counts) tt tt
frame_step a now (AwaitMcf dis dcs) (Some frames.Dcn) e s = tt
frame_step a now state frame e s = subst (λ (p : State). StepOf p a.counts) (sym e) s

came_step : (a : CallerCore) (piece : pieces.Piece) (now : ℕ) → HasStep a → HasStep (came a piece now)
came_step a (pieces.Frame octets) now h = by (waits a.waiting)
  where
    by : (t : Bool) → HasStep (moved a (if t then Stays else on_frame now a.format (turn_after a.formats a.counts.page) a.pages a.state a.counts (frame_of octets)))
    by true = h
    by false = frame_step a now a.state (frame_of octets) refl h
came_step a (pieces.Start k) now h = h
came_step a (pieces.Octets os) now h = h
came_step a (pieces.End w) now h = h
came_step a pieces.Gap now h = h

timer_step : (a : CallerCore) (now : ℕ) (state : State) → a.state ≡ state → HasStep a → HasStep (moved a (on_timers (is_due a.t1 now) (is_due a.t4 now) state a.counts))
timer_step a now Idle e h = h
timer_step a now (Closing x) e h = h
timer_step a now AwaitDis e h = if_step a (is_due a.t1 now) (gives_up_dis a.counts) Stays tt h
timer_step a now (AwaitCfr dis dcs) e h =
    if_step a (is_due a.t4 now) (tries_again dis dcs a.counts) Stays
    (if_step a (nat_lt a.counts.tries most_tries) (Trains dis dcs (next_try a.counts)) (Closes outcomes.NoReply a.counts) tt tt) h
timer_step a now (AwaitMcf dis dcs) e h =
    if_step a (is_due a.t4 now) (asks_again a.counts) Stays
    (if_step a (nat_lt a.counts.tries most_tries) (AsksAgain (next_try a.counts)) (Closes outcomes.NoReply a.counts) (subst (λ (p : State). StepOf p (next_try a.counts)) (sym e) tt) tt) h

given_last_step : (state : State) (c : Counts) → StepOf state c → StepOf (state_when_given state) c
given_last_step Idle c h = tt
given_last_step AwaitDis c h = h
given_last_step (AwaitCfr dis dcs) c h = tt
given_last_step (AwaitMcf dis dcs) c h = tt
given_last_step (Closing x) c h = tt

ticked_step : (a : CallerCore) (writes : Writing) (job : JobValue) (now : ℕ) → HasStep a → HasStep (ticked writes job a now).core
ticked_step a writes job now h = by (timed a now) (in_time (waits a.waiting)) (pace_allows (timed a now).pace.last now)
  where
    in_time : (t : Bool) → HasStep (moved a (if t then Stays else on_timers (is_due a.t1 now) (is_due a.t4 now) a.state a.counts))
    in_time true = h
    in_time false = timer_step a now a.state refl h

    after : (b : CallerCore) → HasStep b → (packet : Packet) (rest : List Due) → HasStep (after_giving b now packet rest)
    after b k packet [] = given_last_step b.state b.counts k
    after b k packet (d ∷ due) = k

    first : (b : CallerCore) → HasStep b → (due : List Due) → HasStep (given_first writes job b now due).core
    first b k [] = k
    first b k (d ∷ due) = after b k (taken writes job d due).packet (taken writes job d due).rest

    by : (b : CallerCore) → HasStep b → (t : Bool) → HasStep (if◌then◌else◌ {A = TickResult} t (given_first writes job b now b.waiting) (record { core = b; given = None })).core
    by b k true = first b k b.waiting
    by b k false = k

step_in_call : (writes : Writing) (job : JobValue) (core : CallerCore) (start : ℕ) (events : List CallEvent) → HasStep (after_events writes job (started core job start) events)
step_in_call writes job core start [] = refl
step_in_call writes job core start (Comes piece now ∷ before) =
    came_step (after_events writes job (started core job start) before) piece now (step_in_call writes job core start before)
step_in_call writes job core start (Ticks now ∷ before) =
    ticked_step (after_events writes job (started core job start) before) writes job now (step_in_call writes job core start before)

-- ---- a call

pub ends_by_refusal : EndsByRefusal
ends_by_refusal writes job core start later events now octets dis page refusal is p w f s c =
    let begun : CallerCore = started core job start in
    let a : CallerCore = after_events writes job begun events in
    let x : Outcome = outcome_of refusal in
    let e : page.format ≡ a.format = page_due writes job core start events page is s in
    let z : a.counts.step ≡ 0 = subst (λ (state : State). StepOf state a.counts) p (step_in_call writes job core start events) in
    let k : choice dis a.format a.counts.step ≡ Err refusal = ap (λ (g : Format). choice dis g a.counts.step) (sym e) ∙ ap (choice dis page.format) z ∙ c in
    let m : heard a (pieces.Frame octets) now ≡ Closes x (first_try a.counts) = refused_move a octets now dis refusal p w f k in
    let closed : ClosesWith x (after_events writes job begun (Comes (pieces.Frame octets) now ∷ events)) = subst (λ (y : Move). ClosesWith x (moved a y)) (sym m) (inl refl) in
    stays_closed x writes job begun later (Comes (pieces.Frame octets) now ∷ events) closed
