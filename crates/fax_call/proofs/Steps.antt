-- The rates are stepped through.
use Rattle.std.proofs.Common.{◌≡◌, ℕ, ◌+◌, nat_lt, Bool, true, false, not, ◌&&◌, List, [], ◌∷◌, Option, Some, None, Result, Ok, Err, refl, sym, ◌∙◌, ap, subst, if◌then◌else◌}
use Rattle.fax_runcodes.specs.declared.format.Format.{Format}
use Rattle.fax_frames.specs.declared.dis.Dis.{Dis}
use Rattle.fax_frames.specs.declared.dcs.Dcs.{Dcs}
use Rattle.fax_frames.specs.declared.rate.Rate.{Rate}
use Rattle.fax_frames.specs.declared.frame.Frame.{Frame}
use Rattle.fax_frames.specs.declared.frame.Frame.TheVariants as frames
use Rattle.fax_frames.specs.declared.choice.Refusal.{Refusal}
use Rattle.fax_frames.specs.declared.choice.Refusal.TheVariants as refusals
use Rattle.fax_frames.specs.FieldBits.{has_bit}
use Rattle.fax_frames.specs.Capabilities.{has_width}
use Rattle.fax_frames.specs.Choice.{dcs_at, choice}
use Rattle.fax_frames.specs.Frames.{frame_of}
use Rattle.fax_timers.specs.Moments.{is_due}
use Rattle.fax_timers.specs.Paces.{pace_allows}
use Rattle.fax_ifp.specs.Pieces as pieces
use Rattle.fax_jobs.specs.declared.outcome.Outcome.TheVariants as outcomes
use Rattle.fax_jobs.specs.Jobs.{JobValue}
use Rattle.fax_call.specs.declared.state.State.{State}
use Rattle.fax_call.specs.declared.state.State.TheVariants.{Idle, AwaitDis, AwaitCfr, AwaitMcf, Closing}
use Rattle.fax_call.specs.Writings.{Writing}
use Rattle.fax_call.specs.Replies.{Packet, Due, waits, is_last_page, turn_after}
use Rattle.fax_call.specs.Table.{Counts, Move, Stays, Trains, Sends, AsksAgain, Turns, Closes, HangsUp, first_try, next_try, next_step, next_page, one_delivered, one_refused, most_tries, by_choice, turns_or, on_frame, on_timers}
use Rattle.fax_call.specs.Calls.{CallerCore, started, moved, heard, came, timed, taken, state_when_given, after_giving, TickResult, given_first, ticked, CallEvent, Comes, Ticks, after_events}
use Rattle.fax_call.specs.Refusals.{dis_by, dis_with, dis_taken}
use Rattle.fax_call.specs.Steps.{failed_by, failed_with, failures, rate_after, trained_at, IsAtRate, FttStepsTheRates}

-- ---- THE CHOICE at a step, where nothing but a rate may lack

abbrev pub at_rate : Dis → Format → Option Rate → Result Dcs Refusal
at_rate dis format None = Err refusals.RatesSpent
at_rate dis format (Some rate) = Ok (dcs_at dis format rate)

pub record IsRate (dis : Dis) (format : Format) (o : Option Rate) (dcs : Dcs) : Type 0 where
  pub rate : o ≡ Some dcs.rate
  pub dcs_is : dcs ≡ dcs_at dis format dcs.rate

rate_is : (dis : Dis) (format : Format) (o : Option Rate) (dcs : Dcs) → at_rate dis format o ≡ Ok dcs → IsRate dis format o dcs
rate_is dis format None dcs h = cc
rate_is dis format (Some rate) dcs h =
    let same : dcs_at dis format rate ≡ dcs = ok_one (dcs_at dis format rate) dcs h in
    subst (λ (d : Dcs). IsRate dis format (Some rate) d) same (record { rate = refl; dcs_is = refl })
  where
    ok_one : (d e : Dcs) → ◌≡◌ {A = Result Dcs Refusal} (Ok d) (Ok e) → d ≡ e
    ok_one d e q = cc

abbrev chosen_by : (x y z : Bool) → Result Dcs Refusal → Result Dcs Refusal
chosen_by x y z r = if x then Err refusals.NotReceiver else if y then Err refusals.WidthLacking else if z then Err refusals.FineLacking else r

-- what was chosen at one step shows what is chosen at another
chosen_at : (x y z : Bool) (r q : Result Dcs Refusal) (dcs : Dcs) → chosen_by x y z r ≡ Ok dcs → (r ≡ Ok dcs) × (chosen_by x y z q ≡ q)
chosen_at true y z r q dcs h = cc
chosen_at false true z r q dcs h = cc
chosen_at false false true r q dcs h = cc
chosen_at false false false r q dcs h = (h, refl)

pub choice_at : (dis : Dis) (format : Format) (n m : ℕ) (dcs : Dcs) → choice dis format n ≡ Ok dcs → IsRate dis format (rate_after dis n) dcs × (choice dis format m ≡ at_rate dis format (rate_after dis m))
choice_at dis format n m dcs h =
    let c = chosen_at (not (has_bit 10 dis.caps.0)) (not (has_width format.width dis.caps.0)) (format.fine && not (has_bit 15 dis.caps.0)) (at_rate dis format (rate_after dis n)) (at_rate dis format (rate_after dis m)) dcs h in
    (rate_is dis format (rate_after dis n) dcs c.0, c.1)

-- ---- WHAT IS KNOWN

pub record IsStep (format : Format) (step n : ℕ) (taken : Option Dis) (dis : Dis) (dcs : Dcs) : Type 0 where
  pub is_taken : taken ≡ Some dis
  pub chosen : choice dis format step ≡ Ok dcs
  pub step_is : step ≡ n

abbrev pub Knows : Format → State → (step n : ℕ) → Option Dis → Type 0
Knows format AwaitDis step n t = step ≡ 0
Knows format (AwaitCfr dis dcs) step n t = IsStep format step n t dis dcs
Knows format (AwaitMcf dis dcs) step n t = IsStep format step n t dis dcs
Knows format state step n t = Unit {0}

abbrev MoveKnows : Format → State → (step n : ℕ) → Option Dis → Move → Type 0
MoveKnows format s step n t Stays = Knows format s step n t
MoveKnows format s step n t (Trains dis dcs c) = IsStep format c.step n t dis dcs
MoveKnows format s step n t (Sends dis dcs c) = IsStep format c.step n t dis dcs
MoveKnows format s step n t (AsksAgain c) = Knows format s c.step n t
MoveKnows format s step n t (Turns next t1 c) = c.step ≡ 0
MoveKnows format s step n t (Closes outcome c) = Unit {0}
MoveKnows format s step n t HangsUp = Unit {0}

abbrev pub CoreKnows : CallerCore → ℕ → Option Dis → Type 0
CoreKnows a n t = Knows a.format a.state a.counts.step n t

moved_knows : (a : CallerCore) (m : Move) (n : ℕ) (t : Option Dis) → MoveKnows a.format a.state a.counts.step n t m → CoreKnows (moved a m) n t
moved_knows a Stays n t h = h
moved_knows a (Trains dis dcs c) n t h = h
moved_knows a (Sends dis dcs c) n t h = h
moved_knows a (AsksAgain c) n t h = h
moved_knows a (Turns format t1 c) n t h = h
moved_knows a (Closes outcome c) n t h = tt
moved_knows a HangsUp n t h = tt

if_knows : (f : Format) (s : State) (p n : ℕ) (t : Option Dis) (b : Bool) (x y : Move) → MoveKnows f s p n t x → MoveKnows f s p n t y → MoveKnows f s p n t (if b then x else y)
if_knows f s p n t true x y h k = h
if_knows f s p n t false x y h k = k

choice_knows : (f : Format) (s : State) (p n : ℕ) (dis : Dis) (c : Counts) (r : Result Dcs Refusal) → choice dis f c.step ≡ r → c.step ≡ n → MoveKnows f s p n (Some dis) (by_choice dis c r)
choice_knows f s p n dis c (Ok dcs) e k = record { is_taken = refl; chosen = e; step_is = k }
choice_knows f s p n dis c (Err x) e k = tt

turns_knows : (f : Format) (s : State) (p n : ℕ) (t : Option Dis) (now : ℕ) (turn : Option Format) (c : Counts) (m : Move) → MoveKnows f s p n t m → MoveKnows f s p n t (turns_or now turn c m)
turns_knows f s p n t now (Some format) c m h = refl
turns_knows f s p n t now None c m h = h

frame_knows : (now : ℕ) (f : Format) (turn : Option Format) (pages : ℕ) (s : State) (c : Counts) (frame : Option Frame) (n : ℕ) (t : Option Dis) → Knows f s c.step n t
    → MoveKnows f s c.step (failed_by s false frame n) (dis_by s false frame t) (on_frame now f turn pages s c frame)
frame_knows now f turn pages AwaitDis c (Some (frames.Dis dis)) n t h = choice_knows f AwaitDis c.step 0 dis (first_try c) (choice dis f c.step) refl h
frame_knows now f turn pages AwaitDis c (Some frames.Dcn) n t h = tt
frame_knows now f turn pages (AwaitCfr dis dcs) c (Some frames.Cfr) n t h = h
frame_knows now f turn pages (AwaitCfr dis dcs) c (Some frames.Ftt) n t h =
    subst (λ (u : Option Dis). MoveKnows f (AwaitCfr dis dcs) c.step (n + 1) u (by_choice dis (next_step c) (choice dis f (c.step + 1)))) (sym h.is_taken)
    (choice_knows f (AwaitCfr dis dcs) c.step (n + 1) dis (next_step c) (choice dis f (c.step + 1)) refl (ap (λ (k : ℕ). k + 1) h.step_is))
frame_knows now f turn pages (AwaitCfr dis dcs) c (Some (frames.Dis other)) n t h = if_knows f (AwaitCfr dis dcs) c.step n t (nat_lt c.tries most_tries) (Trains dis dcs (next_try c)) (Closes outcomes.NoReply c) h tt
frame_knows now f turn pages (AwaitCfr dis dcs) c (Some frames.Dcn) n t h = tt
frame_knows now f turn pages (AwaitMcf dis dcs) c (Some frames.Mcf) n t h =
    if_knows f (AwaitMcf dis dcs) c.step n t (is_last_page pages c.page) (Closes outcomes.Delivered (one_delivered c)) (turns_or now turn c (Sends dis dcs (next_page c))) tt
    (turns_knows f (AwaitMcf dis dcs) c.step n t now turn c (Sends dis dcs (next_page c)) h)
frame_knows now f turn pages (AwaitMcf dis dcs) c (Some frames.Rtp) n t h =
    if_knows f (AwaitMcf dis dcs) c.step n t (is_last_page pages c.page) (Closes outcomes.Delivered (one_delivered c)) (turns_or now turn c (Trains dis dcs (next_page c))) tt
    (turns_knows f (AwaitMcf dis dcs) c.step n t now turn c (Trains dis dcs (next_page c)) h)
frame_knows now f turn pages (AwaitMcf dis dcs) c (Some frames.Rtn) n t h = if_knows f (AwaitMcf dis dcs) c.step n t (nat_lt c.refused 2) (Trains dis dcs (one_refused c)) (Closes outcomes.PageRefused c) h tt
frame_knows now f turn pages (AwaitMcf dis dcs) c (Some frames.Dcn) n t h = tt
frame_knows now f turn pages s c frame n t h = h

timers_know : (f : Format) (x y : Bool) (s : State) (c : Counts) (n : ℕ) (t : Option Dis) → Knows f s c.step n t → MoveKnows f s c.step n t (on_timers x y s c)
timers_know f x y Idle c n t h = tt
timers_know f x y (Closing outcome) c n t h = tt
timers_know f true y AwaitDis c n t h = tt
timers_know f false y AwaitDis c n t h = h
timers_know f x true (AwaitCfr dis dcs) c n t h = if_knows f (AwaitCfr dis dcs) c.step n t (nat_lt c.tries most_tries) (Trains dis dcs (next_try c)) (Closes outcomes.NoReply c) h tt
timers_know f x false (AwaitCfr dis dcs) c n t h = h
timers_know f x true (AwaitMcf dis dcs) c n t h = if_knows f (AwaitMcf dis dcs) c.step n t (nat_lt c.tries most_tries) (AsksAgain (next_try c)) (Closes outcomes.NoReply c) h tt
timers_know f x false (AwaitMcf dis dcs) c n t h = h

-- ---- a piece, and a tick

none_failed : (s : State) (frame : Option Frame) (n : ℕ) → failed_by s true frame n ≡ n
none_failed Idle frame n = refl
none_failed AwaitDis frame n = refl
none_failed (AwaitCfr dis dcs) frame n = refl
none_failed (AwaitMcf dis dcs) frame n = refl
none_failed (Closing outcome) frame n = refl

none_taken : (s : State) (frame : Option Frame) (t : Option Dis) → dis_by s true frame t ≡ t
none_taken Idle frame t = refl
none_taken AwaitDis frame t = refl
none_taken (AwaitCfr dis dcs) frame t = refl
none_taken (AwaitMcf dis dcs) frame t = refl
none_taken (Closing outcome) frame t = refl

came_knows : (a : CallerCore) (piece : pieces.Piece) (now n : ℕ) (t : Option Dis) → CoreKnows a n t → CoreKnows (came a piece now) (failed_with a piece n) (dis_with a piece t)
came_knows a (pieces.Frame octets) now n t h = moved_knows a _ _ _ (by (waits a.waiting))
  where
    by : (w : Bool) → MoveKnows a.format a.state a.counts.step (failed_by a.state w (frame_of octets) n) (dis_by a.state w (frame_of octets) t)
        (if w then Stays else on_frame now a.format (turn_after a.formats a.counts.page) a.pages a.state a.counts (frame_of octets))
    by true =
        subst (λ (k : ℕ). Knows a.format a.state a.counts.step k (dis_by a.state true (frame_of octets) t)) (sym (none_failed a.state (frame_of octets) n))
        (subst (λ (u : Option Dis). Knows a.format a.state a.counts.step n u) (sym (none_taken a.state (frame_of octets) t)) h)
    by false = frame_knows now a.format (turn_after a.formats a.counts.page) a.pages a.state a.counts (frame_of octets) n t h
came_knows a (pieces.Start k) now n t h = h
came_knows a (pieces.Octets os) now n t h = h
came_knows a (pieces.End w) now n t h = h
came_knows a pieces.Gap now n t h = h

timed_knows : (a : CallerCore) (now n : ℕ) (t : Option Dis) → CoreKnows a n t → CoreKnows (timed a now) n t
timed_knows a now n t h =
    moved_knows a _ n t (if_knows a.format a.state a.counts.step n t (waits a.waiting) Stays (on_timers (is_due a.t1 now) (is_due a.t4 now) a.state a.counts) h
    (timers_know a.format (is_due a.t1 now) (is_due a.t4 now) a.state a.counts n t h))

given_knows : (f : Format) (s : State) (p n : ℕ) (t : Option Dis) → Knows f s p n t → Knows f (state_when_given s) p n t
given_knows f Idle p n t h = h
given_knows f AwaitDis p n t h = h
given_knows f (AwaitCfr dis dcs) p n t h = h
given_knows f (AwaitMcf dis dcs) p n t h = h
given_knows f (Closing x) p n t h = tt

after_knows : (a : CallerCore) (now : ℕ) (packet : Packet) (rest : List Due) (n : ℕ) (t : Option Dis) → CoreKnows a n t → CoreKnows (after_giving a now packet rest) n t
after_knows a now packet [] n t h = given_knows a.format a.state a.counts.step n t h
after_knows a now packet (r ∷ rest) n t h = h

first_knows : (writes : Writing) (job : JobValue) (a : CallerCore) (now : ℕ) (due : List Due) (n : ℕ) (t : Option Dis) → CoreKnows a n t → CoreKnows (given_first writes job a now due).core n t
first_knows writes job a now [] n t h = h
first_knows writes job a now (r ∷ due) n t h = after_knows a now (taken writes job r due).packet (taken writes job r due).rest n t h

ticked_knows : (writes : Writing) (job : JobValue) (a : CallerCore) (now n : ℕ) (t : Option Dis) → CoreKnows a n t → CoreKnows (ticked writes job a now).core n t
ticked_knows writes job a now n t h = by (timed a now) (timed_knows a now n t h) (pace_allows (timed a now).pace.last now)
  where
    by : (b : CallerCore) → CoreKnows b n t → (x : Bool) → CoreKnows (if◌then◌else◌ {A = TickResult} x (given_first writes job b now b.waiting) (record { core = b; given = None })).core n t
    by b k true = first_knows writes job b now b.waiting n t k
    by b k false = k

-- ---- a call

pub call_knows : (writes : Writing) (job : JobValue) (core : CallerCore) (start : ℕ) (events : List CallEvent) →
    let begun : CallerCore = started core job start in
    CoreKnows (after_events writes job begun events) (failures writes job begun events) (dis_taken writes job begun events)
call_knows writes job core start [] = refl
call_knows writes job core start (Comes piece now ∷ before) =
    let begun : CallerCore = started core job start in
    came_knows (after_events writes job begun before) piece now (failures writes job begun before) (dis_taken writes job begun before) (call_knows writes job core start before)
call_knows writes job core start (Ticks now ∷ before) =
    let begun : CallerCore = started core job start in
    ticked_knows writes job (after_events writes job begun before) now (failures writes job begun before) (dis_taken writes job begun before) (call_knows writes job core start before)

told : (format : Format) (step n : ℕ) (taken : Option Dis) (dis : Dis) (dcs : Dcs) → IsStep format step n taken dis dcs → IsAtRate format n taken dis dcs
told format step n taken dis dcs k =
    let r : IsRate dis format (rate_after dis step) dcs = (choice_at dis format step step dcs k.chosen).0 in
    record { is_taken = k.is_taken; rate = ap (rate_after dis) (sym k.step_is) ∙ r.rate; dcs_is = r.dcs_is }

stepped : (a : CallerCore) (n : ℕ) (taken : Option Dis) (dis : Dis) (dcs : Dcs) (octets : List ℕ) (now : ℕ) → IsStep a.format a.counts.step n taken dis dcs
    → a.state ≡ AwaitCfr dis dcs → a.waiting ≡ [] → frame_of octets ≡ Some frames.Ftt → (came a (pieces.Frame octets) now).state ≡ trained_at dis a.format (rate_after dis (n + 1))
stepped a n taken dis dcs octets now k s w f = ap (λ (m : Move). (moved a m).state) move ∙ by (rate_after dis (a.counts.step + 1)) ∙ ap (λ (p : ℕ). trained_at dis a.format (rate_after dis (p + 1))) k.step_is
  where
    move : heard a (pieces.Frame octets) now ≡ by_choice dis (next_step a.counts) (at_rate dis a.format (rate_after dis (a.counts.step + 1)))
    move =
        ap (λ (due : List Due). if waits due then Stays else on_frame now a.format (turn_after a.formats a.counts.page) a.pages a.state a.counts (frame_of octets)) w
        ∙ ap (λ (state : State). on_frame now a.format (turn_after a.formats a.counts.page) a.pages state a.counts (frame_of octets)) s
        ∙ ap (λ (o : Option Frame). on_frame now a.format (turn_after a.formats a.counts.page) a.pages (AwaitCfr dis dcs) a.counts o) f
        ∙ ap (λ (r : Result Dcs Refusal). by_choice dis (next_step a.counts) r) (choice_at dis a.format a.counts.step (a.counts.step + 1) dcs k.chosen).1

    by : (o : Option Rate) → (moved a (by_choice dis (next_step a.counts) (at_rate dis a.format o))).state ≡ trained_at dis a.format o
    by (Some rate) = refl
    by None = refl

pub ftt_steps_the_rates : FttStepsTheRates
ftt_steps_the_rates writes job core start events dis dcs =
    let begun : CallerCore = started core job start in
    let a : CallerCore = after_events writes job begun events in
    let n : ℕ = failures writes job begun events in
    let t : Option Dis = dis_taken writes job begun events in
    let k : CoreKnows a n t = call_knows writes job core start events in
    let in_state : (s : State) → a.state ≡ s → Knows a.format s a.counts.step n t = λ s e. subst (λ (x : State). Knows a.format x a.counts.step n t) e k in (
      λ e. told a.format a.counts.step n t dis dcs (in_state (AwaitCfr dis dcs) e),
      λ e. told a.format a.counts.step n t dis dcs (in_state (AwaitMcf dis dcs) e),
      λ octets now s w f. stepped a n t dis dcs octets now (in_state (AwaitCfr dis dcs) s) s w f,
    )
