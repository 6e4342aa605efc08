-- The caller counts the images that are answered with MCF or RTP.
use Rattle.std.proofs.Common.{nat_eq, ◌≡◌, ℕ, ◌+◌, ◌-◌, ◌^◌, ◌<◌, ◌≤◌, min, Bool, true, false, List, [], ◌∷◌, Option, Some, None, Result, Ok, Err, ◌⊎◌, inl, inr, refl, sym, ◌∙◌, ap, subst, nat_lt, nat_le, arith, length, drop, take, length-drop, length-take, if◌then◌else◌}
use Rattle.fax_runcodes.specs.declared.format.Format.{Format}
use Rattle.fax_frames.specs.declared.dis.Dis.{Dis}
use Rattle.fax_frames.specs.declared.dcs.Dcs.{Dcs}
use Rattle.fax_frames.specs.declared.rate.Rate.{Rate}
use Rattle.fax_frames.specs.declared.frame.Frame.{Frame}
use Rattle.fax_frames.specs.declared.frame.Frame.TheVariants as frames
use Rattle.fax_frames.specs.declared.writing.Plain.TheVariants as plain
use Rattle.fax_frames.specs.declared.choice.Refusal.{Refusal}
use Rattle.fax_frames.specs.Choice.{choice}
use Rattle.fax_frames.specs.Rates.{kind_of, training_of}
use Rattle.fax_frames.specs.Frames.{frame_of}
use Rattle.fax_frames.specs.Written.{written_plain, written_dcs}
use Rattle.fax_timers.specs.Moments.{moment_after, is_due}
use Rattle.fax_timers.specs.declared.pace.LastPacket.{LastPacket}
use Rattle.fax_timers.specs.Paces.{pace_after, pace_allows, packet_at}
use Rattle.fax_timers.specs.Spans.{pace, longest_pause}
use Rattle.fax_timers.specs.Spans as spans
use Rattle.fax_ifp.specs.Elements as elements
use Rattle.fax_ifp.specs.Pieces as pieces
use Rattle.fax_jobs.specs.declared.outcome.Outcome.{Outcome}
use Rattle.fax_jobs.specs.declared.outcome.Outcome.TheVariants as outcomes
use Rattle.fax_jobs.specs.Jobs.{JobValue}
use Rattle.fax_call.specs.declared.state.State.{State}
use Rattle.fax_call.specs.declared.state.State.TheVariants.{Idle, AwaitDis, AwaitCfr, AwaitMcf, Closing}
use Rattle.fax_call.specs.Replies.{Packet, Signals, Tells, Part, Due, One, Text, waits, signals_preamble, part_length, training_check, training, is_last_page, command, image, goodbye, turn_after, command_by, command_after}
use Rattle.fax_call.specs.Table.{Counts, Move, Stays, Trains, Sends, AsksAgain, Closes, HangsUp, outcome_of, first_try, next_try, next_step, next_page, one_delivered, one_refused, by_choice, tries_again, asks_again, on_frame, on_timers, Turns, turns_or, gives_up_dis}
use Rattle.fax_call.specs.Calls.{CallerCore, started, moved, heard, came, timed, text_at, TakenPart, taken_text, taken, state_when_given, outcome_when_given, t4_when_given, after_giving, given_first, paced, ticked, TickResult}
use Rattle.fax_call.specs.Emission.{Emission, emitted_at, ended_frame, Mark, Gave, Acknowledged, Refused, Begins, gave_all, elements_given, acknowledged_by, marks_heard, marks_given, frame_at, is_command, is_preamble, Reply, Unasked, Asked, Answered, closed, reply_given, reply_or, reply_heard, replied}
use Rattle.fax_call.specs.Delivery.{good_one, answered_if, answered_before, answered_images, is_over}
use Rattle.fax_call.proofs.PacketsBack.{elements_in, signal_back, frame_back, part_back, read_dcs, dcs_back}
use Rattle.fax_call.proofs.Waiting.{Texts, Quiet, pushed, pushed_given, NoCommand, after_one, reply_after, quiet_replied, no_text, SafeTo, PostOf, TextReady, high_speed, AreParts, check_parts, part_some, code_fits, data_ends_nothing, frame_ends, emits_text}
use Rattle.fax_call.proofs.Emitted.{Good, reply_by, replied_by, elements_ack, le_if, gt_if, timed_good}

-- no command is open, and the count is that of the answered images
pub record IsSettled (n : ℕ) (marks : List Mark) : Type 0 where
  pub count : n ≡ answered_images marks
  pub still : replied marks ≡ Asked → ⊥

closed_same : (r : Reply) → (r ≡ Asked → ⊥) → closed r ≡ r
closed_same Unasked h = refl
closed_same Asked h = absurd (h refl)
closed_same (Answered good) h = refl

reply_same : (before : List elements.Element) (e : elements.Element) (r : Reply) → is_command (frame_at before e) ≡ false → (r ≡ Asked → ⊥) → after_one before e r ≡ r
reply_same before e r n h = ap (λ (t : Bool). reply_given t (is_preamble (pieces.since_indicator before)) r) n ∙ closed_same r h

one_more : (n k : ℕ) (o : Option Emission) (new old : Reply) → new ≡ old → n ≡ good_one old + k → n ≡ good_one (reply_or o new) + (answered_if o old + k)
one_more n k (Some x) new old e h = h ∙ (omega arith)
one_more n k None new old e h = let q : good_one new ≡ good_one old = ap good_one e in omega arith

still_more : (o : Option Emission) (new old : Reply) → new ≡ old → (old ≡ Asked → ⊥) → reply_or o new ≡ Asked → ⊥
still_more (Some x) new old e h q = cc
still_more None new old e h q = h (sym e ∙ q)

gave_settled : (n : ℕ) (es : List elements.Element) (marks : List Mark) → NoCommand (elements_given marks) es → IsSettled n marks → IsSettled n (gave_all es marks)
gave_settled n [] marks k s = s
gave_settled n (e ∷ es) marks k s =
    let o : Option Emission = emitted_at (elements_given marks) e in
    let r : Reply = replied marks in
    let same : after_one (elements_given marks) e r ≡ r = reply_same (elements_given marks) e r k.0 s.still in
    gave_settled n es (Gave e ∷ marks) k.1 (record { count = one_more n (answered_before marks) o (after_one (elements_given marks) e r) r same s.count; still = still_more o (after_one (elements_given marks) e r) r same s.still })

quiet_before : (es : List elements.Element) (marks : List Mark) → Quiet (elements_given marks) es → answered_before (gave_all es marks) ≡ answered_before marks
quiet_before [] marks q = refl
quiet_before (e ∷ es) marks q =
    quiet_before es (Gave e ∷ marks) q.1 ∙ ap (λ (o : Option Emission). answered_if o (replied marks) + answered_before marks) q.0 ∙ plus_zero (answered_before marks)
  where
    plus_zero : (k : ℕ) → 0 + k ≡ k
    plus_zero k = omega arith

-- What waits: a command that will be asked, or what asks nothing up to a text, after which a command stands.
abbrev pub WillAsk : List Due → List elements.Element → Type 0
WillAsk [] before = ⊥
WillAsk (One p ∷ []) before = (r : Reply) → reply_after before (elements_in p) r ≡ Asked
WillAsk (One p ∷ d ∷ due) before = NoCommand before (elements_in p) × WillAsk (d ∷ due) (pushed (elements_in p) before)
WillAsk (Text n dcs from ∷ due) before = ⊥

abbrev pub Plan : List Due → List elements.Element → Type 0
Plan [] before = Unit {0}
Plan (One p ∷ due) before = NoCommand before (elements_in p) × Plan due (pushed (elements_in p) before)
Plan (Text n dcs from ∷ due) before = (after : List elements.Element) → WillAsk due after

pub record Settled (due : List Due) (n : ℕ) (marks : List Mark) : Type 0 where
  pub is : IsSettled n marks
  pub plan : Plan due (elements_given marks)

-- A command waits or was given. L says that a tick came at the last moment.
abbrev pub Asking : Type 0 → List Due → ℕ → List Mark → Type 0
Asking L [] n marks = (n ≡ answered_before marks) × (replied marks ≡ Asked)
Asking L (d ∷ due) n marks = (n ≡ answered_before marks) × WillAsk (d ∷ due) (elements_given marks) × (L ⊎ (replied marks ≡ Unasked))

abbrev pub InMcf : Type 0 → List Due → ℕ → List Mark → Type 0
InMcf L due n marks = ((no_text due ≡ false) × Settled due n marks) ⊎ ((no_text due ≡ true) × Asking L due n marks)

-- the last packets wait
abbrev pub OverWith : Type 0 → Outcome → List Due → ℕ → List Mark → Type 0
OverWith L x due n marks =
    (no_text due ≡ true) × Plan due (elements_given marks) × (IsSettled n marks ⊎ (L × (x ≡ outcomes.NoReply) × (n ≡ answered_before marks)))

-- while the call is on
abbrev pub Running : Type 0 → State → List Due → ℕ → List Mark → Type 0
Running L Idle due n marks = ⊥
Running L AwaitDis due n marks = (no_text due ≡ true) × Settled due n marks
Running L (AwaitCfr dis dcs) due n marks = (no_text due ≡ true) × Settled due n marks
Running L (AwaitMcf dis dcs) due n marks = InMcf L due n marks
Running L (Closing x) due n marks = OverWith L x due n marks

abbrev pub IsRunning : Type 0 → CallerCore → List Mark → Type 0
IsRunning L a marks = Running L a.state a.waiting a.counts.delivered marks

-- and after it
abbrev pub Ended : Type 0 → Outcome → ℕ → List Mark → Type 0
Ended L x n marks = (n ≡ answered_images marks) ⊎ (((x ≡ outcomes.NoReply) × L) × (n ≡ answered_before marks))

abbrev pub StateOf : Type 0 → State → List Due → ℕ → List Mark → Option Outcome → Type 0
StateOf L Idle due n marks o = (x : Outcome) × (o ≡ Some x) × Ended L x n marks × (due ≡ [])
StateOf L AwaitDis due n marks o = Running L AwaitDis due n marks
StateOf L (AwaitCfr dis dcs) due n marks o = Running L (AwaitCfr dis dcs) due n marks
StateOf L (AwaitMcf dis dcs) due n marks o = Running L (AwaitMcf dis dcs) due n marks
StateOf L (Closing x) due n marks o = Running L (Closing x) due n marks

abbrev pub Counted : Type 0 → CallerCore → List Mark → Type 0
Counted L a marks = StateOf L a.state a.waiting a.counts.delivered marks a.outcome

runs_in : (L : Type 0) (state : State) (due : List Due) (n : ℕ) (marks : List Mark) (o : Option Outcome) → Running L state due n marks → StateOf L state due n marks o
runs_in L Idle due n marks o s = absurd s
runs_in L AwaitDis due n marks o s = s
runs_in L (AwaitCfr dis dcs) due n marks o s = s
runs_in L (AwaitMcf dis dcs) due n marks o s = s
runs_in L (Closing x) due n marks o s = s

runs : (L : Type 0) (a : CallerCore) (marks : List Mark) → IsRunning L a marks → Counted L a marks
runs L a marks s = runs_in L a.state a.waiting a.counts.delivered marks a.outcome s

-- a call that is on
pub is_on : (L : Type 0) (a : CallerCore) (marks : List Mark) → is_over a.state ≡ false → Counted L a marks → IsRunning L a marks
is_on L a marks h s = by a.state h s
  where
    by : (state : State) → is_over state ≡ false → StateOf L state a.waiting a.counts.delivered marks a.outcome → Running L state a.waiting a.counts.delivered marks
    by Idle h s = cc
    by AwaitDis h s = s
    by (AwaitCfr dis dcs) h s = s
    by (AwaitMcf dis dcs) h s = s
    by (Closing x) h s = s

-- L may come to hold
asking_too : (L M : Type 0) (f : L → M) (due : List Due) (n : ℕ) (marks : List Mark) → Asking L due n marks → Asking M due n marks
asking_too L M f [] n marks s = s
asking_too L M f (d ∷ due) n marks (c, a, inl l) = (c, a, inl (f l))
asking_too L M f (d ∷ due) n marks (c, a, inr e) = (c, a, inr e)

running_too : (L M : Type 0) (f : L → M) (state : State) (due : List Due) (n : ℕ) (marks : List Mark) → Running L state due n marks → Running M state due n marks
running_too L M f Idle due n marks s = s
running_too L M f AwaitDis due n marks s = s
running_too L M f (AwaitCfr dis dcs) due n marks s = s
running_too L M f (AwaitMcf dis dcs) due n marks (inl s) = inl s
running_too L M f (AwaitMcf dis dcs) due n marks (inr s) = inr (s.0, asking_too L M f due n marks s.1)
running_too L M f (Closing x) due n marks (e, p, inl s) = (e, p, inl s)
running_too L M f (Closing x) due n marks (e, p, inr g) = (e, p, inr (f g.0, g.1, g.2))

ended_too : (L M : Type 0) (f : L → M) (x : Outcome) (n : ℕ) (marks : List Mark) → Ended L x n marks → Ended M x n marks
ended_too L M f x n marks (inl c) = inl c
ended_too L M f x n marks (inr g) = inr ((g.0.0, f g.0.1), g.1)

pub counted_too : (L M : Type 0) (f : L → M) (a : CallerCore) (marks : List Mark) → Counted L a marks → Counted M a marks
counted_too L M f a marks s = by a.state s
  where
    by : (state : State) → StateOf L state a.waiting a.counts.delivered marks a.outcome → StateOf M state a.waiting a.counts.delivered marks a.outcome
    by Idle s = (s.0, s.1, ended_too L M f s.0 a.counts.delivered marks s.2, s.3)
    by AwaitDis s = s
    by (AwaitCfr dis dcs) s = s
    by (AwaitMcf dis dcs) s = running_too L M f (AwaitMcf dis dcs) a.waiting a.counts.delivered marks s
    by (Closing x) s = running_too L M f (Closing x) a.waiting a.counts.delivered marks s

-- what waits asks
signal_plan : (code : ℕ) (due : List Due) (before : List elements.Element) → code < 16 → Plan due (elements.Signal code ∷ before) → Plan (One (Signals code) ∷ due) before
signal_plan code due before h s = subst (λ (es : List elements.Element). NoCommand before es × Plan due (pushed es before)) (sym (signal_back code h)) ((refl, tt), s)

frame_asks_none : (f : List ℕ) (before : List elements.Element) → is_command (frame_of f) ≡ false → NoCommand (elements.Signal 3 ∷ before) (elements.Field 0 0 f ∷ elements.Field 0 4 [] ∷ [])
frame_asks_none f before n = (ap is_command (data_ends_nothing f (elements.Signal 3 ∷ before)), (ap is_command (frame_ends f before) ∙ n, tt))

frame_plan : (f : List ℕ) (due : List Due) (before : List elements.Element) → 1 ≤ length f → length f ≤ 256 → is_command (frame_of f) ≡ false →
    Plan due (elements.Field 0 4 [] ∷ elements.Field 0 0 f ∷ elements.Signal 3 ∷ before) → Plan (One (Signals 3) ∷ One (Tells f) ∷ due) before
frame_plan f due before h k n s =
    signal_plan 3 (One (Tells f) ∷ due) before (omega arith)
    (subst (λ (es : List elements.Element). NoCommand (elements.Signal 3 ∷ before) es × Plan due (pushed es (elements.Signal 3 ∷ before))) (sym (frame_back f h k)) (frame_asks_none f before n, s))

parts_plan : (rate : Rate) (due : List Due) (before : List elements.Element) → AreParts rate due → Plan due before
parts_plan rate [] before a = tt
parts_plan rate (One (Part kind end os) ∷ due) before a =
    subst (λ (k : ℕ). Plan (One (Part k end os) ∷ due) before) (sym a.0)
    (subst (λ (es : List elements.Element). NoCommand before es × Plan due (pushed es before)) (sym (part_back rate end os a.1 a.2)) (
      (ap is_command (high_speed rate (if end then 7 else 6) before), tt),
      parts_plan rate due (elements.Field (kind_of rate) (if end then 7 else 6) os ∷ before) a.3,
    ))
parts_plan rate (One (Signals c) ∷ due) before a = absurd a
parts_plan rate (One (Tells g) ∷ due) before a = absurd a
parts_plan rate (Text p d g ∷ due) before a = absurd a

training_plan : (dcs : Dcs) (before : List elements.Element) → Plan (training dcs) before
training_plan dcs before =
    let front : List elements.Element = elements.Field 0 4 [] ∷ elements.Field 0 0 (written_dcs dcs) ∷ elements.Signal 3 ∷ before in
    frame_plan (written_dcs dcs) (One (Signals (training_of dcs.rate true)) ∷ training_check dcs) before (omega arith) (omega arith) (ap is_command (dcs_back dcs))
    (signal_plan (training_of dcs.rate true) (training_check dcs) front (code_fits dcs.rate true) (parts_plan dcs.rate (training_check dcs) (elements.Signal (training_of dcs.rate true) ∷ front) (check_parts dcs)))

parts_plain : (rate : Rate) (due : List Due) → AreParts rate due → no_text due ≡ true
parts_plain rate [] a = refl
parts_plain rate (One (Part kind end os) ∷ due) a = parts_plain rate due a.3
parts_plain rate (One (Signals c) ∷ due) a = absurd a
parts_plain rate (One (Tells g) ∷ due) a = absurd a
parts_plain rate (Text p d g ∷ due) a = absurd a

goodbye_plan : (before : List elements.Element) → Plan goodbye before
goodbye_plan before = frame_plan (written_plain plain.Dcn true) [] before (omega arith) (omega arith) refl tt

command_told : (end : Bool) (turn : Option Format) (before : List elements.Element) (r : Reply) →
    reply_after (elements.Signal 3 ∷ before) (elements.Field 0 0 (written_plain (command_by end turn) true) ∷ elements.Field 0 4 [] ∷ []) r ≡ Asked
unfolding ended_frame
command_told true turn before r = refl
command_told false (Some format) before r = refl
command_told false None before r = refl

command_asks : (end : Bool) (turn : Option Format) (before : List elements.Element) → WillAsk (command (command_by end turn)) before
command_asks end turn before =
    let f : List ℕ = written_plain (command_by end turn) true in
    subst (λ (es : List elements.Element). NoCommand before es × WillAsk (One (Tells f) ∷ []) (pushed es before)) (sym (signal_back 3 (omega arith))) (
      (refl, tt),
      subst (λ (es : List elements.Element). (r : Reply) → reply_after (elements.Signal 3 ∷ before) es r ≡ Asked) (sym (frame_back f (omega arith) (omega arith))) (command_told end turn before),
    )

image_plan : (end : Bool) (turn : Option Format) (page : ℕ) (dcs : Dcs) (before : List elements.Element) → Plan (image (command_by end turn) page dcs) before
image_plan end turn page dcs before =
    signal_plan (training_of dcs.rate false) (Text page dcs 0 ∷ command (command_by end turn)) before (code_fits dcs.rate false) (λ after. command_asks end turn after)

-- moves
trains : (L : Type 0) (a : CallerCore) (marks : List Mark) (dis : Dis) (dcs : Dcs) (c : Counts) → IsSettled c.delivered marks → IsRunning L (moved a (Trains dis dcs c)) marks
trains L a marks dis dcs c s = (parts_plain dcs.rate (training_check dcs) (check_parts dcs), record { is = s; plan = training_plan dcs (elements_given marks) })

sends : (L : Type 0) (a : CallerCore) (marks : List Mark) (dis : Dis) (dcs : Dcs) (c : Counts) → IsSettled c.delivered marks → IsRunning L (moved a (Sends dis dcs c)) marks
sends L a marks dis dcs c s = inl (refl, record { is = s; plan = image_plan (is_last_page a.pages c.page) (turn_after a.formats c.page) c.page dcs (elements_given marks) })

turns : (L : Type 0) (a : CallerCore) (marks : List Mark) (now : ℕ) (c : Counts) (m : Move) (t : Option Format) → IsSettled (c.delivered + 1) marks → IsRunning L (moved a m) marks → IsRunning L (moved a (turns_or now t c m)) marks
turns L a marks now c m (Some format) s r = (refl, record { is = s; plan = tt })
turns L a marks now c m None s r = r

closes : (L : Type 0) (a : CallerCore) (marks : List Mark) (x : Outcome) (c : Counts) → IsSettled c.delivered marks → IsRunning L (moved a (Closes x c)) marks
closes L a marks x c s = (refl, goodbye_plan (elements_given marks), inl s)

hangs : (L : Type 0) (a : CallerCore) (marks : List Mark) → a.counts.delivered ≡ answered_images marks → Counted L (moved a HangsUp) marks
hangs L a marks c = (outcomes.HungUp, refl, inl c, refl)

if_running : (L : Type 0) (a : CallerCore) (marks : List Mark) (t : Bool) (m n : Move) → IsRunning L (moved a m) marks → IsRunning L (moved a n) marks → IsRunning L (moved a (if t then m else n)) marks
if_running L a marks true m n x y = x
if_running L a marks false m n x y = y

chooses : (L : Type 0) (a : CallerCore) (marks : List Mark) (dis : Dis) (c : Counts) (r : Result Dcs Refusal) → IsSettled c.delivered marks → IsRunning L (moved a (by_choice dis c r)) marks
chooses L a marks dis c (Ok dcs) s = trains L a marks dis dcs c s
chooses L a marks dis c (Err e) s = closes L a marks (outcome_of e) c s

tries : (L : Type 0) (a : CallerCore) (marks : List Mark) (dis : Dis) (dcs : Dcs) (c : Counts) → IsSettled c.delivered marks → IsRunning L (moved a (tries_again dis dcs c)) marks
tries L a marks dis dcs c s =
    if_running L a marks (nat_lt c.tries 3) (Trains dis dcs (next_try c)) (Closes outcomes.NoReply c) (trains L a marks dis dcs (next_try c) s) (closes L a marks outcomes.NoReply c s)

-- a frame comes
heard_same : (good : Bool) (r : Reply) → (r ≡ Asked → ⊥) → reply_heard good r ≡ r
heard_same good Unasked h = refl
heard_same good Asked h = absurd (h refl)
heard_same good (Answered x) h = refl

settled_by : (n k : ℕ) (good : Bool) (r : Reply) → (r ≡ Asked → ⊥) → n ≡ good_one r + k → (n ≡ good_one (reply_heard good r) + k) × (reply_heard good r ≡ Asked → ⊥)
settled_by n k good r s c =
    let e : reply_heard good r ≡ r = heard_same good r s in
    (subst (λ (x : Reply). n ≡ good_one x + k) (sym e) c, λ q. s (sym e ∙ q))

settled_heard : (n : ℕ) (frame : Option Frame) (marks : List Mark) → IsSettled n marks → IsSettled n (acknowledged_by frame marks)
settled_heard n (Some frames.Mcf) marks s = let p = settled_by n (answered_before marks) true (replied marks) s.still s.count in record { count = p.0; still = p.1 }
settled_heard n (Some frames.Rtp) marks s = let p = settled_by n (answered_before marks) true (replied marks) s.still s.count in record { count = p.0; still = p.1 }
settled_heard n (Some frames.Rtn) marks s = let p = settled_by n (answered_before marks) false (replied marks) s.still s.count in record { count = p.0; still = p.1 }
settled_heard n frame marks s = s

all_heard : (due : List Due) (n : ℕ) (frame : Option Frame) (marks : List Mark) → Settled due n marks → Settled due n (acknowledged_by frame marks)
all_heard due n frame marks s = record { is = settled_heard n frame marks s.is; plan = subst (Plan due) (sym (elements_ack frame marks)) s.plan }

before_heard : (frame : Option Frame) (marks : List Mark) → answered_before (acknowledged_by frame marks) ≡ answered_before marks
before_heard (Some frames.Mcf) marks = refl
before_heard (Some frames.Rtp) marks = refl
before_heard (Some frames.Rtn) marks = refl
before_heard frame marks = refl

over_heard : (L : Type 0) (x : Outcome) (due : List Due) (n : ℕ) (frame : Option Frame) (marks : List Mark) → OverWith L x due n marks → OverWith L x due n (acknowledged_by frame marks)
over_heard L x due n frame marks (e, p, inl s) = (e, subst (Plan due) (sym (elements_ack frame marks)) p, inl (settled_heard n frame marks s))
over_heard L x due n frame marks (e, p, inr g) = (e, subst (Plan due) (sym (elements_ack frame marks)) p, inr (g.0, g.1, g.2 ∙ sym (before_heard frame marks)))

unasked_by : (frame : Option Frame) (r : Reply) → r ≡ Unasked → reply_by frame r ≡ Unasked
unasked_by (Some frames.Mcf) r e = ap (reply_heard true) e
unasked_by (Some frames.Rtp) r e = ap (reply_heard true) e
unasked_by (Some frames.Rtn) r e = ap (reply_heard false) e
unasked_by frame r e = e

unasked_heard : (L : Type 0) (frame : Option Frame) (marks : List Mark) → L ⊎ (replied marks ≡ Unasked) → L ⊎ (replied (acknowledged_by frame marks) ≡ Unasked)
unasked_heard L frame marks (inl l) = inl l
unasked_heard L frame marks (inr e) = inr (replied_by frame marks ∙ unasked_by frame (replied marks) e)

-- while a packet waits
state_heard : (L : Type 0) (state : State) (d : Due) (due : List Due) (n : ℕ) (frame : Option Frame) (marks : List Mark) → Running L state (d ∷ due) n marks → Running L state (d ∷ due) n (acknowledged_by frame marks)
state_heard L Idle d due n frame marks s = absurd s
state_heard L AwaitDis d due n frame marks s = (s.0, all_heard (d ∷ due) n frame marks s.1)
state_heard L (AwaitCfr dis dcs) d due n frame marks s = (s.0, all_heard (d ∷ due) n frame marks s.1)
state_heard L (AwaitMcf dis dcs) d due n frame marks (inl s) = inl (s.0, all_heard (d ∷ due) n frame marks s.1)
state_heard L (AwaitMcf dis dcs) d due n frame marks (inr s) =
    inr (s.0, (s.1.0 ∙ sym (before_heard frame marks), subst (WillAsk (d ∷ due)) (sym (elements_ack frame marks)) s.1.1, unasked_heard L frame marks s.1.2))
state_heard L (Closing x) d due n frame marks s = over_heard L x (d ∷ due) n frame marks s

-- where none waits
answered_well : (n : ℕ) (marks : List Mark) → n ≡ answered_before marks → replied marks ≡ Asked → IsSettled (n + 1) (Acknowledged ∷ marks)
answered_well n marks c r =
    let e : reply_heard true (replied marks) ≡ Answered true = ap (reply_heard true) r in
    record { count = count_one n (answered_before marks) c ∙ ap (λ (x : Reply). good_one x + answered_before marks) (sym e); still = λ q. let w : Answered true ≡ Asked = sym e ∙ q in cc }
  where
    count_one : (n k : ℕ) → n ≡ k → n + 1 ≡ 1 + k
    count_one n k h = omega arith

answered_badly : (n : ℕ) (marks : List Mark) → n ≡ answered_before marks → replied marks ≡ Asked → IsSettled n (Refused ∷ marks)
answered_badly n marks c r =
    let e : reply_heard false (replied marks) ≡ Answered false = ap (reply_heard false) r in
    record { count = count_none n (answered_before marks) c ∙ ap (λ (x : Reply). good_one x + answered_before marks) (sym e); still = λ q. let w : Answered false ≡ Asked = sym e ∙ q in cc }
  where
    count_none : (n k : ℕ) → n ≡ k → n ≡ 0 + k
    count_none n k h = omega arith

record Open (n : ℕ) (marks : List Mark) : Type 0 where
  count : n ≡ answered_before marks
  asked : replied marks ≡ Asked

is_open : (L : Type 0) (n : ℕ) (marks : List Mark) → InMcf L [] n marks → Open n marks
is_open L n marks (inl s) = let e : true ≡ false = s.0 in cc
is_open L n marks (inr s) = record { count = s.1.0; asked = s.1.1 }

-- a question that is open counts for nothing
open_count : (n : ℕ) (marks : List Mark) → Open n marks → n ≡ answered_images marks
open_count n marks o = by (replied marks) (answered_before marks) o.asked o.count
  where
    by : (r : Reply) (k : ℕ) → r ≡ Asked → n ≡ k → n ≡ good_one r + k
    by r k e c = let g : good_one r ≡ 0 = ap good_one e in omega arith

stays_so : (L : Type 0) (a : CallerCore) (marks : List Mark) (state : State) → a.state ≡ state → a.waiting ≡ [] → Running L state [] a.counts.delivered marks → Counted L a marks
stays_so L a marks state e w s =
    runs L a marks
    (subst (λ (p : State). Running L p a.waiting a.counts.delivered marks) (sym e)
    (subst (λ (due : List Due). Running L state due a.counts.delivered marks) (sym w) s))

-- MCF or RTP
well_counted : (L : Type 0) (a : CallerCore) (marks : List Mark) (m : Move) → IsRunning L (moved a (Closes outcomes.Delivered (one_delivered a.counts))) marks → IsRunning L (moved a m) marks →
    Counted L (moved a (if is_last_page a.pages a.counts.page then Closes outcomes.Delivered (one_delivered a.counts) else m)) marks
well_counted L a marks m x y =
    let last : Bool = is_last_page a.pages a.counts.page in
    let close : Move = Closes outcomes.Delivered (one_delivered a.counts) in
    runs L (moved a (if last then close else m)) marks (if_running L a marks last close m x y)

frame_counted : (L : Type 0) (a : CallerCore) (now : ℕ) (marks : List Mark) (state : State) (frame : Option Frame) → a.state ≡ state → a.waiting ≡ [] → Running L state [] a.counts.delivered marks →
    Counted L (moved a (on_frame now a.format (turn_after a.formats a.counts.page) a.pages state a.counts frame)) (acknowledged_by frame marks)
frame_counted L a now marks Idle frame e w s = absurd s
frame_counted L a now marks AwaitDis (Some (frames.Dis dis)) e w s =
    let m : Move = by_choice dis (first_try a.counts) (choice dis a.format a.counts.step) in
    runs L (moved a m) marks (chooses L a marks dis (first_try a.counts) (choice dis a.format a.counts.step) s.1.is)
frame_counted L a now marks AwaitDis (Some frames.Dcn) e w s = hangs L a marks s.1.is.count
frame_counted L a now marks (AwaitCfr dis dcs) (Some frames.Cfr) e w s = sends L a marks dis dcs (first_try a.counts) s.1.is
frame_counted L a now marks (AwaitCfr dis dcs) (Some frames.Ftt) e w s =
    let m : Move = by_choice dis (next_step a.counts) (choice dis a.format (a.counts.step + 1)) in
    runs L (moved a m) marks (chooses L a marks dis (next_step a.counts) (choice dis a.format (a.counts.step + 1)) s.1.is)
frame_counted L a now marks (AwaitCfr dis dcs) (Some (frames.Dis other)) e w s = runs L (moved a (tries_again dis dcs a.counts)) marks (tries L a marks dis dcs a.counts s.1.is)
frame_counted L a now marks (AwaitCfr dis dcs) (Some frames.Dcn) e w s = hangs L a marks s.1.is.count
frame_counted L a now marks (AwaitMcf dis dcs) (Some frames.Mcf) e w s =
    let o : Open a.counts.delivered marks = is_open L a.counts.delivered marks s in
    let k : IsSettled (a.counts.delivered + 1) (Acknowledged ∷ marks) = answered_well a.counts.delivered marks o.count o.asked in
    let t : Option Format = turn_after a.formats a.counts.page in
    well_counted L a (Acknowledged ∷ marks) (turns_or now t a.counts (Sends dis dcs (next_page a.counts)))
    (closes L a (Acknowledged ∷ marks) outcomes.Delivered (one_delivered a.counts) k) (turns L a (Acknowledged ∷ marks) now a.counts (Sends dis dcs (next_page a.counts)) t k (sends L a (Acknowledged ∷ marks) dis dcs (next_page a.counts) k))
frame_counted L a now marks (AwaitMcf dis dcs) (Some frames.Rtp) e w s =
    let o : Open a.counts.delivered marks = is_open L a.counts.delivered marks s in
    let k : IsSettled (a.counts.delivered + 1) (Acknowledged ∷ marks) = answered_well a.counts.delivered marks o.count o.asked in
    let t : Option Format = turn_after a.formats a.counts.page in
    well_counted L a (Acknowledged ∷ marks) (turns_or now t a.counts (Trains dis dcs (next_page a.counts)))
    (closes L a (Acknowledged ∷ marks) outcomes.Delivered (one_delivered a.counts) k) (turns L a (Acknowledged ∷ marks) now a.counts (Trains dis dcs (next_page a.counts)) t k (trains L a (Acknowledged ∷ marks) dis dcs (next_page a.counts) k))
frame_counted L a now marks (AwaitMcf dis dcs) (Some frames.Rtn) e w s =
    let o : Open a.counts.delivered marks = is_open L a.counts.delivered marks s in
    let k : IsSettled a.counts.delivered (Refused ∷ marks) = answered_badly a.counts.delivered marks o.count o.asked in
    let again : Bool = nat_lt a.counts.refused 2 in
    runs L (moved a (if again then Trains dis dcs (one_refused a.counts) else Closes outcomes.PageRefused a.counts)) (Refused ∷ marks)
    (if_running L a (Refused ∷ marks) again (Trains dis dcs (one_refused a.counts)) (Closes outcomes.PageRefused a.counts)
    (trains L a (Refused ∷ marks) dis dcs (one_refused a.counts) k) (closes L a (Refused ∷ marks) outcomes.PageRefused a.counts k))
frame_counted L a now marks (AwaitMcf dis dcs) (Some frames.Dcn) e w s = hangs L a marks (open_count a.counts.delivered marks (is_open L a.counts.delivered marks s))
frame_counted L a now marks AwaitDis frame e w s = stays_so L a (acknowledged_by frame marks) AwaitDis e w (s.0, all_heard [] a.counts.delivered frame marks s.1)
frame_counted L a now marks (AwaitCfr dis dcs) frame e w s = stays_so L a (acknowledged_by frame marks) (AwaitCfr dis dcs) e w (s.0, all_heard [] a.counts.delivered frame marks s.1)
frame_counted L a now marks (AwaitMcf dis dcs) frame e w s = stays_so L a marks (AwaitMcf dis dcs) e w s
frame_counted L a now marks (Closing x) frame e w s = stays_so L a (acknowledged_by frame marks) (Closing x) e w (over_heard L x [] a.counts.delivered frame marks s)

pub comes_counted : (L : Type 0) (a : CallerCore) (piece : pieces.Piece) (now : ℕ) (marks : List Mark) → IsRunning L a marks → Counted L (came a piece now) (marks_heard piece marks)
comes_counted L a (pieces.Frame octets) now marks s = by a.waiting refl
  where
    by : (w : List Due) → a.waiting ≡ w → Counted L (moved a (if waits w then Stays else on_frame now a.format (turn_after a.formats a.counts.page) a.pages a.state a.counts (frame_of octets))) (acknowledged_by (frame_of octets) marks)
    by [] e = frame_counted L a now marks a.state (frame_of octets) refl e (subst (λ (w : List Due). Running L a.state w a.counts.delivered marks) e s)
    by (d ∷ due) e =
        runs L a (acknowledged_by (frame_of octets) marks)
        (subst (λ (w : List Due). Running L a.state w a.counts.delivered (acknowledged_by (frame_of octets) marks)) (sym e)
        (state_heard L a.state d due a.counts.delivered (frame_of octets) marks (subst (λ (w : List Due). Running L a.state w a.counts.delivered marks) e s)))
comes_counted L a (pieces.Start k) now marks s = runs L a marks s
comes_counted L a (pieces.Octets os) now marks s = runs L a marks s
comes_counted L a (pieces.End w) now marks s = runs L a marks s
comes_counted L a pieces.Gap now marks s = runs L a marks s

-- a tick: T4 was set when the last packet was given, after which the next one waits for no longer than the longest pause
abbrev pub TimedOf : List Due → State → Option ℕ → Option LastPacket → Type 0
TimedOf [] (AwaitMcf dis dcs) t4 last = (given : LastPacket) × (t4 ≡ Some (moment_after given.at spans.t4)) × (last ≡ Some given) × (given.span ≤ longest_pause)
TimedOf due state t4 last = Unit {0}

abbrev pub Timed : CallerCore → Type 0
Timed a = TimedOf a.waiting a.state a.t4 a.pace.last

-- the preamble closes the question
preamble_given : (marks : List Mark) → replied marks ≡ Asked →
    (replied (gave_all (elements_in (Signals 3)) marks) ≡ Unasked) × (answered_before (gave_all (elements_in (Signals 3)) marks) ≡ answered_before marks)
preamble_given marks e =
    subst (λ (es : List elements.Element). (replied (gave_all es marks) ≡ Unasked) × (answered_before (gave_all es marks) ≡ answered_before marks)) (sym (signal_back 3 (omega arith)))
    (ap closed e, omega arith)

-- T4 is due for a command, and the pace lets the preamble go at once
pub record Expires (L : Type 0) (a : CallerCore) (now : ℕ) (marks : List Mark) : Type 0 where
  pub frame : List ℕ
  pub paced : pace_allows a.pace.last now ≡ true
  pub first : a.waiting ≡ One (Signals 3) ∷ One (Tells frame) ∷ []
  pub leaves : IsRunning L (record a { waiting = One (Tells frame) ∷ []; pace = pace_after true a.pace now }) (gave_all (elements_in (Signals 3)) marks)

abbrev pub IsTimed : Type 0 → CallerCore → ℕ → List Mark → Type 0
IsTimed L a now marks = IsRunning L a marks ⊎ Expires L a now marks

asks_expired : (L : Type 0) (a : CallerCore) (now : ℕ) (marks : List Mark) (dis : Dis) (dcs : Dcs) (c : Counts) → a.state ≡ AwaitMcf dis dcs → pace_allows a.pace.last now ≡ true → Open c.delivered marks →
    Expires L (moved a (AsksAgain c)) now marks
asks_expired L a now marks dis dcs c e p o =
    let new : List Mark = gave_all (elements_in (Signals 3)) marks in
    let g = preamble_given marks o.asked in
    let f : List ℕ = written_plain (command_after a.formats a.pages c.page) true in
    let asks : WillAsk (One (Tells f) ∷ []) (elements_given new) =
    subst (WillAsk (One (Tells f) ∷ [])) (sym (pushed_given (elements_in (Signals 3)) marks)) (command_asks (is_last_page a.pages c.page) (turn_after a.formats c.page) (elements_given marks)).1 in
    record {
      frame = f;
      paced = p;
      first = refl;
      leaves = subst (λ (s : State). Running L s (One (Tells f) ∷ []) c.delivered new) (sym e) (inr (refl, (o.count ∙ sym g.1, asks, inr g.0)));
    }

closes_expired : (L : Type 0) (a : CallerCore) (now : ℕ) (marks : List Mark) (c : Counts) → pace_allows a.pace.last now ≡ true → Open c.delivered marks → Expires L (moved a (Closes outcomes.NoReply c)) now marks
closes_expired L a now marks c p o =
    let new : List Mark = gave_all (elements_in (Signals 3)) marks in
    let g = preamble_given marks o.asked in
    let f : List ℕ = written_plain plain.Dcn true in
    record {
      frame = f;
      paced = p;
      first = refl;
      leaves = (
        refl,
        subst (Plan (One (Tells f) ∷ [])) (sym (pushed_given (elements_in (Signals 3)) marks)) (goodbye_plan (elements_given marks)).1,
        inl (record { count = count (replied new) (answered_before new) g.0 (o.count ∙ sym g.1); still = λ q. let w : Unasked ≡ Asked = sym g.0 ∙ q in cc }),
      );
    }
  where
    count : (r : Reply) (k : ℕ) → r ≡ Unasked → c.delivered ≡ k → c.delivered ≡ good_one r + k
    count r k e h = let g : good_one r ≡ 0 = ap good_one e in omega arith

-- the pace holds the packets back at the last moment alone
late : (given : LastPacket) (now : ℕ) → given.span ≤ longest_pause → is_due (Some (moment_after given.at spans.t4)) now ≡ true → pace_allows (Some given) now ≡ false → 2 ^ 64 ≤ now + longest_pause
late given now short d p =
    let due : min (given.at + spans.t4) (2 ^ 64 - 1) ≤ now = le_if (min (given.at + spans.t4) (2 ^ 64 - 1)) now d in
    let held : now < given.at + given.span = gt_if (given.at + given.span) now p in
    grind (arith)

timer_counted : (L : Type 0) (a : CallerCore) (now : ℕ) (marks : List Mark) (state : State) → (2 ^ 64 ≤ now + longest_pause → L) → a.state ≡ state → IsRunning L a marks →
    Running L state [] a.counts.delivered marks → TimedOf [] state a.t4 a.pace.last → IsTimed L (moved a (on_timers (is_due a.t1 now) (is_due a.t4 now) state a.counts)) now marks
timer_counted L a now marks Idle f e t s h = absurd s
timer_counted L a now marks (Closing x) f e t s h = inl t
timer_counted L a now marks AwaitDis f e t s h =
    inl (if_running L a marks (is_due a.t1 now) (gives_up_dis a.counts) Stays (closes L a marks (if nat_eq a.counts.delivered 0 then outcomes.NoAnswer else outcomes.NoReply) a.counts s.1.is) t)
timer_counted L a now marks (AwaitCfr dis dcs) f e t s h =
    inl (if_running L a marks (is_due a.t4 now) (tries_again dis dcs a.counts) Stays (tries L a marks dis dcs a.counts s.1.is) t)
timer_counted L a now marks (AwaitMcf dis dcs) f e t s h = by (is_due a.t4 now) refl
  where
    o : Open a.counts.delivered marks
    o = is_open L a.counts.delivered marks s

    again : (w : Bool) → pace_allows a.pace.last now ≡ w → is_due a.t4 now ≡ true → IsTimed L (moved a (AsksAgain (next_try a.counts))) now marks
    again true p d = inr (asks_expired L a now marks dis dcs (next_try a.counts) e p (record { count = o.count; asked = o.asked }))
    again false p d =
        let l : L = f (late h.0 now h.3 (ap (λ (x : Option ℕ). is_due x now) (sym h.1) ∙ d) (ap (λ (x : Option LastPacket). pace_allows x now) (sym h.2) ∙ p)) in
        inl (subst (λ (x : State). Running L x (command (command_after a.formats a.pages a.counts.page)) a.counts.delivered marks) (sym e)
        (inr (refl, (o.count, command_asks (is_last_page a.pages a.counts.page) (turn_after a.formats a.counts.page) (elements_given marks), inl l))))

    ends : (w : Bool) → pace_allows a.pace.last now ≡ w → is_due a.t4 now ≡ true → IsTimed L (moved a (Closes outcomes.NoReply a.counts)) now marks
    ends true p d = inr (closes_expired L a now marks a.counts p o)
    ends false p d =
        let l : L = f (late h.0 now h.3 (ap (λ (x : Option ℕ). is_due x now) (sym h.1) ∙ d) (ap (λ (x : Option LastPacket). pace_allows x now) (sym h.2) ∙ p)) in
        inl (refl, goodbye_plan (elements_given marks), inr (l, refl, o.count))

    tried : (w : Bool) → is_due a.t4 now ≡ true → IsTimed L (moved a (if w then AsksAgain (next_try a.counts) else Closes outcomes.NoReply a.counts)) now marks
    tried true d = again (pace_allows a.pace.last now) refl d
    tried false d = ends (pace_allows a.pace.last now) refl d

    by : (w : Bool) → is_due a.t4 now ≡ w → IsTimed L (moved a (if w then asks_again a.counts else Stays)) now marks
    by true d = tried (nat_lt a.counts.tries 3) d
    by false d = inl t

pub timed_counted : (L : Type 0) (a : CallerCore) (now : ℕ) (marks : List Mark) → (2 ^ 64 ≤ now + longest_pause → L) → Timed a → IsRunning L a marks → IsTimed L (timed a now) now marks
timed_counted L a now marks f h s = by a.waiting refl
  where
    by : (w : List Due) → a.waiting ≡ w → IsTimed L (moved a (if waits w then Stays else on_timers (is_due a.t1 now) (is_due a.t4 now) a.state a.counts)) now marks
    by [] e =
        timer_counted L a now marks a.state f refl s (subst (λ (w : List Due). Running L a.state w a.counts.delivered marks) e s)
        (subst (λ (w : List Due). TimedOf w a.state a.t4 a.pace.last) e h)
    by (d ∷ due) e = inl s

one_settled : (p : Packet) (due : List Due) (n : ℕ) (marks : List Mark) → Settled (One p ∷ due) n marks → Settled due n (gave_all (elements_in p) marks)
one_settled p due n marks s =
    record { is = gave_settled n (elements_in p) marks s.plan.0 s.is; plan = subst (Plan due) (sym (pushed_given (elements_in p) marks)) s.plan.1 }

calm_given : (texts : Texts) (job : JobValue) (d : Due) (due : List Due) (n : ℕ) (marks : List Mark) → no_text (d ∷ due) ≡ true → Settled (d ∷ due) n marks →
    (no_text (taken texts.writes job d due).rest ≡ true) × Settled (taken texts.writes job d due).rest n (gave_all (elements_in (taken texts.writes job d due).packet) marks)
calm_given texts job (One p) due n marks e s = (e, one_settled p due n marks s)
calm_given texts job (Text m dcs from) due n marks e s = let q : false ≡ true = e in cc

over_given : (L : Type 0) (texts : Texts) (job : JobValue) (page : ℕ) (Post : List elements.Element → Type 0) (x : Outcome) (d : Due) (due : List Due) (n : ℕ) (marks : List Mark) → SafeTo texts job page Post (d ∷ due) (elements_given marks) →
    OverWith L x (d ∷ due) n marks → OverWith L x (taken texts.writes job d due).rest n (gave_all (elements_in (taken texts.writes job d due).packet) marks)
over_given L texts job page Post x (One p) due n marks g (e, k, inl s) =
    (e, subst (Plan due) (sym (pushed_given (elements_in p) marks)) k.1, inl (gave_settled n (elements_in p) marks k.0 s))
over_given L texts job page Post x (One p) due n marks g (e, k, inr l) =
    (e, subst (Plan due) (sym (pushed_given (elements_in p) marks)) k.1, inr (l.0, l.1, l.2 ∙ sym (quiet_before (elements_in p) marks g.0)))
over_given L texts job page Post x (Text m dcs from) due n marks g s = let q : false ≡ true = s.0 in cc

asks_plain : (due : List Due) (before : List elements.Element) → WillAsk due before → no_text due ≡ true
asks_plain [] before a = absurd a
asks_plain (One p ∷ []) before a = refl
asks_plain (One p ∷ d ∷ due) before a = asks_plain (d ∷ due) (pushed (elements_in p) before) a.1
asks_plain (Text m dcs from ∷ due) before a = absurd a

now_asking : (L : Type 0) (due : List Due) (n : ℕ) (marks : List Mark) → n ≡ answered_before marks → replied marks ≡ Unasked → ((after : List elements.Element) → WillAsk due after) → Asking L due n marks
now_asking L [] n marks c u a = absurd (a [])
now_asking L (d ∷ due) n marks c u a = (c, a (elements_given marks), inr u)

-- the last part of a text emits the image
text_ends : (L : Type 0) (texts : Texts) (job : JobValue) (page : ℕ) (dcs : Dcs) (from : ℕ) (due : List Due) (n : ℕ) (marks : List Mark) → TextReady texts job page dcs from (elements_given marks) →
    length (drop from (text_at texts.writes job page dcs)) ≤ part_length dcs → IsSettled n marks → ((after : List elements.Element) → WillAsk due after) →
    InMcf L due n (gave_all (elements_in (Part (kind_of dcs.rate) true (drop from (text_at texts.writes job page dcs)))) marks)
text_ends L texts job page dcs from due n marks t h s a =
    let text : List ℕ = text_at texts.writes job page dcs in
    let os : List ℕ = drop from text in
    let left : from < length text = t.left in
    let l : length os ≡ length text - from = length-drop from text in
    let l2 : part_length dcs ≤ 65535 = (part_some dcs.rate).1 in
    let f : elements.Element = elements.Field (kind_of dcs.rate) 7 os in
    let emission : Emission = record { octets = text; dcs = read_dcs dcs } in
    let q : emitted_at (elements_given marks) f ≡ Some emission = emits_text texts job page dcs from (elements_given marks) t in
    let c : n ≡ answered_if (emitted_at (elements_given marks) f) (replied marks) + answered_before marks =
    subst (λ (o : Option Emission). n ≡ answered_if o (replied marks) + answered_before marks) (sym q) s.count in
    subst (λ (es : List elements.Element). InMcf L due n (gave_all es marks)) (sym (part_back dcs.rate true os (omega arith) (omega arith)))
    (inr (asks_plain due [] (a []), now_asking L due n (Gave f ∷ marks) c (ap (λ (o : Option Emission). reply_or o (after_one (elements_given marks) f (replied marks))) q) a))

text_goes_on : (L : Type 0) (texts : Texts) (job : JobValue) (page : ℕ) (dcs : Dcs) (from : ℕ) (due : List Due) (n : ℕ) (marks : List Mark) → part_length dcs < length (drop from (text_at texts.writes job page dcs)) → IsSettled n marks →
    ((after : List elements.Element) → WillAsk due after) → InMcf L (Text page dcs (from + part_length dcs) ∷ due) n (gave_all (elements_in (Part (kind_of dcs.rate) false (take (part_length dcs) (drop from (text_at texts.writes job page dcs))))) marks)
text_goes_on L texts job page dcs from due n marks h s a =
    let os : List ℕ = take (part_length dcs) (drop from (text_at texts.writes job page dcs)) in
    let ps = part_some dcs.rate in
    let l : length os ≡ part_length dcs = grind (arith, length-take) in
    let l1 : 1 ≤ part_length dcs = ps.0 in let l2 : part_length dcs ≤ 65535 = ps.1 in
    let k : NoCommand (elements_given marks) (elements.Field (kind_of dcs.rate) 6 os ∷ []) = (ap is_command (high_speed dcs.rate 6 (elements_given marks)), tt) in
    inl (
      refl,
      record {
        is = subst (λ (es : List elements.Element). IsSettled n (gave_all es marks)) (sym (part_back dcs.rate false os (omega arith) (omega arith))) (gave_settled n (elements.Field (kind_of dcs.rate) 6 os ∷ []) marks k s);
        plan = a;
      },
    )

text_given : (L : Type 0) (texts : Texts) (job : JobValue) (page : ℕ) (dcs : Dcs) (from : ℕ) (due : List Due) (n : ℕ) (marks : List Mark) → TextReady texts job page dcs from (elements_given marks) → IsSettled n marks →
    ((after : List elements.Element) → WillAsk due after) →
    InMcf L (taken_text page dcs from (text_at texts.writes job page dcs) due).rest n (gave_all (elements_in (taken_text page dcs from (text_at texts.writes job page dcs) due).packet) marks)
text_given L texts job page dcs from due n marks t s a = by (nat_le (length (drop from (text_at texts.writes job page dcs))) (part_length dcs)) refl
  where
    by : (w : Bool) → nat_le (length (drop from (text_at texts.writes job page dcs))) (part_length dcs) ≡ w →
        InMcf L (if◌then◌else◌ {A = TakenPart} w (record { packet = Part (kind_of dcs.rate) true (drop from (text_at texts.writes job page dcs)); rest = due }) (record { packet = Part (kind_of dcs.rate) false (take (part_length dcs) (drop from (text_at texts.writes job page dcs))); rest = Text page dcs (from + part_length dcs) ∷ due })).rest n
        (gave_all (elements_in (if◌then◌else◌ {A = TakenPart} w (record { packet = Part (kind_of dcs.rate) true (drop from (text_at texts.writes job page dcs)); rest = due }) (record { packet = Part (kind_of dcs.rate) false (take (part_length dcs) (drop from (text_at texts.writes job page dcs))); rest = Text page dcs (from + part_length dcs) ∷ due })).packet) marks)
    by true h = text_ends L texts job page dcs from due n marks t (le_if (length (drop from (text_at texts.writes job page dcs))) (part_length dcs) h) s a
    by false h = text_goes_on L texts job page dcs from due n marks (gt_if (length (drop from (text_at texts.writes job page dcs))) (part_length dcs) h) s a

unasked_given : (es : List elements.Element) (marks : List Mark) → Quiet (elements_given marks) es → NoCommand (elements_given marks) es → replied marks ≡ Unasked → replied (gave_all es marks) ≡ Unasked
unasked_given [] marks q c e = e
unasked_given (x ∷ es) marks q c e =
    unasked_given es (Gave x ∷ marks) q.1 c.1
    (ap (λ (o : Option Emission). reply_or o (after_one (elements_given marks) x (replied marks))) q.0
    ∙ ap (λ (t : Bool). reply_given t (is_preamble (pieces.since_indicator (elements_given marks))) (replied marks)) c.0
    ∙ ap closed e)

command_given : (L : Type 0) (p : Packet) (due : List Due) (n : ℕ) (marks : List Mark) → Quiet (elements_given marks) (elements_in p) → no_text due ≡ true → Asking L (One p ∷ due) n marks → InMcf L due n (gave_all (elements_in p) marks)
command_given L p [] n marks q e a = inr (refl, (a.0 ∙ sym (quiet_before (elements_in p) marks q), quiet_replied (elements_in p) marks q ∙ a.1 (replied marks)))
command_given L p (d ∷ due) n marks q e a =
    inr (e, (a.0 ∙ sym (quiet_before (elements_in p) marks q), subst (WillAsk (d ∷ due)) (sym (pushed_given (elements_in p) marks)) a.1.1, unasked a.2))
  where
    unasked : L ⊎ (replied marks ≡ Unasked) → L ⊎ (replied (gave_all (elements_in p) marks) ≡ Unasked)
    unasked (inl l) = inl l
    unasked (inr u) = inr (unasked_given (elements_in p) marks q a.1.0 u)

mcf_given : (L : Type 0) (texts : Texts) (job : JobValue) (page : ℕ) (Post : List elements.Element → Type 0) (d : Due) (due : List Due) (n : ℕ) (marks : List Mark) → SafeTo texts job page Post (d ∷ due) (elements_given marks) → InMcf L (d ∷ due) n marks →
    InMcf L (taken texts.writes job d due).rest n (gave_all (elements_in (taken texts.writes job d due).packet) marks)
mcf_given L texts job page Post (One p) due n marks g (inl s) = inl (s.0, one_settled p due n marks s.1)
mcf_given L texts job page Post (One p) due n marks g (inr s) = command_given L p due n marks g.0 s.0 s.1
mcf_given L texts job page Post (Text m dcs from) due n marks g (inl s) =
    let eq : page ≡ m = sym g.0 in
    subst (λ (k : ℕ). InMcf L (taken texts.writes job (Text k dcs from) due).rest n (gave_all (elements_in (taken texts.writes job (Text k dcs from) due).packet) marks)) eq (text_given L texts job page dcs from due n marks g.1 s.1.is s.1.plan)
mcf_given L texts job page Post (Text m dcs from) due n marks g (inr s) = let q : false ≡ true = s.0 in cc

state_given : (L : Type 0) (texts : Texts) (job : JobValue) (page : ℕ) (state : State) (d : Due) (due : List Due) (n : ℕ) (marks : List Mark) → SafeTo texts job page (PostOf state) (d ∷ due) (elements_given marks) →
    Running L state (d ∷ due) n marks → Running L state (taken texts.writes job d due).rest n (gave_all (elements_in (taken texts.writes job d due).packet) marks)
state_given L texts job page Idle d due n marks g s = absurd s
state_given L texts job page AwaitDis d due n marks g s = calm_given texts job d due n marks s.0 s.1
state_given L texts job page (AwaitCfr dis dcs) d due n marks g s = calm_given texts job d due n marks s.0 s.1
state_given L texts job page (AwaitMcf dis dcs) d due n marks g s = mcf_given L texts job page (PostOf (AwaitMcf dis dcs)) d due n marks g s
state_given L texts job page (Closing x) d due n marks g s = over_given L texts job page (PostOf (Closing x)) x d due n marks g s

-- the last packet was given
when_over : (L : Type 0) (x : Outcome) (n : ℕ) (marks : List Mark) → OverWith L x [] n marks → Ended L x n marks
when_over L x n marks (e, p, inl s) = inl s.count
when_over L x n marks (e, p, inr g) = inr ((g.1, g.0), g.2)

counted_when_given : (L : Type 0) (state : State) (n : ℕ) (marks : List Mark) (o : Option Outcome) → Running L state [] n marks → StateOf L (state_when_given state) [] n marks (outcome_when_given state o)
counted_when_given L Idle n marks o s = absurd s
counted_when_given L AwaitDis n marks o s = s
counted_when_given L (AwaitCfr dis dcs) n marks o s = s
counted_when_given L (AwaitMcf dis dcs) n marks o s = s
counted_when_given L (Closing x) n marks o s = (x, refl, when_over L x n marks s, refl)

after_counted : (L : Type 0) (a : CallerCore) (now : ℕ) (packet : Packet) (rest : List Due) (marks : List Mark) → Running L a.state rest a.counts.delivered marks → Counted L (after_giving a now packet rest) marks
after_counted L a now packet [] marks s = counted_when_given L a.state a.counts.delivered marks a.outcome s
after_counted L a now packet (d ∷ due) marks s = runs_in L a.state (d ∷ due) a.counts.delivered marks a.outcome s

first_counted : (L : Type 0) (texts : Texts) (job : JobValue) (a : CallerCore) (now : ℕ) (marks : List Mark) (due : List Due) → a.waiting ≡ due → Good texts job a marks → IsRunning L a marks →
    Counted L (given_first texts.writes job a now due).core (marks_given (given_first texts.writes job a now due).given marks)
first_counted L texts job a now marks [] h g s = runs L a marks s
first_counted L texts job a now marks (d ∷ due) h g s =
    let k : TakenPart = taken texts.writes job d due in
    after_counted L a now k.packet k.rest (gave_all (elements_in k.packet) marks)
    (state_given L texts job a.counts.page a.state d due a.counts.delivered marks (subst (λ (w : List Due). SafeTo texts job a.counts.page (PostOf a.state) w (elements_given marks)) h g.kept.safe)
    (subst (λ (w : List Due). Running L a.state w a.counts.delivered marks) h s))

-- what a tick leaves, where the pace allows it and where not
abbrev pub paced_by : Texts → JobValue → CallerCore → ℕ → List Due → Bool → TickResult
paced_by texts job a now due allowed = if◌then◌else◌ {A = TickResult} allowed (given_first texts.writes job a now due) (record { core = a; given = None })

paced_counted : (L : Type 0) (texts : Texts) (job : JobValue) (a : CallerCore) (now : ℕ) (marks : List Mark) → Good texts job a marks → IsTimed L a now marks →
    Counted L (paced texts.writes job a now).core (marks_given (paced texts.writes job a now).given marks)
paced_counted L texts job a now marks g (inl s) = by (pace_allows a.pace.last now)
  where
    by : (w : Bool) → Counted L (paced_by texts job a now a.waiting w).core (marks_given (paced_by texts job a now a.waiting w).given marks)
    by true = first_counted L texts job a now marks a.waiting refl g s
    by false = runs L a marks s
paced_counted L texts job a now marks g (inr e) =
    subst (λ (w : Bool). Counted L (paced_by texts job a now a.waiting w).core (marks_given (paced_by texts job a now a.waiting w).given marks)) (sym e.paced)
    (subst (λ (due : List Due). Counted L (given_first texts.writes job a now due).core (marks_given (given_first texts.writes job a now due).given marks)) (sym e.first)
    (runs L (record a { waiting = One (Tells e.frame) ∷ []; pace = pace_after true a.pace now }) (gave_all (elements_in (Signals 3)) marks) e.leaves))

pub ticked_counted : (L : Type 0) (texts : Texts) (job : JobValue) (a : CallerCore) (now : ℕ) (marks : List Mark) → (2 ^ 64 ≤ now + longest_pause → L) → Good texts job a marks → Timed a → IsRunning L a marks →
    Counted L (ticked texts.writes job a now).core (marks_given (ticked texts.writes job a now).given marks)
ticked_counted L texts job a now marks f g h s = paced_counted L texts job (timed a now) now marks (timed_good texts job a now marks g) (timed_counted L a now marks f h s)

pub start_counted : (L : Type 0) (job : JobValue) (old : List Mark) (core : CallerCore) (now : ℕ) → Counted L (started core job now) (Begins ∷ old)
start_counted L job old core now =
    (refl, record { is = record { count = refl; still = λ q. cc }; plan = signal_plan 1 [] (elements_given old) (omega arith) tt })

-- T4, and the moment of the last packet
moved_timed : (a : CallerCore) (m : Move) → Timed a → Timed (moved a m)
moved_timed a Stays h = h
moved_timed a (Trains dis dcs c) h = tt
moved_timed a (Sends dis dcs c) h = tt
moved_timed a (AsksAgain c) h = tt
moved_timed a (Turns format t1 c) h = tt
moved_timed a (Closes x c) h = tt
moved_timed a HangsUp h = tt

pub comes_timed : (a : CallerCore) (piece : pieces.Piece) (now : ℕ) → Timed a → Timed (came a piece now)
comes_timed a piece now h = moved_timed a (heard a piece now) h

span_short : (is_preamble : Bool) (pause now : ℕ) → (packet_at is_preamble pause now).span ≤ longest_pause
span_short true pause now = omega arith
span_short false pause now = omega arith

given_timed : (a : CallerCore) (now : ℕ) (packet : Packet) (rest : List Due) → Timed (after_giving a now packet rest)
given_timed a now packet [] = by a.state
  where
    given : LastPacket
    given = packet_at (signals_preamble packet) a.pace.pause now

    by : (state : State) → TimedOf [] (state_when_given state) (t4_when_given state a.t4 now) (Some given)
    by Idle = tt
    by AwaitDis = tt
    by (AwaitCfr dis dcs) = tt
    by (AwaitMcf dis dcs) = (given, refl, refl, span_short (signals_preamble packet) a.pace.pause now)
    by (Closing x) = tt
given_timed a now packet (d ∷ rest) = tt

pub ticked_timed : (texts : Texts) (job : JobValue) (a : CallerCore) (now : ℕ) → Timed a → Timed (ticked texts.writes job a now).core
ticked_timed texts job a now h = by (timed a now) (moved_timed a (if waits a.waiting then Stays else on_timers (is_due a.t1 now) (is_due a.t4 now) a.state a.counts) h)
  where
    first : (c : CallerCore) (due : List Due) → Timed c → Timed (given_first texts.writes job c now due).core
    first c [] k = k
    first c (d ∷ due) k = given_timed c now (taken texts.writes job d due).packet (taken texts.writes job d due).rest

    paced_so : (c : CallerCore) (w : Bool) → Timed c → Timed (paced_by texts job c now c.waiting w).core
    paced_so c true k = first c c.waiting k
    paced_so c false k = k

    by : (c : CallerCore) → Timed c → Timed (paced texts.writes job c now).core
    by c k = paced_so c (pace_allows c.pace.last now) k
