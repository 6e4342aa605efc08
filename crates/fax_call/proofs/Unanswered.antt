-- No command is given after an answer to its image.
use Rattle.std.proofs.Common.{◌≡◌, ℕ, ◌+◌, ◌-◌, ◌^◌, ◌<◌, ◌≤◌, Bool, true, false, nat_le, List, [], ◌∷◌, Option, Some, ◌⊎◌, inl, inr, refl, sym, ap, subst, arith, length, drop, take, length-drop, length-take, if◌then◌else◌}
use Rattle.fax_frames.specs.declared.dcs.Dcs.{Dcs}
use Rattle.fax_frames.specs.declared.frame.Frame.{Frame}
use Rattle.fax_frames.specs.declared.frame.Frame.TheVariants as frames
use Rattle.fax_frames.specs.Rates.{kind_of}
use Rattle.fax_frames.specs.Frames.{frame_of}
use Rattle.fax_timers.specs.Paces.{pace_allows}
use Rattle.fax_timers.specs.Spans.{longest_pause}
use Rattle.fax_ifp.specs.Elements as elements
use Rattle.fax_ifp.specs.Pieces as pieces
use Rattle.fax_jobs.specs.Jobs.{JobValue}
use Rattle.fax_call.specs.declared.state.State.{State}
use Rattle.fax_call.specs.declared.state.State.TheVariants.{Idle, AwaitDis, AwaitCfr, AwaitMcf, Closing}
use Rattle.fax_call.specs.Replies.{Packet, Signals, Part, Due, One, Text, part_length}
use Rattle.fax_call.specs.Calls.{CallerCore, timed, text_at, TakenPart, taken_text, taken, given_first, paced, ticked}
use Rattle.fax_call.specs.Emission.{Emission, Mark, Gave, gave_all, elements_given, acknowledged_by, marks_heard, marks_given, frame_at, is_command, is_preamble, Reply, Unasked, Asked, Answered, reply_given, reply_or, replied}
use Rattle.fax_call.specs.Delivery.{IsOpen, AsksTheUnanswered}
use Rattle.fax_call.proofs.PacketsBack.{elements_in, part_back}
use Rattle.fax_call.proofs.Waiting.{Texts, Quiet, NoCommand, after_one, SafeTo, PostOf, TextReady, high_speed, part_some, signal_asks_nothing}
use Rattle.fax_call.proofs.Emitted.{Good, le_if, gt_if, timed_good}
use Rattle.fax_call.proofs.Answered.{Running, IsRunning, Timed, IsTimed, paced_by, timed_counted}

-- elements that end no command
plain_open : (es : List elements.Element) (marks : List Mark) → NoCommand (elements_given marks) es → AsksTheUnanswered marks → AsksTheUnanswered (gave_all es marks)
plain_open [] marks c h = h
plain_open (e ∷ es) marks c h = plain_open es (Gave e ∷ marks) c.1 (subst (λ (t : Bool). IsOpen t (replied marks)) (sym c.0) tt, h)

-- a command, where its image has no answer
abbrev IsFree : Reply → Type 0
IsFree (Answered good) = ⊥
IsFree r = Unit {0}

open_of : (t : Bool) (r : Reply) → IsFree r → IsOpen t r
open_of false r f = tt
open_of true Unasked f = tt
open_of true Asked f = tt
open_of true (Answered good) f = absurd f

free_after : (t u : Bool) (r : Reply) → IsFree r → IsFree (reply_given t u r)
free_after true true r f = tt
free_after true false r f = tt
free_after false u Unasked f = tt
free_after false u Asked f = tt
free_after false u (Answered good) f = absurd f

free_open : (es : List elements.Element) (marks : List Mark) → Quiet (elements_given marks) es → IsFree (replied marks) → AsksTheUnanswered marks → AsksTheUnanswered (gave_all es marks)
free_open [] marks q f h = h
free_open (e ∷ es) marks q f h =
    let before : List elements.Element = elements_given marks in
    let command : Bool = is_command (frame_at before e) in
    free_open es (Gave e ∷ marks) q.1
    (subst (λ (o : Option Emission). IsFree (reply_or o (after_one before e (replied marks)))) (sym q.0) (free_after command (is_preamble (pieces.since_indicator before)) (replied marks) f))
    (open_of command (replied marks) f, h)

-- a frame that comes
heard_open : (frame : Option Frame) (marks : List Mark) → AsksTheUnanswered marks → AsksTheUnanswered (acknowledged_by frame marks)
heard_open (Some frames.Mcf) marks h = h
heard_open (Some frames.Rtp) marks h = h
heard_open (Some frames.Rtn) marks h = h
heard_open frame marks h = h

abbrev pub IsAsking : Type 0 → List Mark → Type 0
IsAsking L marks = AsksTheUnanswered marks ⊎ L

pub comes_open : (L : Type 0) (piece : pieces.Piece) (marks : List Mark) → IsAsking L marks → IsAsking L (marks_heard piece marks)
comes_open L piece marks (inr l) = inr l
comes_open L (pieces.Frame octets) marks (inl h) = inl (heard_open (frame_of octets) marks h)
comes_open L (pieces.Start k) marks (inl h) = inl h
comes_open L (pieces.Octets os) marks (inl h) = inl h
comes_open L (pieces.End w) marks (inl h) = inl h
comes_open L pieces.Gap marks (inl h) = inl h

-- the parts of a text
text_plain : (texts : Texts) (job : JobValue) (page : ℕ) (dcs : Dcs) (from : ℕ) (due : List Due) (before : List elements.Element) → TextReady texts job page dcs from before →
    NoCommand before (elements_in (taken_text page dcs from (text_at texts.writes job page dcs) due).packet)
text_plain texts job page dcs from due before t = by (nat_le (length os) (part_length dcs)) refl
  where
    text : List ℕ
    text = text_at texts.writes job page dcs

    os : List ℕ
    os = drop from text

    few : (1 ≤ part_length dcs) × (part_length dcs ≤ 65535)
    few = part_some dcs.rate

    ends : length os ≤ part_length dcs → NoCommand before (elements_in (Part (kind_of dcs.rate) true os))
    ends h =
        let left : from < length text = t.left in
        let l : length os ≡ length text - from = length-drop from text in
        let most : part_length dcs ≤ 65535 = few.1 in
        subst (NoCommand before) (sym (part_back dcs.rate true os (omega arith) (omega arith))) (ap is_command (high_speed dcs.rate 7 before), tt)

    goes_on : part_length dcs < length os → NoCommand before (elements_in (Part (kind_of dcs.rate) false (take (part_length dcs) os)))
    goes_on h =
        let l : length (take (part_length dcs) os) ≡ part_length dcs = grind (arith, length-take) in
        let least : 1 ≤ part_length dcs = few.0 in
        let most : part_length dcs ≤ 65535 = few.1 in
        subst (NoCommand before) (sym (part_back dcs.rate false (take (part_length dcs) os) (omega arith) (omega arith))) (ap is_command (high_speed dcs.rate 6 before), tt)

    by : (w : Bool) → nat_le (length os) (part_length dcs) ≡ w →
        NoCommand before (elements_in (if◌then◌else◌ {A = TakenPart} w (record { packet = Part (kind_of dcs.rate) true os; rest = due }) (record { packet = Part (kind_of dcs.rate) false (take (part_length dcs) os); rest = Text page dcs (from + part_length dcs) ∷ due })).packet)
    by true h = ends (le_if (length os) (part_length dcs) h)
    by false h = goes_on (gt_if (length os) (part_length dcs) h)

-- a packet that waits ends no command, or its image has no answer
abbrev IsHarmless : Type 0 → Packet → List Mark → Type 0
IsHarmless L p marks = L ⊎ (NoCommand (elements_given marks) (elements_in p) ⊎ (replied marks ≡ Unasked))

harmless : (L : Type 0) (state : State) (p : Packet) (due : List Due) (n : ℕ) (marks : List Mark) → Running L state (One p ∷ due) n marks → IsHarmless L p marks
harmless L Idle p due n marks s = absurd s
harmless L AwaitDis p due n marks s = inr (inl s.1.plan.0)
harmless L (AwaitCfr dis dcs) p due n marks s = inr (inl s.1.plan.0)
harmless L (AwaitMcf dis dcs) p due n marks (inl s) = inr (inl s.1.plan.0)
harmless L (AwaitMcf dis dcs) p due n marks (inr s) = by s.1.2
  where
    by : L ⊎ (replied marks ≡ Unasked) → IsHarmless L p marks
    by (inl l) = inl l
    by (inr u) = inr (inr u)
harmless L (Closing x) p due n marks (e, k, s) = inr (inl k.0)

packet_open : (L : Type 0) (p : Packet) (marks : List Mark) → Quiet (elements_given marks) (elements_in p) → IsHarmless L p marks → IsAsking L marks → IsAsking L (gave_all (elements_in p) marks)
packet_open L p marks q h (inr l) = inr l
packet_open L p marks q (inl l) (inl k) = inr l
packet_open L p marks q (inr (inl c)) (inl k) = inl (plain_open (elements_in p) marks c k)
packet_open L p marks q (inr (inr u)) (inl k) = inl (free_open (elements_in p) marks q (subst IsFree (sym u) tt) k)

text_open : (L : Type 0) (p : Packet) (marks : List Mark) → NoCommand (elements_given marks) (elements_in p) → IsAsking L marks → IsAsking L (gave_all (elements_in p) marks)
text_open L p marks c (inr l) = inr l
text_open L p marks c (inl k) = inl (plain_open (elements_in p) marks c k)

given_open : (L : Type 0) (texts : Texts) (job : JobValue) (page : ℕ) (state : State) (d : Due) (due : List Due) (n : ℕ) (marks : List Mark) → SafeTo texts job page (PostOf state) (d ∷ due) (elements_given marks) →
    Running L state (d ∷ due) n marks → IsAsking L marks → IsAsking L (gave_all (elements_in (taken texts.writes job d due).packet) marks)
given_open L texts job page state (One p) due n marks g s k = packet_open L p marks g.0 (harmless L state p due n marks s) k
given_open L texts job page state (Text m dcs from) due n marks g s k =
    let eq : page ≡ m = sym g.0 in
    let packet : Packet = (taken texts.writes job (Text m dcs from) due).packet in
    text_open L packet marks
    (subst (λ (i : ℕ). NoCommand (elements_given marks) (elements_in (taken texts.writes job (Text i dcs from) due).packet)) eq (text_plain texts job page dcs from due (elements_given marks) g.1)) k

first_open : (L : Type 0) (texts : Texts) (job : JobValue) (a : CallerCore) (now : ℕ) (marks : List Mark) (due : List Due) → a.waiting ≡ due → Good texts job a marks → IsRunning L a marks →
    IsAsking L marks → IsAsking L (marks_given (given_first texts.writes job a now due).given marks)
first_open L texts job a now marks [] h g s k = k
first_open L texts job a now marks (d ∷ due) h g s k =
    given_open L texts job a.counts.page a.state d due a.counts.delivered marks (subst (λ (w : List Due). SafeTo texts job a.counts.page (PostOf a.state) w (elements_given marks)) h g.kept.safe)
    (subst (λ (w : List Due). Running L a.state w a.counts.delivered marks) h s) k

paced_open : (L : Type 0) (texts : Texts) (job : JobValue) (a : CallerCore) (now : ℕ) (marks : List Mark) → Good texts job a marks → IsTimed L a now marks → IsAsking L marks →
    IsAsking L (marks_given (paced texts.writes job a now).given marks)
paced_open L texts job a now marks g (inl s) k = by (pace_allows a.pace.last now)
  where
    by : (w : Bool) → IsAsking L (marks_given (paced_by texts job a now a.waiting w).given marks)
    by true = first_open L texts job a now marks a.waiting refl g s k
    by false = k
paced_open L texts job a now marks g (inr e) k =
    subst (λ (w : Bool). IsAsking L (marks_given (paced_by texts job a now a.waiting w).given marks)) (sym e.paced)
    (subst (λ (due : List Due). IsAsking L (marks_given (given_first texts.writes job a now due).given marks)) (sym e.first)
    (text_open L (Signals 3) marks (signal_asks_nothing 3 (elements_given marks) (omega arith)) k))

pub ticked_open : (L : Type 0) (texts : Texts) (job : JobValue) (a : CallerCore) (now : ℕ) (marks : List Mark) → (2 ^ 64 ≤ now + longest_pause → L) → Good texts job a marks → Timed a → IsRunning L a marks →
    IsAsking L marks → IsAsking L (marks_given (ticked texts.writes job a now).given marks)
ticked_open L texts job a now marks f g h s k = paced_open L texts job (timed a now) now marks (timed_good texts job a now marks g) (timed_counted L a now marks f h s) k
