-- What the counts say of the job: which pages were delivered, and the outcome.
use Rattle.std.proofs.Common.{nat_eq, ◌≡◌, ℕ, ◌+◌, ◌<◌, ◌≤◌, Bool, true, false, List, [], ◌∷◌, Option, Some, None, Result, Ok, Err, inl, inr, refl, sym, ◌∙◌, ap, subst, nat_lt, arith, if◌then◌else◌}
use Rattle.fax_runcodes.specs.declared.format.Format.{Format}
use Rattle.fax_frames.specs.declared.dis.Dis.{Dis}
use Rattle.fax_frames.specs.declared.dcs.Dcs.{Dcs}
use Rattle.fax_frames.specs.declared.frame.Frame.{Frame}
use Rattle.fax_frames.specs.declared.frame.Frame.TheVariants as frames
use Rattle.fax_frames.specs.declared.writing.Plain.TheVariants as plain
use Rattle.fax_frames.specs.declared.choice.Refusal.{Refusal}
use Rattle.fax_frames.specs.declared.choice.Refusal.TheVariants as refusals
use Rattle.fax_frames.specs.Choice.{choice}
use Rattle.fax_frames.specs.Frames.{frame_of}
use Rattle.fax_frames.specs.Written.{written_plain}
use Rattle.fax_timers.specs.Moments.{is_due}
use Rattle.fax_timers.specs.Paces.{pace_allows}
use Rattle.fax_ifp.specs.Elements as elements
use Rattle.fax_ifp.specs.Pieces as pieces
use Rattle.fax_jobs.specs.declared.outcome.Outcome.{Outcome}
use Rattle.fax_jobs.specs.declared.outcome.Outcome.TheVariants as outcomes
use Rattle.fax_jobs.specs.Jobs.{JobValue, IsJob}
use Rattle.fax_call.specs.declared.state.State.{State}
use Rattle.fax_call.specs.declared.state.State.TheVariants.{Idle, AwaitDis, AwaitCfr, AwaitMcf, Closing}
use Rattle.fax_call.specs.Replies.{Packet, Due, One, Text, is_last_page, command, goodbye, waits, turn_after, command_after}
use Rattle.fax_call.specs.Table.{Counts, Move, Stays, Trains, Sends, AsksAgain, Closes, HangsUp, outcome_of, first_try, next_try, next_step, next_page, one_delivered, one_refused, by_choice, tries_again, asks_again, after_refusal, on_frame, on_timers, turns_or, gives_up_dis}
use Rattle.fax_call.specs.Calls.{CallerCore, started, moved, came, timed, TakenPart, taken, state_when_given, outcome_when_given, after_giving, given_first, paced, ticked, TickResult}
use Rattle.fax_call.specs.Emission.{Emission, Mark, Gave, Begins, gave_all, elements_given, acknowledged_by, marks_heard, marks_given, is_preamble, Reply, Asked, Unasked, Answered, closed, reply_given, reply_or, reply_heard, replied, IsAnswered, Emits}
use Rattle.fax_call.specs.Delivery.{IsAfter}
use Rattle.fax_call.proofs.PacketsBack.{elements_in}
use Rattle.fax_call.proofs.Waiting.{Texts, Quiet, pushed_given, quiet_emits, NoCommand, after_one, SafeTo, PostOf, Keeps, frame_keeps}
use Rattle.fax_call.proofs.Emitted.{IsSent, InTurn, Good, reply_by, replied_by, emits_ack, elements_ack, timed_good}

-- the counts at the end of a call
pub record Final (outcome : Outcome) (pages : ℕ) (c : Counts) : Type 0 where
  pub most : c.delivered ≤ pages
  pub all_if : outcome ≡ outcomes.Delivered → c.delivered ≡ pages
  pub if_all : c.delivered ≡ pages → outcome ≡ outcomes.Delivered

pub record Underway (pages : ℕ) (c : Counts) : Type 0 where
  pub delivered : c.delivered ≡ c.page
  pub within : c.page < pages

abbrev pub Sums : State → ℕ → Counts → Option Outcome → Type 0
Sums Idle pages c o = (x : Outcome) × (o ≡ Some x) × Final x pages c
Sums (Closing x) pages c o = Final x pages c
Sums state pages c o = Underway pages c

-- the delivered pages went out and were answered; while the call goes on, that is said of the page due
pub record IsAcked (job : JobValue) (n : ℕ) (marks : List Mark) : Type 0 where
  pub last : Option ℕ
  pub emits : Emits job marks last
  pub after : IsAfter last (replied marks) n

abbrev pub Acked : JobValue → State → List Due → ℕ → List Mark → Type 0
Acked job Idle due n marks = Keeps due (elements_given marks) × IsAcked job n marks
Acked job (Closing o) due n marks = Keeps due (elements_given marks) × IsAcked job n marks
Acked job state due n marks = Unit {0}

abbrev pub TallyOf : JobValue → State → ℕ → Counts → Option Outcome → List Due → List Mark → Type 0
TallyOf job state pages c o due marks = Sums state pages c o × Acked job state due c.delivered marks

abbrev pub Tally : JobValue → CallerCore → List Mark → Type 0
Tally job a marks = TallyOf job a.state a.pages a.counts a.outcome a.waiting marks

after_of : (last : Option ℕ) (r : Reply) (n : ℕ) → IsAnswered last r n → IsAfter last r n
after_of None r n h = h
after_of (Some m) Unasked n h = absurd h
after_of (Some m) Asked n h = absurd h
after_of (Some m) (Answered true) n h = inr (h, refl)
after_of (Some m) (Answered false) n h = inl h

-- it stays so, if a good answer stays one
after_if : (last : Option ℕ) (r s : Reply) (n : ℕ) → (r ≡ Answered true → s ≡ Answered true) → IsAfter last r n → IsAfter last s n
after_if None r s n f h = h
after_if (Some m) r s n f (inl e) = inl e
after_if (Some m) r s n f (inr h) = inr (h.0, f h.1)

good_heard : (frame : Option Frame) (r : Reply) → r ≡ Answered true → reply_by frame r ≡ Answered true
good_heard (Some frames.Mcf) r e = ap (reply_heard true) e
good_heard (Some frames.Rtp) r e = ap (reply_heard true) e
good_heard (Some frames.Rtn) r e = ap (reply_heard false) e
good_heard frame r e = e

good_given : (es : List elements.Element) (marks : List Mark) → Quiet (elements_given marks) es → NoCommand (elements_given marks) es → replied marks ≡ Answered true → replied (gave_all es marks) ≡ Answered true
good_given [] marks q c e = e
good_given (x ∷ es) marks q c e =
    good_given es (Gave x ∷ marks) q.1 c.1
    (ap (λ (o : Option Emission). reply_or o (after_one (elements_given marks) x (replied marks))) q.0
    ∙ ap (λ (t : Bool). reply_given t (is_preamble (pieces.since_indicator (elements_given marks))) (replied marks)) c.0
    ∙ ap closed e)

goodbye_keeps : (before : List elements.Element) → Keeps goodbye before
goodbye_keeps before = frame_keeps (written_plain plain.Dcn true) [] before (omega arith) (omega arith) refl tt

-- a frame comes
acked_by : (job : JobValue) (frame : Option Frame) (n : ℕ) (marks : List Mark) → IsAcked job n marks → IsAcked job n (acknowledged_by frame marks)
acked_by job frame n marks a =
    record {
      last = a.last;
      emits = emits_ack job frame marks a.last a.emits;
      after = after_if a.last (replied marks) (replied (acknowledged_by frame marks)) n (λ e. replied_by frame marks ∙ good_heard frame (replied marks) e) a.after;
    }

acked_heard : (job : JobValue) (frame : Option Frame) (state : State) (due : List Due) (n : ℕ) (marks : List Mark) → Acked job state due n marks → Acked job state due n (acknowledged_by frame marks)
acked_heard job frame Idle due n marks a = (subst (Keeps due) (sym (elements_ack frame marks)) a.0, acked_by job frame n marks a.1)
acked_heard job frame (Closing o) due n marks a = (subst (Keeps due) (sym (elements_ack frame marks)) a.0, acked_by job frame n marks a.1)
acked_heard job frame AwaitDis due n marks a = tt
acked_heard job frame (AwaitCfr dis dcs) due n marks a = tt
acked_heard job frame (AwaitMcf dis dcs) due n marks a = tt

stays : (job : JobValue) (a : CallerCore) (frame : Option Frame) (marks : List Mark) → Tally job a marks → Tally job a (acknowledged_by frame marks)
stays job a frame marks t = (t.0, acked_heard job frame a.state a.waiting a.counts.delivered marks t.1)

-- an end that is no delivery
short_of : (outcome : Outcome) (pages : ℕ) (c : Counts) → (outcome ≡ outcomes.Delivered → ⊥) → Underway pages c → Final outcome pages c
short_of outcome pages c n u =
    let d : c.delivered ≡ c.page = u.delivered in
    let w : c.page < pages = u.within in
    record { most = omega arith; all_if = λ e. absurd (n e); if_all = λ e. absurd (less c.delivered pages (omega arith) e) }
  where
    less : (m k : ℕ) → m < k → m ≡ k → ⊥
    less m k l e = omega arith

no_refusal : (r : Refusal) → outcome_of r ≡ outcomes.Delivered → ⊥
no_refusal refusals.NotReceiver e = cc
no_refusal refusals.WidthLacking e = cc
no_refusal refusals.FineLacking e = cc
no_refusal refusals.RatesSpent e = cc

if_tally : (job : JobValue) (a : CallerCore) (marks : List Mark) (t : Bool) (m n : Move) → Tally job (moved a m) marks → Tally job (moved a n) marks → Tally job (moved a (if t then m else n)) marks
if_tally job a marks true m n x y = x
if_tally job a marks false m n x y = y

-- what is known of a core that waits for a frame and has nothing to give
record Waits (job : JobValue) (pages : ℕ) (c : Counts) (marks : List Mark) : Type 0 where
  underway : Underway pages c
  acked : IsAcked job c.page marks

closes_short : (job : JobValue) (a : CallerCore) (marks : List Mark) (outcome : Outcome) (c : Counts) → (outcome ≡ outcomes.Delivered → ⊥) → Waits job a.pages c marks → Tally job (moved a (Closes outcome c)) marks
closes_short job a marks outcome c n w = (short_of outcome a.pages c n w.underway, (goodbye_keeps (elements_given marks), subst (λ (k : ℕ). IsAcked job k marks) (sym w.underway.delivered) w.acked))

choice_tally : (job : JobValue) (a : CallerCore) (marks : List Mark) (dis : Dis) (c : Counts) (r : Result Dcs Refusal) → Waits job a.pages c marks → Tally job (moved a (by_choice dis c r)) marks
choice_tally job a marks dis c (Ok dcs) w = (w.underway, tt)
choice_tally job a marks dis c (Err e) w = closes_short job a marks (outcome_of e) c (no_refusal e) w

tries_tally : (job : JobValue) (a : CallerCore) (marks : List Mark) (dis : Dis) (dcs : Dcs) (c : Counts) → Waits job a.pages c marks → Tally job (moved a (tries_again dis dcs c)) marks
tries_tally job a marks dis dcs c w =
    if_tally job a marks (nat_lt c.tries 3) (Trains dis dcs (next_try c)) (Closes outcomes.NoReply c) (record { delivered = w.underway.delivered; within = w.underway.within }, tt) (closes_short job a marks outcomes.NoReply c (λ e. cc) w)

refused_tally : (job : JobValue) (a : CallerCore) (marks : List Mark) (dis : Dis) (dcs : Dcs) (c : Counts) → Waits job a.pages c marks → Tally job (moved a (after_refusal dis dcs c)) marks
refused_tally job a marks dis dcs c w =
    if_tally job a marks (nat_lt c.refused 2) (Trains dis dcs (one_refused c)) (Closes outcomes.PageRefused c) (record { delivered = w.underway.delivered; within = w.underway.within }, tt)
    (closes_short job a marks outcomes.PageRefused c (λ e. cc) w)

hangs_tally : (job : JobValue) (a : CallerCore) (marks : List Mark) → Waits job a.pages a.counts marks → Tally job (moved a HangsUp) marks
hangs_tally job a marks w =
    ((outcomes.HungUp, refl, short_of outcomes.HungUp a.pages a.counts (λ e. cc) w.underway), (tt, subst (λ (k : ℕ). IsAcked job k marks) (sym w.underway.delivered) w.acked))

last_page : (pages page : ℕ) → is_last_page pages page ≡ true → page + 1 ≡ pages
last_page pages page e = grind (arith)

not_last : (pages page : ℕ) → is_last_page pages page ≡ false → page + 1 ≡ pages → ⊥
not_last pages page e q = grind (arith)

-- MCF or RTP: the page that went out last is delivered
acknowledged_tally : (job : JobValue) (a : CallerCore) (marks : List Mark) (m : Move) → Underway a.pages a.counts → Emits job marks (Some a.counts.page) → replied marks ≡ Answered true →
    (Underway a.pages (next_page a.counts) → Tally job (moved a m) marks) → Tally job (moved a (if is_last_page a.pages a.counts.page then Closes outcomes.Delivered (one_delivered a.counts) else m)) marks
acknowledged_tally job a marks m u e k f = by (is_last_page a.pages a.counts.page) refl
  where
    by : (t : Bool) → is_last_page a.pages a.counts.page ≡ t → Tally job (moved a (if t then Closes outcomes.Delivered (one_delivered a.counts) else m)) marks
    by true h =
        let d : a.counts.delivered ≡ a.counts.page = u.delivered in
        let l : a.counts.page + 1 ≡ a.pages = last_page a.pages a.counts.page h in (
          record { most = omega arith; all_if = λ x. omega arith; if_all = λ x. refl },
          (goodbye_keeps (elements_given marks), record { last = Some a.counts.page; emits = e; after = inr (ap (λ (n : ℕ). n + 1) d, k) }),
        )
    by false h =
        let d : a.counts.delivered ≡ a.counts.page = u.delivered in
        let w : a.counts.page < a.pages = u.within in
        let n : (a.counts.page + 1 ≡ a.pages) → ⊥ = not_last a.pages a.counts.page h in
        f (record { delivered = ap (λ (n : ℕ). n + 1) d; within = omega (arith, n) })

turns_tally : (job : JobValue) (a : CallerCore) (marks : List Mark) (now : ℕ) (m : Move) (t : Option Format) → Underway a.pages (next_page a.counts) → Tally job (moved a m) marks → Tally job (moved a (turns_or now t a.counts m)) marks
turns_tally job a marks now m (Some format) u r = (record { delivered = u.delivered; within = u.within }, tt)
turns_tally job a marks now m None u r = r

never_delivered : (t : Bool) → (if t then outcomes.NoAnswer else outcomes.NoReply) ≡ outcomes.Delivered → ⊥
never_delivered true e = cc
never_delivered false e = cc

sent_after : (last : Option ℕ) (r : Reply) (n : ℕ) → last ≡ Some n → IsAfter last r n
sent_after last r n e = subst (λ (o : Option ℕ). IsAfter o r n) (sym e) (inl refl)

frame_tally : (job : JobValue) (a : CallerCore) (now : ℕ) (marks : List Mark) (state : State) (frame : Option Frame) → Tally job a marks → Sums state a.pages a.counts a.outcome →
    (last : Option ℕ) → Emits job marks last → InTurn last (replied marks) a.counts.page state [] (elements_given marks) → IsSent last a.counts.page state [] →
    Tally job (moved a (on_frame now a.format (turn_after a.formats a.counts.page) a.pages state a.counts frame)) (acknowledged_by frame marks)
frame_tally job a now marks AwaitDis (Some (frames.Dis dis)) t s last e n i =
    choice_tally job a marks dis (first_try a.counts) (choice dis a.format a.counts.step) (record { underway = record { delivered = s.delivered; within = s.within }; acked = record { last = last; emits = e; after = after_of last (replied marks) a.counts.page n.0 } })
frame_tally job a now marks AwaitDis (Some frames.Dcn) t s last e n i = hangs_tally job a marks (record { underway = s; acked = record { last = last; emits = e; after = after_of last (replied marks) a.counts.page n.0 } })
frame_tally job a now marks (AwaitCfr dis dcs) (Some frames.Cfr) t s last e n i = (record { delivered = s.delivered; within = s.within }, tt)
frame_tally job a now marks (AwaitCfr dis dcs) (Some frames.Ftt) t s last e n i =
    choice_tally job a marks dis (next_step a.counts) (choice dis a.format (a.counts.step + 1)) (record { underway = record { delivered = s.delivered; within = s.within }; acked = record { last = last; emits = e; after = after_of last (replied marks) a.counts.page n.0 } })
frame_tally job a now marks (AwaitCfr dis dcs) (Some (frames.Dis other)) t s last e n i = tries_tally job a marks dis dcs a.counts (record { underway = s; acked = record { last = last; emits = e; after = after_of last (replied marks) a.counts.page n.0 } })
frame_tally job a now marks (AwaitCfr dis dcs) (Some frames.Dcn) t s last e n i = hangs_tally job a marks (record { underway = s; acked = record { last = last; emits = e; after = after_of last (replied marks) a.counts.page n.0 } })
frame_tally job a now marks (AwaitMcf dis dcs) (Some frames.Mcf) t s last e n i =
    acknowledged_tally job a (acknowledged_by (Some frames.Mcf) marks) (turns_or now (turn_after a.formats a.counts.page) a.counts (Sends dis dcs (next_page a.counts))) s (subst (Emits job marks) (i refl) e) (ap (reply_heard true) n)
    (λ u. turns_tally job a (acknowledged_by (Some frames.Mcf) marks) now (Sends dis dcs (next_page a.counts)) (turn_after a.formats a.counts.page) u (u, tt))
frame_tally job a now marks (AwaitMcf dis dcs) (Some frames.Rtp) t s last e n i =
    acknowledged_tally job a (acknowledged_by (Some frames.Rtp) marks) (turns_or now (turn_after a.formats a.counts.page) a.counts (Trains dis dcs (next_page a.counts))) s (subst (Emits job marks) (i refl) e) (ap (reply_heard true) n)
    (λ u. turns_tally job a (acknowledged_by (Some frames.Rtp) marks) now (Trains dis dcs (next_page a.counts)) (turn_after a.formats a.counts.page) u (u, tt))
frame_tally job a now marks (AwaitMcf dis dcs) (Some frames.Rtn) t s last e n i =
    refused_tally job a (acknowledged_by (Some frames.Rtn) marks) dis dcs a.counts (record { underway = s; acked = acked_by job (Some frames.Rtn) a.counts.page marks (record { last = last; emits = e; after = sent_after last (replied marks) a.counts.page (i refl) }) })
frame_tally job a now marks (AwaitMcf dis dcs) (Some frames.Dcn) t s last e n i = hangs_tally job a marks (record { underway = s; acked = record { last = last; emits = e; after = sent_after last (replied marks) a.counts.page (i refl) } })
frame_tally job a now marks state frame t s last e n i = stays job a frame marks t

pub comes_tally : (texts : Texts) (job : JobValue) (a : CallerCore) (piece : pieces.Piece) (now : ℕ) (marks : List Mark) → Good texts job a marks → Tally job a marks → Tally job (came a piece now) (marks_heard piece marks)
comes_tally texts job a (pieces.Frame octets) now marks g t = by a.waiting refl
  where
    by : (w : List Due) → a.waiting ≡ w → Tally job (moved a (if waits w then Stays else on_frame now a.format (turn_after a.formats a.counts.page) a.pages a.state a.counts (frame_of octets))) (acknowledged_by (frame_of octets) marks)
    by [] e = frame_tally job a now marks a.state (frame_of octets) t t.0 g.last g.kept.emits (subst (λ (w : List Due). InTurn g.last (replied marks) a.counts.page a.state w (elements_given marks)) e g.turn) (subst (λ (w : List Due). IsSent g.last a.counts.page a.state w) e g.kept.sent)
    by (d ∷ due) e = stays job a (frame_of octets) marks t
comes_tally texts job a (pieces.Start k) now marks g t = t
comes_tally texts job a (pieces.Octets os) now marks g t = t
comes_tally texts job a (pieces.End w) now marks g t = t
comes_tally texts job a pieces.Gap now marks g t = t

-- a tick
timer_tally : (job : JobValue) (a : CallerCore) (t1_due t4_due : Bool) (marks : List Mark) (state : State) → a.state ≡ state → Tally job a marks → Sums state a.pages a.counts a.outcome →
    (last : Option ℕ) → Emits job marks last → InTurn last (replied marks) a.counts.page state [] (elements_given marks) → IsSent last a.counts.page state [] →
    Tally job (moved a (on_timers t1_due t4_due state a.counts)) marks
timer_tally job a t1_due t4_due marks Idle h t s last e n i = t
timer_tally job a t1_due t4_due marks (Closing o) h t s last e n i = t
timer_tally job a t1_due t4_due marks AwaitDis h t s last e n i =
    if_tally job a marks t1_due (gives_up_dis a.counts) Stays
    (closes_short job a marks (if nat_eq a.counts.delivered 0 then outcomes.NoAnswer else outcomes.NoReply) a.counts (never_delivered (nat_eq a.counts.delivered 0)) (record { underway = s; acked = record { last = last; emits = e; after = after_of last (replied marks) a.counts.page n.0 } })) t
timer_tally job a t1_due t4_due marks (AwaitCfr dis dcs) h t s last e n i =
    if_tally job a marks t4_due (tries_again dis dcs a.counts) Stays
    (tries_tally job a marks dis dcs a.counts (record { underway = s; acked = record { last = last; emits = e; after = after_of last (replied marks) a.counts.page n.0 } })) t
timer_tally job a t1_due t4_due marks (AwaitMcf dis dcs) h t s last e n i =
    if_tally job a marks t4_due (asks_again a.counts) Stays
    (if_tally job a marks (nat_lt a.counts.tries 3) (AsksAgain (next_try a.counts)) (Closes outcomes.NoReply a.counts)
    (subst (λ (p : State). TallyOf job p a.pages (next_try a.counts) a.outcome (command (command_after a.formats a.pages a.counts.page)) marks) (sym h) (record { delivered = s.delivered; within = s.within }, tt))
    (closes_short job a marks outcomes.NoReply a.counts (λ e. cc) (record { underway = s; acked = record { last = last; emits = e; after = sent_after last (replied marks) a.counts.page (i refl) } }))) t

timed_tally : (texts : Texts) (job : JobValue) (a : CallerCore) (now : ℕ) (marks : List Mark) → Good texts job a marks → Tally job a marks → Tally job (timed a now) marks
timed_tally texts job a now marks g t = by a.waiting refl
  where
    by : (w : List Due) → a.waiting ≡ w → Tally job (moved a (if waits w then Stays else on_timers (is_due a.t1 now) (is_due a.t4 now) a.state a.counts)) marks
    by (d ∷ due) e = t
    by [] e =
        timer_tally job a (is_due a.t1 now) (is_due a.t4 now) marks a.state refl t t.0 g.last g.kept.emits
        (subst (λ (w : List Due). InTurn g.last (replied marks) a.counts.page a.state w (elements_given marks)) e g.turn)
        (subst (λ (w : List Due). IsSent g.last a.counts.page a.state w) e g.kept.sent)

tally_when_given : (job : JobValue) (state : State) (pages : ℕ) (c : Counts) (o : Option Outcome) (marks : List Mark) → TallyOf job state pages c o [] marks → TallyOf job (state_when_given state) pages c (outcome_when_given state o) [] marks
tally_when_given job Idle pages c o marks t = t
tally_when_given job (Closing x) pages c o marks t = ((x, refl, t.0), t.1)
tally_when_given job AwaitDis pages c o marks t = t
tally_when_given job (AwaitCfr dis dcs) pages c o marks t = t
tally_when_given job (AwaitMcf dis dcs) pages c o marks t = t

after_tally : (job : JobValue) (a : CallerCore) (now : ℕ) (packet : Packet) (rest : List Due) (marks : List Mark) → TallyOf job a.state a.pages a.counts a.outcome rest marks → Tally job (after_giving a now packet rest) marks
after_tally job a now packet [] marks t = tally_when_given job a.state a.pages a.counts a.outcome marks t
after_tally job a now packet (d ∷ due) marks t = t

quiet_acked : (texts : Texts) (job : JobValue) (page n : ℕ) (Post : List elements.Element → Type 0) (d : Due) (due : List Due) (marks : List Mark) → SafeTo texts job page Post (d ∷ due) (elements_given marks) →
    Keeps (d ∷ due) (elements_given marks) × IsAcked job n marks → Keeps (taken texts.writes job d due).rest (elements_given (gave_all (elements_in (taken texts.writes job d due).packet) marks)) × IsAcked job n (gave_all (elements_in (taken texts.writes job d due).packet) marks)
quiet_acked texts job page n Post (One p) due marks s a = (
  subst (Keeps due) (sym (pushed_given (elements_in p) marks)) a.0.1,
  record {
    last = a.1.last;
    emits = quiet_emits job (elements_in p) marks a.1.last s.0 a.1.emits;
    after = after_if a.1.last (replied marks) (replied (gave_all (elements_in p) marks)) n (good_given (elements_in p) marks s.0 a.0.0) a.1.after;
  },
)
quiet_acked texts job page n Post (Text m dcs from) due marks s a = absurd a.0

acked_given : (texts : Texts) (job : JobValue) (state : State) (page n : ℕ) (d : Due) (due : List Due) (marks : List Mark) → SafeTo texts job page (PostOf state) (d ∷ due) (elements_given marks) →
    Acked job state (d ∷ due) n marks → Acked job state (taken texts.writes job d due).rest n (gave_all (elements_in (taken texts.writes job d due).packet) marks)
acked_given texts job Idle page n d due marks s a = quiet_acked texts job page n (PostOf Idle) d due marks s a
acked_given texts job (Closing o) page n d due marks s a = quiet_acked texts job page n (PostOf (Closing o)) d due marks s a
acked_given texts job AwaitDis page n d due marks s a = tt
acked_given texts job (AwaitCfr dis dcs) page n d due marks s a = tt
acked_given texts job (AwaitMcf dis dcs) page n d due marks s a = tt

first_tally : (texts : Texts) (job : JobValue) (a : CallerCore) (now : ℕ) (marks : List Mark) (due : List Due) → a.waiting ≡ due → Good texts job a marks → Tally job a marks →
    Tally job (given_first texts.writes job a now due).core (marks_given (given_first texts.writes job a now due).given marks)
first_tally texts job a now marks [] h g t = t
first_tally texts job a now marks (d ∷ due) h g t =
    let k : TakenPart = taken texts.writes job d due in
    after_tally job a now k.packet k.rest (gave_all (elements_in k.packet) marks) (
      t.0,
      acked_given texts job a.state a.counts.page a.counts.delivered d due marks (subst (λ (w : List Due). SafeTo texts job a.counts.page (PostOf a.state) w (elements_given marks)) h g.kept.safe)
          (subst (λ (w : List Due). Acked job a.state w a.counts.delivered marks) h t.1),
    )

paced_tally : (texts : Texts) (job : JobValue) (a : CallerCore) (now : ℕ) (marks : List Mark) → Good texts job a marks → Tally job a marks → Tally job (paced texts.writes job a now).core (marks_given (paced texts.writes job a now).given marks)
paced_tally texts job a now marks g t = by (pace_allows a.pace.last now)
  where
    by : (w : Bool) → Tally job (if◌then◌else◌ {A = TickResult} w (given_first texts.writes job a now a.waiting) (record { core = a; given = None })).core (marks_given (if◌then◌else◌ {A = TickResult} w (given_first texts.writes job a now a.waiting) (record { core = a; given = None })).given marks)
    by true = first_tally texts job a now marks a.waiting refl g t
    by false = t

pub ticked_tally : (texts : Texts) (job : JobValue) (a : CallerCore) (now : ℕ) (marks : List Mark) → Good texts job a marks → Tally job a marks → Tally job (ticked texts.writes job a now).core (marks_given (ticked texts.writes job a now).given marks)
ticked_tally texts job a now marks g t = paced_tally texts job (timed a now) now marks (timed_good texts job a now marks g) (timed_tally texts job a now marks g t)

pub start_tally : (job : JobValue) (old : List Mark) (core : CallerCore) (now : ℕ) → IsJob job → Tally job (started core job now) (Begins ∷ old)
start_tally job old core now is = (record { delivered = refl; within = is.some }, tt)
