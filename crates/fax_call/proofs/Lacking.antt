-- No image is emitted of a page whose width or resolution the called machine lacks.
use Rattle.std.proofs.Common.{◌≡◌, ℕ, ◌+◌, ◌<◌, ◌≤◌, Bool, true, false, not, ◌&&◌, nat_lt, nat_le, List, [], ◌∷◌, length, take, drop, slice_get, Option, Some, None, Result, Ok, Err, inl, inr, refl, sym, ◌∙◌, subst, arith, length-take, if◌then◌else◌}
use Rattle.std.specs.Prelude.{IsSome}
use Rattle.fax_runcodes.specs.declared.format.Format.{Format}
use Rattle.fax_frames.specs.declared.dis.Dis.{Dis}
use Rattle.fax_frames.specs.declared.dcs.Dcs.{Dcs}
use Rattle.fax_frames.specs.declared.frame.Frame.{Frame}
use Rattle.fax_frames.specs.declared.frame.Frame.TheVariants as frames
use Rattle.fax_frames.specs.declared.choice.Refusal.{Refusal}
use Rattle.fax_frames.specs.declared.choice.Refusal.TheVariants as refusals
use Rattle.fax_frames.specs.Capabilities.{has_width}
use Rattle.fax_frames.specs.Choice.{choice}
use Rattle.fax_frames.specs.FieldBits.{has_bit}
use Rattle.fax_frames.specs.Frames.{frame_of}
use Rattle.fax_timers.specs.Moments.{is_due}
use Rattle.fax_timers.specs.Paces.{pace_allows}
use Rattle.fax_ifp.specs.Elements as elements
use Rattle.fax_ifp.specs.Pieces as pieces
use Rattle.fax_jobs.specs.declared.outcome.Outcome.TheVariants as outcomes
use Rattle.fax_jobs.specs.Jobs.{JobValue, IsJob}
use Rattle.fax_call.specs.declared.state.State.{State}
use Rattle.fax_call.specs.declared.state.State.TheVariants.{Idle, AwaitDis, AwaitCfr, AwaitMcf, Closing}
use Rattle.fax_call.specs.Writings.{Writing}
use Rattle.fax_call.specs.Replies.{Packet, Part, Due, One, Text, waits, part_length, turn_after, is_last_page}
use Rattle.fax_call.specs.Table.{Counts, Move, Stays, Trains, Sends, AsksAgain, Turns, Closes, HangsUp, first_try, next_try, next_step, next_page, one_delivered, one_refused, most_tries, by_choice, turns_or, on_frame, on_timers}
use Rattle.fax_call.specs.Calls.{CallerCore, started, moved, came, timed, text_at, TakenPart, taken, state_when_given, after_giving, TickResult, given_first, paced, ticked, CallEvent, Comes, Ticks, after_events}
use Rattle.fax_call.specs.Emission.{Emission, since_dcs, emitted_at, Mark, Gave, gave_all, elements_given, marks_given, marks_after, replied, Reply, Emits}
use Rattle.fax_call.specs.Refusals.{dis_by, dis_with, dis_taken, Allows, EndsImage, NoneIsLacking}
use Rattle.fax_frames.specs.Rates.{kind_of}
use Rattle.fax_ifp.specs.ImageOctets.{image_octets}
use Rattle.fax_call.proofs.PacketsBack.{elements_in, part_back}
use Rattle.fax_call.proofs.Waiting.{Texts, Quiet, SafeTo, PostOf, part_some, page_at}
use Rattle.fax_call.proofs.Emitted.{InTurn, Rep, Good, not_last, le_if, gt_if, end_emits, timed_good, start_good, events_good}
use Rattle.fax_call.proofs.Numbered.{numbers_are_fixed}
use Rattle.fax_call.proofs.Due.{format_at}

-- ---- the choice

chosen_allows : (dis : Dis) (format : Format) (step : ℕ) (dcs : Dcs) → choice dis format step ≡ Ok dcs → Allows dis format
chosen_allows dis format step dcs h = by (has_bit 10 dis.caps.0) (has_width format.width dis.caps.0) format.fine (has_bit 15 dis.caps.0) _ refl refl refl refl h
  where
    by : (x y f z : Bool) (r : Result Dcs Refusal) → has_bit 10 dis.caps.0 ≡ x → has_width format.width dis.caps.0 ≡ y → format.fine ≡ f → has_bit 15 dis.caps.0 ≡ z
        → (if not x then Err refusals.NotReceiver else if not y then Err refusals.WidthLacking else if f && not z then Err refusals.FineLacking else r) ≡ Ok dcs → Allows dis format
    by false y f z r a b c d e = cc
    by true false f z r a b c d e = cc
    by true true true false r a b c d e = cc
    by true true true true r a b c d e = record { receives = a; width = b; fine = λ q. d }
    by true true false z r a b c d e = record { receives = a; width = b; fine = λ q. let w : false ≡ true = sym c ∙ q in cc }

-- ---- after a DIS that was taken, the format of the page due is allowed

abbrev Allowed : Dis → Format → Option Dis → Type 0
Allowed dis format o = (o ≡ Some dis) × Allows dis format

abbrev pub HeldOf : State → Format → Option Dis → Type 0
HeldOf (AwaitCfr dis dcs) format o = Allowed dis format o
HeldOf (AwaitMcf dis dcs) format o = Allowed dis format o
HeldOf state format o = Unit {0}

abbrev HeldMove : Format → Option Dis → Move → Type 0
HeldMove format o (Trains dis dcs c) = Allowed dis format o
HeldMove format o (Sends dis dcs c) = Allowed dis format o
HeldMove format o m = Unit {0}

moved_held : (a : CallerCore) (o : Option Dis) (m : Move) → HeldOf a.state a.format o → HeldMove a.format o m → HeldOf (moved a m).state (moved a m).format o
moved_held a o Stays h k = h
moved_held a o (Trains dis dcs c) h k = k
moved_held a o (Sends dis dcs c) h k = k
moved_held a o (AsksAgain c) h k = h
moved_held a o (Turns format t1 c) h k = tt
moved_held a o (Closes outcome c) h k = tt
moved_held a o HangsUp h k = tt

if_held : (format : Format) (o : Option Dis) (t : Bool) (m n : Move) → HeldMove format o m → HeldMove format o n → HeldMove format o (if t then m else n)
if_held format o true m n x y = x
if_held format o false m n x y = y

choice_held : (format : Format) (dis : Dis) (c : Counts) (step : ℕ) (o : Option Dis) (r : Result Dcs Refusal) → choice dis format step ≡ r → o ≡ Some dis → HeldMove format o (by_choice dis c r)
choice_held format dis c step o (Ok dcs) h e = (e, chosen_allows dis format step dcs h)
choice_held format dis c step o (Err refusal) h e = tt

turns_held : (format : Format) (o : Option Dis) (now : ℕ) (c : Counts) (m : Move) (t : Option Format) → HeldMove format o m → HeldMove format o (turns_or now t c m)
turns_held format o now c m (Some next) k = tt
turns_held format o now c m None k = k

frame_held : (now : ℕ) (format : Format) (turn : Option Format) (pages : ℕ) (o : Option Dis) (state : State) (c : Counts) (frame : Option Frame) → HeldOf state format o
    → HeldMove format (dis_by state false frame o) (on_frame now format turn pages state c frame)
frame_held now format turn pages o AwaitDis c (Some (frames.Dis dis)) h = choice_held format dis (first_try c) c.step (Some dis) (choice dis format c.step) refl refl
frame_held now format turn pages o AwaitDis c (Some frames.Dcn) h = tt
frame_held now format turn pages o AwaitDis c frame h = tt
frame_held now format turn pages o (AwaitCfr dis dcs) c (Some frames.Cfr) h = h
frame_held now format turn pages o (AwaitCfr dis dcs) c (Some frames.Ftt) h = choice_held format dis (next_step c) (c.step + 1) o (choice dis format (c.step + 1)) refl h.0
frame_held now format turn pages o (AwaitCfr dis dcs) c (Some (frames.Dis other)) h = if_held format o (nat_lt c.tries most_tries) (Trains dis dcs (next_try c)) (Closes outcomes.NoReply c) h tt
frame_held now format turn pages o (AwaitCfr dis dcs) c (Some frames.Dcn) h = tt
frame_held now format turn pages o (AwaitMcf dis dcs) c (Some frames.Mcf) h =
    if_held format o (is_last_page pages c.page) (Closes outcomes.Delivered (one_delivered c)) (turns_or now turn c (Sends dis dcs (next_page c))) tt (turns_held format o now c (Sends dis dcs (next_page c)) turn h)
frame_held now format turn pages o (AwaitMcf dis dcs) c (Some frames.Rtp) h =
    if_held format o (is_last_page pages c.page) (Closes outcomes.Delivered (one_delivered c)) (turns_or now turn c (Trains dis dcs (next_page c))) tt (turns_held format o now c (Trains dis dcs (next_page c)) turn h)
frame_held now format turn pages o (AwaitMcf dis dcs) c (Some frames.Rtn) h = if_held format o (nat_lt c.refused 2) (Trains dis dcs (one_refused c)) (Closes outcomes.PageRefused c) h tt
frame_held now format turn pages o (AwaitMcf dis dcs) c (Some frames.Dcn) h = tt
frame_held now format turn pages o state c frame h = tt

kept_held : (state : State) (format : Format) (w : Bool) (frame : Option Frame) (o : Option Dis) → HeldOf state format o → HeldOf state format (dis_by state w frame o)
kept_held Idle format w frame o h = tt
kept_held AwaitDis format w frame o h = tt
kept_held (AwaitCfr dis dcs) format w frame o h = h
kept_held (AwaitMcf dis dcs) format w frame o h = h
kept_held (Closing x) format w frame o h = tt

timers_held : (format : Format) (o : Option Dis) (x y : Bool) (state : State) (c : Counts) → HeldOf state format o → HeldMove format o (on_timers x y state c)
timers_held format o x y Idle c h = tt
timers_held format o x y (Closing z) c h = tt
timers_held format o true y AwaitDis c h = tt
timers_held format o false y AwaitDis c h = tt
timers_held format o x true (AwaitCfr dis dcs) c h = if_held format o (nat_lt c.tries most_tries) (Trains dis dcs (next_try c)) (Closes outcomes.NoReply c) h tt
timers_held format o x false (AwaitCfr dis dcs) c h = tt
timers_held format o x true (AwaitMcf dis dcs) c h = if_held format o (nat_lt c.tries most_tries) (AsksAgain (next_try c)) (Closes outcomes.NoReply c) tt tt
timers_held format o x false (AwaitMcf dis dcs) c h = tt

-- ---- a piece, and a tick

abbrev pub Held : CallerCore → Option Dis → Type 0
Held a o = HeldOf a.state a.format o

came_held : (a : CallerCore) (o : Option Dis) (piece : pieces.Piece) (now : ℕ) → Held a o → Held (came a piece now) (dis_with a piece o)
came_held a o (pieces.Frame octets) now h = by (waits a.waiting)
  where
    turn : Option Format
    turn = turn_after a.formats a.counts.page

    by : (w : Bool) → Held (moved a (if w then Stays else on_frame now a.format turn a.pages a.state a.counts (frame_of octets))) (dis_by a.state w (frame_of octets) o)
    by true = kept_held a.state a.format true (frame_of octets) o h
    by false =
        moved_held a (dis_by a.state false (frame_of octets) o) (on_frame now a.format turn a.pages a.state a.counts (frame_of octets)) (kept_held a.state a.format false (frame_of octets) o h)
        (frame_held now a.format turn a.pages o a.state a.counts (frame_of octets) h)
came_held a o (pieces.Start k) now h = h
came_held a o (pieces.Octets os) now h = h
came_held a o (pieces.End w) now h = h
came_held a o pieces.Gap now h = h

pub timed_held : (a : CallerCore) (o : Option Dis) (now : ℕ) → Held a o → Held (timed a now) o
timed_held a o now h =
    moved_held a o _ h (if_held a.format o (waits a.waiting) Stays (on_timers (is_due a.t1 now) (is_due a.t4 now) a.state a.counts) tt
    (timers_held a.format o (is_due a.t1 now) (is_due a.t4 now) a.state a.counts h))

given_held : (state : State) (format : Format) (o : Option Dis) → HeldOf state format o → HeldOf (state_when_given state) format o
given_held Idle format o h = tt
given_held AwaitDis format o h = tt
given_held (AwaitCfr dis dcs) format o h = h
given_held (AwaitMcf dis dcs) format o h = h
given_held (Closing x) format o h = tt

after_held : (a : CallerCore) (o : Option Dis) (now : ℕ) (packet : Packet) (rest : List Due) → Held a o → Held (after_giving a now packet rest) o
after_held a o now packet [] h = given_held a.state a.format o h
after_held a o now packet (d ∷ rest) h = h

first_held : (writes : Writing) (job : JobValue) (a : CallerCore) (o : Option Dis) (now : ℕ) (due : List Due) → Held a o → Held (given_first writes job a now due).core o
first_held writes job a o now [] h = h
first_held writes job a o now (d ∷ due) h = after_held a o now (taken writes job d due).packet (taken writes job d due).rest h

ticked_held : (writes : Writing) (job : JobValue) (a : CallerCore) (o : Option Dis) (now : ℕ) → Held a o → Held (ticked writes job a now).core o
ticked_held writes job a o now h = by (timed a now) (timed_held a o now h) (pace_allows (timed a now).pace.last now)
  where
    by : (b : CallerCore) → Held b o → (t : Bool) → Held (if◌then◌else◌ {A = TickResult} t (given_first writes job b now b.waiting) (record { core = b; given = None })).core o
    by b k true = first_held writes job b o now b.waiting k
    by b k false = k

pub held_in_call : (writes : Writing) (job : JobValue) (core : CallerCore) (start : ℕ) (events : List CallEvent) → Held (after_events writes job (started core job start) events) (dis_taken writes job (started core job start) events)
held_in_call writes job core start [] = tt
held_in_call writes job core start (Comes piece now ∷ before) =
    let begun : CallerCore = started core job start in
    came_held (after_events writes job begun before) (dis_taken writes job begun before) piece now (held_in_call writes job core start before)
held_in_call writes job core start (Ticks now ∷ before) =
    let begun : CallerCore = started core job start in
    ticked_held writes job (after_events writes job begun before) (dis_taken writes job begun before) now (held_in_call writes job core start before)

-- ---- what ends an image

none_some : (o : Option Emission) → o ≡ None → IsSome o → ⊥
none_some None e s = cc
none_some (Some x) e s = cc

quiet_ends : (es : List elements.Element) (marks : List Mark) → Quiet (elements_given marks) es → EndsImage es marks → ⊥
quiet_ends [] marks q h = h
quiet_ends (e ∷ es) marks q (inl s) = none_some (emitted_at (elements_given marks) e) q.0 s
quiet_ends (e ∷ es) marks q (inr h) = quiet_ends es (Gave e ∷ marks) q.1 h

-- the last part of a text alone, in Await MCF
record InMcf (texts : Texts) (job : JobValue) (a : CallerCore) (marks : List Mark) (packet : Packet) : Type 0 where
  dis : Dis
  dcs : Dcs
  state : a.state ≡ AwaitMcf dis dcs
  emits : Emits job (gave_all (elements_in packet) marks) (Some a.counts.page)

in_mcf : (last : Option ℕ) (r : Reply) (page m : ℕ) (state : State) (c : Dcs) (from : ℕ) (due : List Due) (before : List elements.Element) → InTurn last r page state (Text m c from ∷ due) before →
    (dis : Dis) × (dcs : Dcs) × (state ≡ AwaitMcf dis dcs)
in_mcf last r page m Idle c from due before t = let q : false ≡ true = t in cc
in_mcf last r page m AwaitDis c from due before t = absurd t.1
in_mcf last r page m (AwaitCfr dis dcs) c from due before t = absurd t.1
in_mcf last r page m (AwaitMcf dis dcs) c from due before t = (dis, dcs, refl)
in_mcf last r page m (Closing x) c from due before t = let q : false ≡ true = t in cc

text_ends : (texts : Texts) (job : JobValue) (a : CallerCore) (marks : List Mark) (dcs : Dcs) (from : ℕ) (due : List Due) (last : Option ℕ) → IsJob job → a.counts.page < length job.pages → Emits job marks last →
    SafeTo texts job a.counts.page (PostOf a.state) (Text a.counts.page dcs from ∷ due) (elements_given marks) → InTurn last (replied marks) a.counts.page a.state (Text a.counts.page dcs from ∷ due) (elements_given marks) →
    EndsImage (elements_in (taken texts.writes job (Text a.counts.page dcs from) due).packet) marks →
    Emits job (gave_all (elements_in (taken texts.writes job (Text a.counts.page dcs from) due).packet) marks) (Some a.counts.page)
text_ends texts job a marks dcs from due last is within e s t h0 = by (nat_le (length os) (part_length dcs)) refl h0
  where
    page : ℕ
    page = a.counts.page

    os : List ℕ
    os = drop from (text_at texts.writes job page dcs)

    last_one : TakenPart
    last_one = record { packet = Part (kind_of dcs.rate) true os; rest = due }

    more : TakenPart
    more = record { packet = Part (kind_of dcs.rate) false (take (part_length dcs) os); rest = Text page dcs (from + part_length dcs) ∷ due }

    ends : EndsImage (elements_in last_one.packet) marks → nat_le (length os) (part_length dcs) ≡ true → Emits job (gave_all (elements_in last_one.packet) marks) (Some page)
    ends h k = end_emits texts job page a.state marks dcs from due last is within e s t (le_if (length os) (part_length dcs) k)

    goes_on : nat_le (length os) (part_length dcs) ≡ false → EndsImage (elements_in more.packet) marks → ⊥
    goes_on k h =
        let ps = part_some dcs.rate in
        let part : List ℕ = take (part_length dcs) os in
        let long : part_length dcs < length os = gt_if (length os) (part_length dcs) k in
        let l : length part ≡ part_length dcs = grind (arith, length-take) in
        let l1 : 1 ≤ part_length dcs = ps.0 in let l2 : part_length dcs ≤ 65535 = ps.1 in
        let before : List elements.Element = elements_given marks in
        let q : emitted_at before (elements.Field (kind_of dcs.rate) 6 part) ≡ None = not_last (since_dcs before) (pieces.open_image before) (image_octets before) (kind_of dcs.rate) part in
        quiet_ends (elements.Field (kind_of dcs.rate) 6 part ∷ []) marks (q, tt)
        (subst (λ (es : List elements.Element). EndsImage es marks) (part_back dcs.rate false part (omega arith) (omega arith)) h)

    by : (w : Bool) → nat_le (length os) (part_length dcs) ≡ w → EndsImage (elements_in (if◌then◌else◌ {A = TakenPart} w last_one more).packet) marks →
        Emits job (gave_all (elements_in (if◌then◌else◌ {A = TakenPart} w last_one more).packet) marks) (Some page)
    by true k h = ends h k
    by false k h = absurd (goes_on k h)

-- so it is in each tick that gives such a packet
first_ends : (texts : Texts) (job : JobValue) (a : CallerCore) (now : ℕ) (marks : List Mark) (packet : Packet) (w : List Due) → a.waiting ≡ w → Good texts job a marks → (given_first texts.writes job a now w).given ≡ Some packet →
    EndsImage (elements_in packet) marks → InMcf texts job a marks packet
first_ends texts job a now marks packet [] e g is h = cc
first_ends texts job a now marks packet (One p ∷ due) e g is h =
    let same : p ≡ packet = cc in
    let s : SafeTo texts job a.counts.page (PostOf a.state) (One p ∷ due) (elements_given marks) = subst (λ (w : List Due). SafeTo texts job a.counts.page (PostOf a.state) w (elements_given marks)) e g.kept.safe in
    absurd (quiet_ends (elements_in p) marks s.0 (subst (λ (x : Packet). EndsImage (elements_in x) marks) (sym same) h))
first_ends texts job a now marks packet (Text m dcs from ∷ due) e g is h =
    let s : SafeTo texts job a.counts.page (PostOf a.state) (Text m dcs from ∷ due) (elements_given marks) = subst (λ (w : List Due). SafeTo texts job a.counts.page (PostOf a.state) w (elements_given marks)) e g.kept.safe in
    let t : InTurn g.last (replied marks) a.counts.page a.state (Text m dcs from ∷ due) (elements_given marks) = subst (λ (w : List Due). InTurn g.last (replied marks) a.counts.page a.state w (elements_given marks)) e g.turn in
    let same : (taken texts.writes job (Text m dcs from) due).packet ≡ packet = cc in
    by m s.0 s t (subst (λ (x : Packet). EndsImage (elements_in x) marks) (sym same) h) same
  where
    by : (m : ℕ) → m ≡ a.counts.page → SafeTo texts job a.counts.page (PostOf a.state) (Text m dcs from ∷ due) (elements_given marks) → InTurn g.last (replied marks) a.counts.page a.state (Text m dcs from ∷ due) (elements_given marks) →
        EndsImage (elements_in (taken texts.writes job (Text m dcs from) due).packet) marks → (taken texts.writes job (Text m dcs from) due).packet ≡ packet → InMcf texts job a marks packet
    by m q s t h same =
        let s1 = subst (λ (k : ℕ). SafeTo texts job a.counts.page (PostOf a.state) (Text k dcs from ∷ due) (elements_given marks)) q s in
        let t1 = subst (λ (k : ℕ). InTurn g.last (replied marks) a.counts.page a.state (Text k dcs from ∷ due) (elements_given marks)) q t in
        let h1 = subst (λ (k : ℕ). EndsImage (elements_in (taken texts.writes job (Text k dcs from) due).packet) marks) q h in
        let same1 = subst (λ (k : ℕ). (taken texts.writes job (Text k dcs from) due).packet ≡ packet) q same in
        let p = in_mcf g.last (replied marks) a.counts.page a.counts.page a.state dcs from due (elements_given marks) t1 in
        record {
          dis = p.0;
          dcs = p.1;
          state = p.2;
          emits = subst (λ (x : Packet). Emits job (gave_all (elements_in x) marks) (Some a.counts.page)) same1 (text_ends texts job a marks dcs from due g.last g.kept.is_job g.kept.within g.kept.emits s1 t1 h1);
        }

paced_ends : (texts : Texts) (job : JobValue) (a : CallerCore) (now : ℕ) (marks : List Mark) (packet : Packet) → Good texts job a marks → (paced texts.writes job a now).given ≡ Some packet → EndsImage (elements_in packet) marks → InMcf texts job a marks packet
paced_ends texts job a now marks packet g is h = by (pace_allows a.pace.last now) is
  where
    by : (w : Bool) → (if◌then◌else◌ {A = TickResult} w (given_first texts.writes job a now a.waiting) (record { core = a; given = None })).given ≡ Some packet → InMcf texts job a marks packet
    by true q = first_ends texts job a now marks packet a.waiting refl g q h
    by false q = cc

pub none_is_lacking : NoneIsLacking
none_is_lacking writes job old core start before now packet n is_writing is_job given ends emits =
    let texts : Texts = record { writes = writes; are = is_writing } in
    let begun : CallerCore = started core job start in
    let a : CallerCore = after_events writes job begun before in
    let marks : List Mark = marks_after writes job old begun before in
    let g : Good texts job a marks = events_good texts job old begun before is_job (start_good texts job old core start is_job) in
    let t : CallerCore = timed a now in
    let m : InMcf texts job t marks packet = paced_ends texts job t now marks packet (timed_good texts job a now marks g) given ends in
    let o : Option Dis = dis_taken writes job begun before in
    let held : HeldOf (AwaitMcf m.dis m.dcs) t.format o = subst (λ (s : State). HeldOf s t.format o) m.state (timed_held a o now (held_in_call writes job core start before)) in
    let after : Emits job (gave_all (elements_in packet) marks) (Some n) = subst (λ (p : Option Packet). Emits job (marks_given p marks) (Some n)) given emits in
    let same : Some (Some n) ≡ Some (Some t.counts.page) = sym (numbers_are_fixed job (gave_all (elements_in packet) marks) (Some n) after) ∙ numbers_are_fixed job (gave_all (elements_in packet) marks) (Some t.counts.page) m.emits in
    let at : t.counts.page ≡ n = cc in
    let k : Rep texts job t marks (timed_good texts job a now marks g).last = (timed_good texts job a now marks g).kept in
    let p = page_at job.pages t.counts.page k.within in
    let format : p.0.format ≡ t.format = k.due.due p.0.format (format_at job.pages t.counts.page p.0 p.1) in
    (p.0, subst (λ (i : ℕ). slice_get job.pages i ≡ Some p.0) at p.1, m.dis, held.0, subst (Allows m.dis) (sym format) held.1)
