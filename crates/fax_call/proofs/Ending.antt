-- Every call is over in time, whatever is heard.
use Rattle.std.proofs.Common.{◌≡◌, ◌≢◌, ℕ, zero, suc, ◌+◌, ◌-◌, ◌*◌, ◌<◌, ◌≤◌, nat_eq, nat_le, nat_lt, Bool, true, false, List, [], ◌∷◌, length, Option, Some, None, Result, Ok, Err, ◌⊎◌, inl, inr, refl, sym, ◌∙◌, ap, subst, arith, if◌then◌else◌}
use Rattle.std.specs.Prelude.{IsSome}
use Rattle.std.proofs.lemmas.Nat.{mul-le}
use Rattle.fax_runcodes.specs.declared.format.Format.{Format}
use Rattle.fax_frames.specs.declared.dis.Dis.{Dis}
use Rattle.fax_frames.specs.declared.dcs.Dcs.{Dcs}
use Rattle.fax_frames.specs.declared.frame.Frame.{Frame}
use Rattle.fax_frames.specs.declared.frame.Frame.TheVariants as frames
use Rattle.fax_frames.specs.declared.choice.Refusal.{Refusal}
use Rattle.fax_frames.specs.declared.writing.Plain.{Plain}
use Rattle.fax_frames.specs.Choice.{choice}
use Rattle.fax_frames.specs.Frames.{frame_of}
use Rattle.fax_frames.specs.Rates.{training_of}
use Rattle.fax_timers.specs.Moments.{moment_after}
use Rattle.fax_timers.specs.Paces.{pace_allows, allowed_from, packet_at}
use Rattle.fax_timers.specs.Spans as spans
use Rattle.fax_timers.proofs.DueMoments.{allows_is}
use Rattle.fax_ifp.specs.Pieces as pieces
use Rattle.fax_jobs.specs.declared.outcome.Outcome.{Outcome}
use Rattle.fax_jobs.specs.declared.outcome.Outcome.TheVariants as outcomes
use Rattle.fax_jobs.specs.Jobs.{JobValue, IsJob}
use Rattle.fax_call.specs.declared.state.State.{State}
use Rattle.fax_call.specs.declared.state.State.TheVariants.{Idle, AwaitDis, AwaitCfr, AwaitMcf, Closing}
use Rattle.fax_call.specs.Writings.{Writing, IsWriting}
use Rattle.fax_call.specs.Replies.{Packet, Signals, Due, Text, waits, signals_preamble, training, command, command_after, image, goodbye, is_last_page, turn_after}
use Rattle.fax_call.specs.Table.{Counts, Move, Stays, Trains, Sends, AsksAgain, Turns, Closes, HangsUp, first_try, next_try, next_step, next_page, next_exchange, one_delivered, one_refused, most_tries, by_choice, tries_again, asks_again, after_refusal, turns_or, on_frame, gives_up_dis, on_timers}
use Rattle.fax_call.specs.Calls.{CallerCore, started, replied_with, moved, came, taken, after_giving, TickResult, given_first, paced, ticked, CallEvent, Comes, Ticks, after_events}
use Rattle.fax_call.specs.Refusals.{dis_taken}
use Rattle.fax_call.specs.Silence.{packet_time, due_time, time_of, last_tick}
use Rattle.fax_call.specs.Steps.{failures}
use Rattle.fax_call.specs.Ending.{AreSteady, NoTextIsLonger, exchange_time, longest_call, EveryCallEnds}
use Rattle.fax_call.proofs.Emitted.{start_good, events_good}
use Rattle.fax_call.proofs.RepLemmas.{step_few}
use Rattle.fax_call.proofs.Silence.{gt_if, lt_if, TimelyState, IsTimely, later, came_timely, ticked_timely, until_timely, span_most, span_long, put, taken_time, training_time, goodbye_time, trained_time, left_of, left_falls, idle_stays, over_has}
use Rattle.fax_call.proofs.Steps as steps
use Rattle.fax_call.proofs.Waiting.{Texts}

-- ---- HOW MANY EXCHANGES may follow

-- of the page due and the later ones, but for the tries of this one
abbrev base : (pages : ℕ) → Counts → ℕ
base pages c = 36 * (pages - 1 - c.page) + 6 * (2 - c.refused) + 3 * (6 - c.step)

abbrev exchanges : (pages : ℕ) → State → Counts → ℕ
exchanges pages Idle c = 0
exchanges pages (Closing x) c = 0
exchanges pages AwaitDis c = base pages c + 6
exchanges pages (AwaitCfr dis dcs) c = base pages c + 3 + (3 - c.tries)
exchanges pages (AwaitMcf dis dcs) c = base pages c + (3 - c.tries)

time_for : (n u : ℕ) → ℕ
time_for n u = n * u

time_less : (n m u : ℕ) → n + 1 ≤ m → time_for n u + u ≤ time_for m u
unfolding time_for
time_less n m u h = let k : (n + 1) * u ≤ m * u = mul-le (n + 1) u m u h (omega arith) in omega arith

time_most : (n m u : ℕ) → n ≤ m → time_for n u ≤ time_for m u
unfolding time_for
time_most n m u h = mul-le n u m u h (omega arith)

time_in_all : (pages x e : ℕ) → 1 ≤ pages → time_for (36 * pages) x + time_for (pages - 1) e + e ≤ pages * (36 * x + e)
unfolding time_for
time_in_all zero x e h = absurd (omega arith)
time_in_all (suc p) x e h =
    let q : suc p - 1 ≡ p = omega arith in
    let r : (suc p - 1) * e ≡ p * e = ap (λ (n : ℕ). n * e) q in
    omega arith

-- ---- THE TIME THAT IS NEEDED from a moment on, at most

record Terms : Type 0 where
  writes : Writing
  job : JobValue
  gap : ℕ
  longest : ℕ

abbrev later_time : Terms → (pages : ℕ) → State → Counts → ℕ
later_time k pages s c = time_for (exchanges pages s c) (exchange_time k.gap k.longest) + time_for (pages - 1 - c.page) (spans.t1 + k.gap) + goodbye_time k.gap

abbrev after : Terms → (pages : ℕ) → State → Counts → List Due → Option ℕ → Option ℕ → (m : ℕ) → ℕ
after k pages Idle c due t1 t4 m = 0
after k pages (Closing x) c due t1 t4 m = 0
after k pages AwaitDis c due t1 t4 m = left_of t1 m + later_time k pages AwaitDis c
after k pages (AwaitCfr dis dcs) c [] t1 t4 m = left_of t4 m + later_time k pages (AwaitCfr dis dcs) c
after k pages (AwaitCfr dis dcs) c (d ∷ due) t1 t4 m = spans.t4 + later_time k pages (AwaitCfr dis dcs) c
after k pages (AwaitMcf dis dcs) c [] t1 t4 m = left_of t4 m + later_time k pages (AwaitMcf dis dcs) c
after k pages (AwaitMcf dis dcs) c (d ∷ due) t1 t4 m = spans.t4 + later_time k pages (AwaitMcf dis dcs) c

abbrev needed : Terms → CallerCore → (m : ℕ) → ℕ
needed k a m = allowed_from a.pace.last - m + time_of k.writes k.job k.gap a.waiting + after k a.pages a.state a.counts a.waiting a.t1 a.t4 m

-- over, or within a moment
abbrev Goes : Terms → (x : ℕ) → CallerCore → (now : ℕ) → Type 0
Goes k x b now = (b.state ≡ Idle) ⊎ (needed k b now + now ≤ x)

goes_most : (k : Terms) (x y : ℕ) (b : CallerCore) (now : ℕ) → x ≤ y → Goes k x b now → Goes k y b now
goes_most k x y b now h (inl e) = inl e
goes_most k x y b now h (inr n) = inr (omega arith)

stays_goes : (k : Terms) (b : CallerCore) (m : ℕ) → Goes k (needed k b m + m) b m
stays_goes k b m = inr (omega arith)

after_falls : (k : Terms) (pages : ℕ) (s : State) (c : Counts) (d r : Due) (due rest : List Due) (t1 t4 : Option ℕ) (m now : ℕ) → m ≤ now
    → after k pages s c (r ∷ rest) t1 t4 now ≤ after k pages s c (d ∷ due) t1 t4 m
after_falls k pages Idle c d r due rest t1 t4 m now h = omega arith
after_falls k pages (Closing x) c d r due rest t1 t4 m now h = omega arith
after_falls k pages AwaitDis c d r due rest t1 t4 m now h = falls (left_of t1 now) (left_of t1 m) (later_time k pages AwaitDis c) (left_falls t1 m now h)
  where
    falls : (x y z : ℕ) → x ≤ y → x + z ≤ y + z
    falls x y z h = omega arith
after_falls k pages (AwaitCfr dis dcs) c d r due rest t1 t4 m now h = same (spans.t4 + later_time k pages (AwaitCfr dis dcs) c)
  where
    same : (x : ℕ) → x ≤ x
    same x = omega arith
after_falls k pages (AwaitMcf dis dcs) c d r due rest t1 t4 m now h = same (spans.t4 + later_time k pages (AwaitMcf dis dcs) c)
  where
    same : (x : ℕ) → x ≤ x
    same x = omega arith

-- A PACKET IS GIVEN
-- x: the time of what waits, w: the span after the packet, r: the time of the rest, y, z: what is after
packet_fits : (gap now m s w r x y z : ℕ) → m ≤ now → now ≤ m + gap → s ≤ w → r + (gap + w) ≤ x → z ≤ y → now + s - now + r + z + now ≤ x + y + m
packet_fits gap now m s w r x y z h k f t l = omega arith

given_goes : (k : Terms) (x m now : ℕ) (a : CallerCore) (s : State) (d : Due) (due rest : List Due) (t1 t4 : Option ℕ) (packet : Packet) → m ≤ now → now ≤ m + k.gap
    → time_of k.writes k.job k.gap rest + packet_time k.gap packet ≤ x
    → Goes k (x + after k a.pages s a.counts (d ∷ due) t1 t4 m + m) (after_giving (put a s (d ∷ due) t1 t4) now packet rest) now
given_goes k x m now a s d due rest t1 t4 packet h g t = by s rest t
  where
    span : ℕ
    span = (packet_at (signals_preamble packet) a.pace.pause now).span

    most : ℕ
    most = if signals_preamble packet then spans.longest_pause else spans.pace

    short : span ≤ most
    short = span_most (signals_preamble packet) a.pace.pause now

    keeps : (x y z : ℕ) → x ≤ y → x + z ≤ y + z
    keeps x y z h = omega arith

    t4_most : left_of (Some (moment_after now spans.t4)) now ≤ spans.t4
    t4_most = omega arith

    by : (s : State) (rest : List Due) → time_of k.writes k.job k.gap rest + packet_time k.gap packet ≤ x
        → Goes k (x + after k a.pages s a.counts (d ∷ due) t1 t4 m + m) (after_giving (put a s (d ∷ due) t1 t4) now packet rest) now
    by s (r ∷ rest) t =
        inr (packet_fits k.gap now m span most (time_of k.writes k.job k.gap (r ∷ rest)) x (after k a.pages s a.counts (d ∷ due) t1 t4 m) (after k a.pages s a.counts (r ∷ rest) t1 t4 now) h g short t
        (after_falls k a.pages s a.counts d r due rest t1 t4 m now h))
    by Idle [] t = inl refl
    by (Closing o) [] t = inl refl
    by AwaitDis [] t =
        inr (packet_fits k.gap now m span most 0 x (after k a.pages AwaitDis a.counts (d ∷ due) t1 t4 m) (after k a.pages AwaitDis a.counts [] t1 t4 now) h g short t
        (keeps (left_of t1 now) (left_of t1 m) (later_time k a.pages AwaitDis a.counts) (left_falls t1 m now h)))
    by (AwaitCfr dis dcs) [] t =
        inr (packet_fits k.gap now m span most 0 x (after k a.pages (AwaitCfr dis dcs) a.counts (d ∷ due) t1 t4 m) (after k a.pages (AwaitCfr dis dcs) a.counts [] t1 (Some (moment_after now spans.t4)) now) h g short t
        (keeps (left_of (Some (moment_after now spans.t4)) now) spans.t4 (later_time k a.pages (AwaitCfr dis dcs) a.counts) t4_most))
    by (AwaitMcf dis dcs) [] t =
        inr (packet_fits k.gap now m span most 0 x (after k a.pages (AwaitMcf dis dcs) a.counts (d ∷ due) t1 t4 m) (after k a.pages (AwaitMcf dis dcs) a.counts [] t1 (Some (moment_after now spans.t4)) now) h g short t
        (keeps (left_of (Some (moment_after now spans.t4)) now) spans.t4 (later_time k a.pages (AwaitMcf dis dcs) a.counts) t4_most))

-- WHILE PACKETS WAIT
paced_goes : (k : Terms) (m now : ℕ) (a : CallerCore) (s : State) (d : Due) (due : List Due) (t1 t4 : Option ℕ) → m ≤ now → now ≤ m + k.gap
    → Goes k (needed k (put a s (d ∷ due) t1 t4) m + m) (paced k.writes k.job (put a s (d ∷ due) t1 t4) now).core now
paced_goes k m now a s d due t1 t4 h g = by (pace_allows a.pace.last now) (sym (allows_is a.pace.last now))
  where
    x : ℕ
    x = time_of k.writes k.job k.gap (d ∷ due)

    more : (p x y m : ℕ) → x + y + m ≤ p - m + x + y + m
    more p x y m = omega arith

    rests : (p x y z m now : ℕ) → m ≤ now → now < p → z ≤ y → p - now + x + z + now ≤ p - m + x + y + m
    rests p x y z m now h l f = omega arith

    by : (t : Bool) → nat_le (allowed_from a.pace.last) now ≡ t
        → Goes k (needed k (put a s (d ∷ due) t1 t4) m + m)
        (if◌then◌else◌ {A = TickResult} t (given_first k.writes k.job (put a s (d ∷ due) t1 t4) now (d ∷ due)) (record { core = put a s (d ∷ due) t1 t4; given = None })).core now
    by true e =
        goes_most k (x + after k a.pages s a.counts (d ∷ due) t1 t4 m + m) (needed k (put a s (d ∷ due) t1 t4) m + m)
        (after_giving (put a s (d ∷ due) t1 t4) now (taken k.writes k.job d due).packet (taken k.writes k.job d due).rest) now (more (allowed_from a.pace.last) x (after k a.pages s a.counts (d ∷ due) t1 t4 m) m)
        (given_goes k x m now a s d due (taken k.writes k.job d due).rest t1 t4 (taken k.writes k.job d due).packet h g (taken_time k.writes k.job k.gap d due))
    by false e =
        inr (rests (allowed_from a.pace.last) x (after k a.pages s a.counts (d ∷ due) t1 t4 m) (after k a.pages s a.counts (d ∷ due) t1 t4 now) m now h (gt_if (allowed_from a.pace.last) now e)
        (after_falls k a.pages s a.counts d d due due t1 t4 m now h))

-- WHERE NO PACKET WAITS, and no timer is due
rests_goes : (k : Terms) (x now : ℕ) (a : CallerCore) (s : State) (t1 t4 : Option ℕ) → needed k (put a s [] t1 t4) now + now ≤ x → Goes k x (paced k.writes k.job (put a s [] t1 t4) now).core now
rests_goes k x now a s t1 t4 h = by (pace_allows a.pace.last now)
  where
    by : (t : Bool) → Goes k x (if◌then◌else◌ {A = TickResult} t (given_first k.writes k.job (put a s [] t1 t4) now []) (record { core = put a s [] t1 t4; given = None })).core now
    by true = inr h
    by false = inr h

timer_rests : (p t z m now : ℕ) → m ≤ now → now < t → p - now + 0 + (t - now + z) + now ≤ p - m + 0 + (t - m + z) + m
timer_rests p t z m now h l = omega arith

-- and where one is
acts_goes : (k : Terms) (x m now : ℕ) (a : CallerCore) (s : State) (c : Counts) (due : List Due) → waits due ≡ true → m ≤ now → now ≤ m + k.gap
    → needed k (replied_with a s c due) m + m ≤ x
    → Goes k x (paced k.writes k.job (replied_with a s c due) now).core now
acts_goes k x m now a s c [] some h g l = cc
acts_goes k x m now a s c (d ∷ due) some h g l =
    goes_most k (needed k (replied_with a s c (d ∷ due)) m + m) x (paced k.writes k.job (replied_with a s c (d ∷ due)) now).core now l (paced_goes k m now (record a { counts = c }) s d due None None h g)

-- ---- A MOVE, where no packet waits

-- t: the time of what is given, with T4; e, x: the exchanges after it and before; p, q: the pages
moves_less : (k : Terms) (w m t e x p q : ℕ) → t + spans.t4 ≤ exchange_time k.gap k.longest → e + 1 ≤ x → p ≤ q
    → w + t + (spans.t4 + (time_for e (exchange_time k.gap k.longest) + time_for p (spans.t1 + k.gap) + goodbye_time k.gap)) + m
    ≤ w + (time_for x (exchange_time k.gap k.longest) + time_for q (spans.t1 + k.gap) + goodbye_time k.gap) + m
moves_less k w m t e x p q h i j =
    let a : time_for e (exchange_time k.gap k.longest) + exchange_time k.gap k.longest ≤ time_for x (exchange_time k.gap k.longest) = time_less e x (exchange_time k.gap k.longest) i in
    let b : time_for p (spans.t1 + k.gap) ≤ time_for q (spans.t1 + k.gap) = time_most p q (spans.t1 + k.gap) j in
    add w m t spans.t4 (time_for e (exchange_time k.gap k.longest)) (time_for x (exchange_time k.gap k.longest)) (time_for p (spans.t1 + k.gap)) (time_for q (spans.t1 + k.gap)) (goodbye_time k.gap) (exchange_time k.gap k.longest) h a b
  where
    add : (w m t f e x p q g u : ℕ) → t + f ≤ u → e + u ≤ x → p ≤ q → w + t + (f + (e + p + g)) + m ≤ w + (x + q + g) + m
    add w m t f e x p q g u h a b = omega arith

trained_fits : (k : Terms) (dcs : Dcs) → time_of k.writes k.job k.gap (training dcs) + spans.t4 ≤ exchange_time k.gap k.longest
trained_fits k dcs = let t : time_of k.writes k.job k.gap (training dcs) ≤ training_time k.gap = trained_time k.writes k.job k.gap dcs in omega arith

command_fits : (k : Terms) (plain : Plain) → time_of k.writes k.job k.gap (command plain) + spans.t4 ≤ exchange_time k.gap k.longest
command_fits k plain = omega arith

image_fits : (k : Terms) (plain : Plain) (page : ℕ) (dcs : Dcs) → due_time k.writes k.job k.gap (Text page dcs 0) ≤ k.longest → time_of k.writes k.job k.gap (image plain page dcs) + spans.t4 ≤ exchange_time k.gap k.longest
image_fits k plain page dcs h = add (due_time k.writes k.job k.gap (Text page dcs 0)) (if signals_preamble (Signals (training_of dcs.rate false)) then spans.longest_pause else spans.pace) h (span_long (signals_preamble (Signals (training_of dcs.rate false))))
  where
    add : (t s : ℕ) → t ≤ k.longest → s ≤ spans.longest_pause → k.gap + s + (t + (k.gap + spans.longest_pause + (k.gap + spans.pace + 0))) + spans.t4 ≤ exchange_time k.gap k.longest
    add t s h l = omega arith

-- what is needed where nothing waits, and no timer is set any more
abbrev at_rest : Terms → CallerCore → State → (m : ℕ) → ℕ
at_rest k a s m = allowed_from a.pace.last - m + later_time k a.pages s a.counts + m

trains_needs : (k : Terms) (m : ℕ) (a : CallerCore) (s : State) (dis : Dis) (dcs : Dcs) (c : Counts) → exchanges a.pages (AwaitCfr dis dcs) c + 1 ≤ exchanges a.pages s a.counts → a.pages - 1 - c.page ≤ a.pages - 1 - a.counts.page
    → needed k (moved a (Trains dis dcs c)) m + m ≤ at_rest k a s m
trains_needs k m a s dis dcs c h p =
    moves_less k (allowed_from a.pace.last - m) m (time_of k.writes k.job k.gap (training dcs)) (exchanges a.pages (AwaitCfr dis dcs) c) (exchanges a.pages s a.counts) (a.pages - 1 - c.page) (a.pages - 1 - a.counts.page) (trained_fits k dcs) h p

sends_needs : (k : Terms) (m : ℕ) (a : CallerCore) (s : State) (dis : Dis) (dcs : Dcs) (c : Counts) → due_time k.writes k.job k.gap (Text c.page dcs 0) ≤ k.longest
    → exchanges a.pages (AwaitMcf dis dcs) c + 1 ≤ exchanges a.pages s a.counts → a.pages - 1 - c.page ≤ a.pages - 1 - a.counts.page
    → needed k (moved a (Sends dis dcs c)) m + m ≤ at_rest k a s m
sends_needs k m a s dis dcs c t h p =
    moves_less k (allowed_from a.pace.last - m) m (time_of k.writes k.job k.gap (image (command_after a.formats a.pages c.page) c.page dcs)) (exchanges a.pages (AwaitMcf dis dcs) c) (exchanges a.pages s a.counts) (a.pages - 1 - c.page) (a.pages - 1 - a.counts.page)
    (image_fits k (command_after a.formats a.pages c.page) c.page dcs t) h p

asks_needs : (k : Terms) (m : ℕ) (a : CallerCore) (dis : Dis) (dcs : Dcs) (c : Counts) → exchanges a.pages (AwaitMcf dis dcs) c + 1 ≤ exchanges a.pages (AwaitMcf dis dcs) a.counts → a.pages - 1 - c.page ≤ a.pages - 1 - a.counts.page
    → needed k (replied_with a (AwaitMcf dis dcs) c (command (command_after a.formats a.pages c.page))) m + m ≤ at_rest k a (AwaitMcf dis dcs) m
asks_needs k m a dis dcs c h p =
    moves_less k (allowed_from a.pace.last - m) m (time_of k.writes k.job k.gap (command (command_after a.formats a.pages c.page))) (exchanges a.pages (AwaitMcf dis dcs) c) (exchanges a.pages (AwaitMcf dis dcs) a.counts) (a.pages - 1 - c.page) (a.pages - 1 - a.counts.page)
    (command_fits k (command_after a.formats a.pages c.page)) h p

closes_needs : (k : Terms) (m : ℕ) (a : CallerCore) (s : State) (outcome : Outcome) (c : Counts) → needed k (moved a (Closes outcome c)) m + m ≤ at_rest k a s m
closes_needs k m a s outcome c = add (allowed_from a.pace.last - m) (time_for (exchanges a.pages s a.counts) (exchange_time k.gap k.longest)) (time_for (a.pages - 1 - a.counts.page) (spans.t1 + k.gap)) m
  where
    add : (w x q m : ℕ) → w + (k.gap + spans.longest_pause + (k.gap + spans.pace + 0)) + 0 + m ≤ w + (x + q + goodbye_time k.gap) + m
    add w x q m = omega arith

turns_needs : (k : Terms) (m now : ℕ) (a : CallerCore) (s : State) (format : Format) (c : Counts) → now ≤ m + k.gap
    → exchanges a.pages AwaitDis c ≤ exchanges a.pages s a.counts → a.pages - 1 - c.page + 1 ≤ a.pages - 1 - a.counts.page
    → needed k (moved a (Turns format (moment_after now spans.t1) c)) m + m ≤ at_rest k a s m
turns_needs k m now a s format c n h p =
    add (allowed_from a.pace.last - m) (moment_after now spans.t1 - m) (time_for (exchanges a.pages AwaitDis c) (exchange_time k.gap k.longest)) (time_for (exchanges a.pages s a.counts) (exchange_time k.gap k.longest)) (time_for (a.pages - 1 - c.page) (spans.t1 + k.gap)) (time_for (a.pages - 1 - a.counts.page) (spans.t1 + k.gap)) (goodbye_time k.gap) t
    (time_most (exchanges a.pages AwaitDis c) (exchanges a.pages s a.counts) (exchange_time k.gap k.longest) h)
    (time_less (a.pages - 1 - c.page) (a.pages - 1 - a.counts.page) (spans.t1 + k.gap) p)
  where
    t : moment_after now spans.t1 - m ≤ spans.t1 + k.gap
    t = omega arith

    add : (w l e x p q g : ℕ) → l ≤ spans.t1 + k.gap → e ≤ x → p + (spans.t1 + k.gap) ≤ q → w + 0 + (l + (e + p + g)) + m ≤ w + (x + q + g) + m
    add w l e x p q g h a b = omega arith

-- ---- THE TRIES

trains_again : (k : Terms) (m : ℕ) (a : CallerCore) (dis : Dis) (dcs : Dcs) → nat_lt a.counts.tries most_tries ≡ true → needed k (moved a (Trains dis dcs (next_try a.counts))) m + m ≤ at_rest k a (AwaitCfr dis dcs) m
trains_again k m a dis dcs e =
    let some : a.counts.tries < 3 = lt_if a.counts.tries most_tries e in
    trains_needs k m a (AwaitCfr dis dcs) dis dcs (next_try a.counts) (less (base a.pages a.counts) a.counts.tries some) (omega arith)
  where
    less : (b t : ℕ) → t < 3 → b + 3 + (3 - (t + 1)) + 1 ≤ b + 3 + (3 - t)
    less b t h = omega arith

-- T4 is due
trains_goes : (k : Terms) (x m now : ℕ) (a : CallerCore) (dis : Dis) (dcs : Dcs) → m ≤ now → now ≤ m + k.gap → at_rest k a (AwaitCfr dis dcs) m ≤ x
    → Goes k x (paced k.writes k.job (moved a (tries_again dis dcs a.counts)) now).core now
trains_goes k x m now a dis dcs h g l = by (nat_lt a.counts.tries most_tries) refl
  where
    trans : (u v w : ℕ) → u ≤ v → v ≤ w → u ≤ w
    trans u v w p q = omega arith

    by : (t : Bool) → nat_lt a.counts.tries most_tries ≡ t → Goes k x (paced k.writes k.job (moved a (if t then Trains dis dcs (next_try a.counts) else Closes outcomes.NoReply a.counts)) now).core now
    by true e =
        acts_goes k x m now a (AwaitCfr dis dcs) (next_try a.counts) (training dcs) refl h g
        (trans (needed k (moved a (Trains dis dcs (next_try a.counts))) m + m) (at_rest k a (AwaitCfr dis dcs) m) x (trains_again k m a dis dcs e) l)
    by false e =
        acts_goes k x m now a (Closing outcomes.NoReply) a.counts goodbye refl h g
        (trans (needed k (moved a (Closes outcomes.NoReply a.counts)) m + m) (at_rest k a (AwaitCfr dis dcs) m) x (closes_needs k m a (AwaitCfr dis dcs) outcomes.NoReply a.counts) l)

asks_goes : (k : Terms) (x m now : ℕ) (a : CallerCore) (dis : Dis) (dcs : Dcs) (t1 t4 : Option ℕ) → m ≤ now → now ≤ m + k.gap → at_rest k a (AwaitMcf dis dcs) m ≤ x
    → Goes k x (paced k.writes k.job (moved (put a (AwaitMcf dis dcs) [] t1 t4) (asks_again a.counts)) now).core now
asks_goes k x m now a dis dcs t1 t4 h g l = by (nat_lt a.counts.tries most_tries) refl
  where
    trans : (u v w : ℕ) → u ≤ v → v ≤ w → u ≤ w
    trans u v w p q = omega arith

    less : (b t : ℕ) → t < 3 → b + (3 - (t + 1)) + 1 ≤ b + (3 - t)
    less b t h = omega arith

    by : (t : Bool) → nat_lt a.counts.tries most_tries ≡ t
        → Goes k x (paced k.writes k.job (moved (put a (AwaitMcf dis dcs) [] t1 t4) (if t then AsksAgain (next_try a.counts) else Closes outcomes.NoReply a.counts)) now).core now
    by true e =
        acts_goes k x m now a (AwaitMcf dis dcs) (next_try a.counts) (command (command_after a.formats a.pages a.counts.page)) refl h g
        (trans (needed k (replied_with a (AwaitMcf dis dcs) (next_try a.counts) (command (command_after a.formats a.pages a.counts.page))) m + m) (at_rest k a (AwaitMcf dis dcs) m) x
        (asks_needs k m a dis dcs (next_try a.counts) (less (base a.pages a.counts) a.counts.tries (lt_if a.counts.tries most_tries e)) (omega arith)) l)
    by false e =
        acts_goes k x m now a (Closing outcomes.NoReply) a.counts goodbye refl h g
        (trans (needed k (moved a (Closes outcomes.NoReply a.counts)) m + m) (at_rest k a (AwaitMcf dis dcs) m) x (closes_needs k m a (AwaitMcf dis dcs) outcomes.NoReply a.counts) l)

-- A TICK
more_left : (w l z m : ℕ) → w + z + m ≤ w + 0 + (l + z) + m
more_left w l z m = omega arith

tick_goes : (k : Terms) (m now b : ℕ) (a : CallerCore) (s : State) (due : List Due) (t1 t4 : Option ℕ) → m ≤ now → now ≤ m + k.gap
    → TimelyState b s due t1 t4 a.outcome → Goes k (needed k (put a s due t1 t4) m + m) (ticked k.writes k.job (put a s due t1 t4) now).core now
tick_goes k m now b a s (d ∷ due) t1 t4 h g f = paced_goes k m now a s d due t1 t4 h g
tick_goes k m now b a Idle [] t1 t4 h g f = by (pace_allows a.pace.last now)
  where
    by : (t : Bool) → Goes k (needed k (put a Idle [] t1 t4) m + m) (if◌then◌else◌ {A = TickResult} t (given_first k.writes k.job (put a Idle [] t1 t4) now []) (record { core = put a Idle [] t1 t4; given = None })).core now
    by true = inl refl
    by false = inl refl
tick_goes k m now b a (Closing x) [] t1 t4 h g f = absurd f
tick_goes k m now b a AwaitDis [] None t4 h g f = absurd f
tick_goes k m now b a AwaitDis [] (Some t) t4 h g f = by (nat_le t now) refl
  where
    outcome : Outcome
    outcome = if nat_eq a.counts.delivered 0 then outcomes.NoAnswer else outcomes.NoReply

    trans : (u v w : ℕ) → u ≤ v → v ≤ w → u ≤ w
    trans u v w p q = omega arith

    by : (x : Bool) → nat_le t now ≡ x → Goes k (needed k (put a AwaitDis [] (Some t) t4) m + m) (paced k.writes k.job (moved (put a AwaitDis [] (Some t) t4) (if x then gives_up_dis a.counts else Stays)) now).core now
    by true e =
        acts_goes k (needed k (put a AwaitDis [] (Some t) t4) m + m) m now a (Closing outcome) a.counts goodbye refl h g
        (trans (needed k (moved a (Closes outcome a.counts)) m + m) (at_rest k a AwaitDis m) (needed k (put a AwaitDis [] (Some t) t4) m + m) (closes_needs k m a AwaitDis outcome a.counts)
        (more_left (allowed_from a.pace.last - m) (t - m) (later_time k a.pages AwaitDis a.counts) m))
    by false e =
        rests_goes k (needed k (put a AwaitDis [] (Some t) t4) m + m) now a AwaitDis (Some t) t4
        (timer_rests (allowed_from a.pace.last) t (later_time k a.pages AwaitDis a.counts) m now h (gt_if t now e))
tick_goes k m now b a (AwaitCfr dis dcs) [] t1 None h g f = absurd f
tick_goes k m now b a (AwaitCfr dis dcs) [] t1 (Some t) h g f = by (nat_le t now) refl
  where
    by : (x : Bool) → nat_le t now ≡ x → Goes k (needed k (put a (AwaitCfr dis dcs) [] t1 (Some t)) m + m)
        (paced k.writes k.job (moved (put a (AwaitCfr dis dcs) [] t1 (Some t)) (if x then tries_again dis dcs a.counts else Stays)) now).core now
    by true e =
        trains_goes k (needed k (put a (AwaitCfr dis dcs) [] t1 (Some t)) m + m) m now (put a (AwaitCfr dis dcs) [] t1 (Some t)) dis dcs h g
        (more_left (allowed_from a.pace.last - m) (t - m) (later_time k a.pages (AwaitCfr dis dcs) a.counts) m)
    by false e =
        rests_goes k (needed k (put a (AwaitCfr dis dcs) [] t1 (Some t)) m + m) now a (AwaitCfr dis dcs) t1 (Some t)
        (timer_rests (allowed_from a.pace.last) t (later_time k a.pages (AwaitCfr dis dcs) a.counts) m now h (gt_if t now e))
tick_goes k m now b a (AwaitMcf dis dcs) [] t1 None h g f = absurd f
tick_goes k m now b a (AwaitMcf dis dcs) [] t1 (Some t) h g f = by (nat_le t now) refl
  where
    by : (x : Bool) → nat_le t now ≡ x → Goes k (needed k (put a (AwaitMcf dis dcs) [] t1 (Some t)) m + m)
        (paced k.writes k.job (moved (put a (AwaitMcf dis dcs) [] t1 (Some t)) (if x then asks_again a.counts else Stays)) now).core now
    by true e =
        asks_goes k (needed k (put a (AwaitMcf dis dcs) [] t1 (Some t)) m + m) m now a dis dcs t1 (Some t) h g
        (more_left (allowed_from a.pace.last - m) (t - m) (later_time k a.pages (AwaitMcf dis dcs) a.counts) m)
    by false e =
        rests_goes k (needed k (put a (AwaitMcf dis dcs) [] t1 (Some t)) m + m) now a (AwaitMcf dis dcs) t1 (Some t)
        (timer_rests (allowed_from a.pace.last) t (later_time k a.pages (AwaitMcf dis dcs) a.counts) m now h (gt_if t now e))

-- ---- A FRAME, where no packet waits

abbrev FitsAt : (pages : ℕ) → Format → State → Counts → Type 0
FitsAt pages format AwaitDis c = (c.step ≡ 0) × (c.page < pages)
FitsAt pages format (AwaitCfr dis dcs) c = (choice dis format c.step ≡ Ok dcs) × (c.page < pages)
FitsAt pages format (AwaitMcf dis dcs) c = (choice dis format c.step ≡ Ok dcs) × (c.page < pages)
FitsAt pages format s c = Unit {0}

-- a timer that is set is left aside
from_rest : (k : Terms) (m : ℕ) (a : CallerCore) (s : State) (l : ℕ) (b : CallerCore) → Goes k (at_rest k a s m) b m → Goes k (allowed_from a.pace.last - m + 0 + (l + later_time k a.pages s a.counts) + m) b m
from_rest k m a s l b h =
    goes_most k (at_rest k a s m) (allowed_from a.pace.last - m + 0 + (l + later_time k a.pages s a.counts) + m) b m (more_left (allowed_from a.pace.last - m) l (later_time k a.pages s a.counts) m) h

if_goes : (k : Terms) (x m : ℕ) (a : CallerCore) (t : Bool) (y z : Move) → (t ≡ true → Goes k x (moved a y) m) → (t ≡ false → Goes k x (moved a z) m) → Goes k x (moved a (if t then y else z)) m
if_goes k x m a true y z h g = h refl
if_goes k x m a false y z h g = g refl

-- AWAIT DIS
dis_goes : (k : Terms) (m : ℕ) (a : CallerCore) (t1 t4 : Option ℕ) (dis : Dis) (r : Result Dcs Refusal) → Goes k (at_rest k a AwaitDis m) (moved (put a AwaitDis [] t1 t4) (by_choice dis (first_try a.counts) r)) m
dis_goes k m a t1 t4 dis (Ok dcs) = inr (trains_needs k m a AwaitDis dis dcs (first_try a.counts) (less (base a.pages a.counts)) (omega arith))
  where
    less : (b : ℕ) → b + 3 + (3 - 1) + 1 ≤ b + 6
    less b = omega arith
dis_goes k m a t1 t4 dis (Err e) = inr (closes_needs k m a AwaitDis (Rattle.fax_call.specs.Table.outcome_of e) (first_try a.counts))

-- AWAIT CFR
cfr_goes : (k : Terms) (m : ℕ) (a : CallerCore) (t1 t4 : Option ℕ) (dis : Dis) (dcs : Dcs) → due_time k.writes k.job k.gap (Text a.counts.page dcs 0) ≤ k.longest
    → Goes k (at_rest k a (AwaitCfr dis dcs) m) (moved (put a (AwaitCfr dis dcs) [] t1 t4) (Sends dis dcs (first_try a.counts))) m
cfr_goes k m a t1 t4 dis dcs t = inr (sends_needs k m a (AwaitCfr dis dcs) dis dcs (first_try a.counts) t (less (base a.pages a.counts) (3 - a.counts.tries)) (omega arith))
  where
    less : (b t : ℕ) → b + (3 - 1) + 1 ≤ b + 3 + t
    less b t = omega arith

ftt_goes : (k : Terms) (m : ℕ) (a : CallerCore) (t1 t4 : Option ℕ) (dis : Dis) (dcs : Dcs) (r : Result Dcs Refusal) → choice dis a.format (a.counts.step + 1) ≡ r
    → Goes k (at_rest k a (AwaitCfr dis dcs) m) (moved (put a (AwaitCfr dis dcs) [] t1 t4) (by_choice dis (next_step a.counts) r)) m
ftt_goes k m a t1 t4 dis dcs (Ok new) e =
    inr (trains_needs k m a (AwaitCfr dis dcs) dis new (next_step a.counts) (less (36 * (a.pages - 1 - a.counts.page) + 6 * (2 - a.counts.refused)) a.counts.step (3 - a.counts.tries) (step_few dis a.format (a.counts.step + 1) new e)) (omega arith))
  where
    less : (b p t : ℕ) → p + 1 < 6 → b + 3 * (6 - (p + 1)) + 3 + (3 - 1) + 1 ≤ b + 3 * (6 - p) + 3 + t
    less b p t h = omega arith
ftt_goes k m a t1 t4 dis dcs (Err x) e = inr (closes_needs k m a (AwaitCfr dis dcs) (Rattle.fax_call.specs.Table.outcome_of x) (next_step a.counts))

again_goes : (k : Terms) (m : ℕ) (a : CallerCore) (t1 t4 : Option ℕ) (dis : Dis) (dcs : Dcs) → Goes k (at_rest k a (AwaitCfr dis dcs) m) (moved (put a (AwaitCfr dis dcs) [] t1 t4) (tries_again dis dcs a.counts)) m
again_goes k m a t1 t4 dis dcs =
    if_goes k (at_rest k a (AwaitCfr dis dcs) m) m (put a (AwaitCfr dis dcs) [] t1 t4) (nat_lt a.counts.tries most_tries) (Trains dis dcs (next_try a.counts)) (Closes outcomes.NoReply a.counts)
    (λ e. inr (trains_again k m a dis dcs e)) (λ e. inr (closes_needs k m a (AwaitCfr dis dcs) outcomes.NoReply a.counts))

-- AWAIT MCF
not_last : (pages page : ℕ) → is_last_page pages page ≡ false → page < pages → page + 1 < pages
not_last pages page h l = let n : page + 1 ≢ pages = other (page + 1) pages h in omega arith
  where
    other : (x y : ℕ) → nat_eq x y ≡ false → x ≢ y
    other x y e = grind (arith)

abbrev NextPage : (pages : ℕ) → Counts → Type 0
NextPage pages c = c.page + 1 < pages

next_exchanges : (pages page refused step t : ℕ) → page + 1 < pages → 36 * (pages - 1 - (page + 1)) + 6 * (2 - 0) + 3 * (6 - step) + 24 ≤ 36 * (pages - 1 - page) + 6 * (2 - refused) + 3 * (6 - step) + t
next_exchanges pages page refused step t h = grown (pages - 1 - page) (pages - 1 - (page + 1)) (6 * (2 - refused)) (3 * (6 - step)) (omega arith)
  where
    grown : (p q r s : ℕ) → q + 1 ≤ p → 36 * q + 6 * (2 - 0) + s + 24 ≤ 36 * p + r + s + t
    grown p q r s e = omega arith

next_sends : (k : Terms) (m : ℕ) (a : CallerCore) (t1 t4 : Option ℕ) (dis : Dis) (dcs : Dcs) → NextPage a.pages a.counts → due_time k.writes k.job k.gap (Text (a.counts.page + 1) dcs 0) ≤ k.longest
    → Goes k (at_rest k a (AwaitMcf dis dcs) m) (moved (put a (AwaitMcf dis dcs) [] t1 t4) (Sends dis dcs (next_page a.counts))) m
next_sends k m a t1 t4 dis dcs n t =
    inr (sends_needs k m a (AwaitMcf dis dcs) dis dcs (next_page a.counts) t
    (few (base a.pages (next_page a.counts)) (exchanges a.pages (AwaitMcf dis dcs) a.counts) (next_exchanges a.pages a.counts.page a.counts.refused a.counts.step (3 - a.counts.tries) n)) (omega arith))
  where
    few : (b x : ℕ) → b + 24 ≤ x → b + (3 - 1) + 1 ≤ x
    few b x h = omega arith

next_trains : (k : Terms) (m : ℕ) (a : CallerCore) (t1 t4 : Option ℕ) (dis : Dis) (dcs : Dcs) → NextPage a.pages a.counts
    → Goes k (at_rest k a (AwaitMcf dis dcs) m) (moved (put a (AwaitMcf dis dcs) [] t1 t4) (Trains dis dcs (next_page a.counts))) m
next_trains k m a t1 t4 dis dcs n =
    inr (trains_needs k m a (AwaitMcf dis dcs) dis dcs (next_page a.counts)
    (few (base a.pages (next_page a.counts)) (exchanges a.pages (AwaitMcf dis dcs) a.counts) (next_exchanges a.pages a.counts.page a.counts.refused a.counts.step (3 - a.counts.tries) n)) (omega arith))
  where
    few : (b x : ℕ) → b + 24 ≤ x → b + 3 + (3 - 1) + 1 ≤ x
    few b x h = omega arith

next_turns : (k : Terms) (m now : ℕ) (a : CallerCore) (t1 t4 : Option ℕ) (dis : Dis) (dcs : Dcs) (turn : Option Format) (move : Move) → now ≤ m + k.gap → NextPage a.pages a.counts
    → Goes k (at_rest k a (AwaitMcf dis dcs) m) (moved (put a (AwaitMcf dis dcs) [] t1 t4) move) m
    → Goes k (at_rest k a (AwaitMcf dis dcs) m) (moved (put a (AwaitMcf dis dcs) [] t1 t4) (turns_or now turn a.counts move)) m
next_turns k m now a t1 t4 dis dcs None move h n g = g
next_turns k m now a t1 t4 dis dcs (Some format) move h n g =
    inr (turns_needs k m now a (AwaitMcf dis dcs) format (next_exchange a.counts) h
    (few (a.pages - 1 - a.counts.page) (a.pages - 1 - (a.counts.page + 1)) (6 * (2 - a.counts.refused)) (3 * (6 - a.counts.step)) (3 - a.counts.tries) (omega arith)) (omega arith))
  where
    few : (p q r s t : ℕ) → q + 1 ≤ p → 36 * q + 6 * (2 - 0) + 3 * (6 - 0) + 6 ≤ 36 * p + r + s + t
    few p q r s t e = omega arith

rtn_goes : (k : Terms) (m : ℕ) (a : CallerCore) (t1 t4 : Option ℕ) (dis : Dis) (dcs : Dcs) → Goes k (at_rest k a (AwaitMcf dis dcs) m) (moved (put a (AwaitMcf dis dcs) [] t1 t4) (after_refusal dis dcs a.counts)) m
rtn_goes k m a t1 t4 dis dcs =
    if_goes k (at_rest k a (AwaitMcf dis dcs) m) m (put a (AwaitMcf dis dcs) [] t1 t4) (nat_lt a.counts.refused 2) (Trains dis dcs (one_refused a.counts)) (Closes outcomes.PageRefused a.counts)
    (λ e. inr (trains_needs k m a (AwaitMcf dis dcs) dis dcs (one_refused a.counts) (less (36 * (a.pages - 1 - a.counts.page)) a.counts.refused (3 * (6 - a.counts.step)) (3 - a.counts.tries) (lt_if a.counts.refused 2 e)) (omega arith)))
    (λ e. inr (closes_needs k m a (AwaitMcf dis dcs) outcomes.PageRefused a.counts))
  where
    less : (b r s t : ℕ) → r < 2 → b + 6 * (2 - (r + 1)) + s + 3 + (3 - 1) + 1 ≤ b + 6 * (2 - r) + s + t
    less b r s t h = omega arith

frame_goes : (k : Terms) (m now : ℕ) (a : CallerCore) (turn : Option Format) (s : State) (t1 t4 : Option ℕ) (frame : Option Frame) → now ≤ m + k.gap → NoTextIsLonger k.writes k.job k.gap k.longest → FitsAt a.pages a.format s a.counts
    → Goes k (needed k (put a s [] t1 t4) m + m) (moved (put a s [] t1 t4) (on_frame now a.format turn a.pages s a.counts frame)) m
frame_goes k m now a turn AwaitDis t1 t4 (Some (frames.Dis dis)) h l f =
    from_rest k m a AwaitDis (left_of t1 m) (moved (put a AwaitDis [] t1 t4) (by_choice dis (first_try a.counts) (choice dis a.format a.counts.step))) (dis_goes k m a t1 t4 dis (choice dis a.format a.counts.step))
frame_goes k m now a turn AwaitDis t1 t4 (Some frames.Dcn) h l f = inl refl
frame_goes k m now a turn (AwaitCfr dis dcs) t1 t4 (Some frames.Cfr) h l f =
    from_rest k m a (AwaitCfr dis dcs) (left_of t4 m) (moved (put a (AwaitCfr dis dcs) [] t1 t4) (Sends dis dcs (first_try a.counts))) (cfr_goes k m a t1 t4 dis dcs (l a.counts.page dis a.format a.counts.step dcs f.0))
frame_goes k m now a turn (AwaitCfr dis dcs) t1 t4 (Some frames.Ftt) h l f =
    from_rest k m a (AwaitCfr dis dcs) (left_of t4 m) (moved (put a (AwaitCfr dis dcs) [] t1 t4) (by_choice dis (next_step a.counts) (choice dis a.format (a.counts.step + 1))))
    (ftt_goes k m a t1 t4 dis dcs (choice dis a.format (a.counts.step + 1)) refl)
frame_goes k m now a turn (AwaitCfr dis dcs) t1 t4 (Some (frames.Dis other)) h l f =
    from_rest k m a (AwaitCfr dis dcs) (left_of t4 m) (moved (put a (AwaitCfr dis dcs) [] t1 t4) (tries_again dis dcs a.counts)) (again_goes k m a t1 t4 dis dcs)
frame_goes k m now a turn (AwaitCfr dis dcs) t1 t4 (Some frames.Dcn) h l f = inl refl
frame_goes k m now a turn (AwaitMcf dis dcs) t1 t4 (Some frames.Mcf) h l f =
    from_rest k m a (AwaitMcf dis dcs) (left_of t4 m)
    (moved (put a (AwaitMcf dis dcs) [] t1 t4) (if is_last_page a.pages a.counts.page then Closes outcomes.Delivered (one_delivered a.counts) else turns_or now turn a.counts (Sends dis dcs (next_page a.counts))))
    (if_goes k (at_rest k a (AwaitMcf dis dcs) m) m (put a (AwaitMcf dis dcs) [] t1 t4) (is_last_page a.pages a.counts.page) (Closes outcomes.Delivered (one_delivered a.counts)) (turns_or now turn a.counts (Sends dis dcs (next_page a.counts)))
    (λ e. inr (closes_needs k m a (AwaitMcf dis dcs) outcomes.Delivered (one_delivered a.counts)))
    (λ e. let n : NextPage a.pages a.counts = not_last a.pages a.counts.page e f.1 in
    next_turns k m now a t1 t4 dis dcs turn (Sends dis dcs (next_page a.counts)) h n (next_sends k m a t1 t4 dis dcs n (l (a.counts.page + 1) dis a.format a.counts.step dcs f.0))))
frame_goes k m now a turn (AwaitMcf dis dcs) t1 t4 (Some frames.Rtp) h l f =
    from_rest k m a (AwaitMcf dis dcs) (left_of t4 m)
    (moved (put a (AwaitMcf dis dcs) [] t1 t4) (if is_last_page a.pages a.counts.page then Closes outcomes.Delivered (one_delivered a.counts) else turns_or now turn a.counts (Trains dis dcs (next_page a.counts))))
    (if_goes k (at_rest k a (AwaitMcf dis dcs) m) m (put a (AwaitMcf dis dcs) [] t1 t4) (is_last_page a.pages a.counts.page) (Closes outcomes.Delivered (one_delivered a.counts)) (turns_or now turn a.counts (Trains dis dcs (next_page a.counts)))
    (λ e. inr (closes_needs k m a (AwaitMcf dis dcs) outcomes.Delivered (one_delivered a.counts)))
    (λ e. let n : NextPage a.pages a.counts = not_last a.pages a.counts.page e f.1 in
    next_turns k m now a t1 t4 dis dcs turn (Trains dis dcs (next_page a.counts)) h n (next_trains k m a t1 t4 dis dcs n)))
frame_goes k m now a turn (AwaitMcf dis dcs) t1 t4 (Some frames.Rtn) h l f =
    from_rest k m a (AwaitMcf dis dcs) (left_of t4 m) (moved (put a (AwaitMcf dis dcs) [] t1 t4) (after_refusal dis dcs a.counts)) (rtn_goes k m a t1 t4 dis dcs)
frame_goes k m now a turn (AwaitMcf dis dcs) t1 t4 (Some frames.Dcn) h l f = inl refl
frame_goes k m now a turn s t1 t4 frame h l f = stays_goes k (put a s [] t1 t4) m

came_goes : (k : Terms) (m now : ℕ) (a : CallerCore) (piece : pieces.Piece) → now ≤ m + k.gap → NoTextIsLonger k.writes k.job k.gap k.longest → FitsAt a.pages a.format a.state a.counts → Goes k (needed k a m + m) (came a piece now) m
came_goes k m now a (pieces.Frame octets) h l f = by a.waiting
  where
    turn : Option Format
    turn = turn_after a.formats a.counts.page

    by : (due : List Due) → Goes k (needed k (put a a.state due a.t1 a.t4) m + m) (moved (put a a.state due a.t1 a.t4) (if waits due then Stays else on_frame now a.format turn a.pages a.state a.counts (frame_of octets))) m
    by [] = frame_goes k m now a turn a.state a.t1 a.t4 (frame_of octets) h l f
    by (d ∷ due) = stays_goes k (put a a.state (d ∷ due) a.t1 a.t4) m
came_goes k m now a (pieces.Start n) h l f = stays_goes k a m
came_goes k m now a (pieces.Octets os) h l f = stays_goes k a m
came_goes k m now a (pieces.End n) h l f = stays_goes k a m
came_goes k m now a pieces.Gap h l f = stays_goes k a m

-- a call that is over stays so
idle_came : (a : CallerCore) (piece : pieces.Piece) (now : ℕ) → a.state ≡ Idle → (came a piece now).state ≡ Idle
idle_came a (pieces.Frame octets) now e = by (waits a.waiting)
  where
    turn : Option Format
    turn = turn_after a.formats a.counts.page

    none : on_frame now a.format turn a.pages a.state a.counts (frame_of octets) ≡ Stays
    none = ap (λ (s : State). on_frame now a.format turn a.pages s a.counts (frame_of octets)) e

    by : (t : Bool) → (moved a (if t then Stays else on_frame now a.format turn a.pages a.state a.counts (frame_of octets))).state ≡ Idle
    by true = e
    by false = ap (λ (m : Move). (moved a m).state) none ∙ e
idle_came a (pieces.Start n) now e = e
idle_came a (pieces.Octets os) now e = e
idle_came a (pieces.End n) now e = e
idle_came a pieces.Gap now e = e

-- ---- A CALL

fits_at : (pages page : ℕ) (format : Format) (s : State) (c : Counts) (n : ℕ) (t : Option Dis) → steps.Knows format s c.step n t → c.page < pages → FitsAt pages format s c
fits_at pages page format Idle c n t k h = tt
fits_at pages page format AwaitDis c n t k h = (k, h)
fits_at pages page format (AwaitCfr dis dcs) c n t k h = (k.chosen, h)
fits_at pages page format (AwaitMcf dis dcs) c n t k h = (k.chosen, h)
fits_at pages page format (Closing x) c n t k h = tt

fits_in_call : (writes : Writing) (job : JobValue) (core : CallerCore) (start : ℕ) (events : List CallEvent) → IsWriting writes → IsJob job →
    let a : CallerCore = after_events writes job (started core job start) events in
    FitsAt a.pages a.format a.state a.counts
fits_in_call writes job core start events w is =
    let texts : Texts = record { writes = writes; are = w } in
    let begun : CallerCore = started core job start in
    let a : CallerCore = after_events writes job begun events in
    let g = events_good texts job [] begun events is (start_good texts job [] core start is) in
    let within : a.counts.page < a.pages = subst (λ (n : ℕ). a.counts.page < n) (sym g.kept.same_pages) g.kept.within in
    fits_at a.pages a.counts.page a.format a.state a.counts (failures writes job begun events) (dis_taken writes job begun events) (steps.call_knows writes job core start events) within

record IsSteady (k : Terms) (x m : ℕ) (a : CallerCore) : Type 0 where
  timely : IsTimely (m + k.gap) a
  goes : Goes k x a m

came_steady : (k : Terms) (x m now : ℕ) (a : CallerCore) (piece : pieces.Piece) → now ≤ m + k.gap → NoTextIsLonger k.writes k.job k.gap k.longest → FitsAt a.pages a.format a.state a.counts → IsSteady k x m a → IsSteady k x m (came a piece now)
came_steady k x m now a piece h l f w = record { timely = came_timely (m + k.gap) a piece now h w.timely; goes = by w.goes }
  where
    by : Goes k x a m → Goes k x (came a piece now) m
    by (inl e) = inl (idle_came a piece now e)
    by (inr n) = goes_most k (needed k a m + m) x (came a piece now) m n (came_goes k m now a piece h l f)

ticked_steady : (k : Terms) (x m now : ℕ) (a : CallerCore) → m ≤ now → now ≤ m + k.gap → IsSteady k x m a → IsSteady k x now (ticked k.writes k.job a now).core
ticked_steady k x m now a h g w =
    record { timely = ticked_timely (now + k.gap) now k.writes k.job a (omega arith) (later (m + k.gap) (now + k.gap) a (omega arith) w.timely); goes = by w.goes }
  where
    by : Goes k x a m → Goes k x (ticked k.writes k.job a now).core now
    by (inl e) = inl (idle_stays k.writes k.job now (m + k.gap) a w.timely e)
    by (inr n) = goes_most k (needed k a m + m) x (ticked k.writes k.job a now).core now n (tick_goes k m now (m + k.gap) a a.state a.waiting a.t1 a.t4 h g w.timely.state)

call_steady : (k : Terms) (x : ℕ) (core : CallerCore) (start : ℕ) (events : List CallEvent) →
    let begun : CallerCore = started core k.job start in
    IsWriting k.writes → IsJob k.job → NoTextIsLonger k.writes k.job k.gap k.longest → AreSteady k.gap start events → IsSteady k x start begun
    → IsSteady k x (last_tick start events) (after_events k.writes k.job begun events)
call_steady k x core start [] writing is l s w = w
call_steady k x core start (Comes piece now ∷ before) writing is l s w =
    came_steady k x (last_tick start before) now (after_events k.writes k.job (started core k.job start) before) piece s.0 l (fits_in_call k.writes k.job core start before writing is)
    (call_steady k x core start before writing is l s.1 w)
call_steady k x core start (Ticks now ∷ before) writing is l s w =
    ticked_steady k x (last_tick start before) now (after_events k.writes k.job (started core k.job start) before) s.0 s.1 (call_steady k x core start before writing is l s.2 w)

-- what a call that begins needs
start_needs : (k : Terms) (core : CallerCore) (start : ℕ) → 1 ≤ length k.job.pages → allowed_from core.pace.last ≤ start + spans.longest_pause
    → needed k (started core k.job start) start ≤ longest_call (length k.job.pages) k.gap k.longest
start_needs k core start some p =
    add (allowed_from core.pace.last - start) (moment_after start spans.t1 - start) (time_for (base pages Rattle.fax_call.specs.Table.no_counts + 6) u) (time_for (36 * pages) u) (time_for (pages - 1 - 0) e) (time_for (pages - 1) e) (pages * (36 * u + e))
    (omega arith) (omega arith) (time_most (base pages Rattle.fax_call.specs.Table.no_counts + 6) (36 * pages) u (omega arith)) (time_most (pages - 1 - 0) (pages - 1) e (omega arith)) (time_in_all pages u e some)
  where
    pages : ℕ
    pages = length k.job.pages

    u : ℕ
    u = exchange_time k.gap k.longest

    e : ℕ
    e = spans.t1 + k.gap

    add : (w l x y p q z : ℕ) → w ≤ spans.longest_pause → l ≤ spans.t1 → x ≤ y → p ≤ q → y + q + (spans.t1 + k.gap) ≤ z → w + (k.gap + spans.pace + 0) + (l + (x + p + goodbye_time k.gap)) ≤ z + (5000 + 3 * k.gap)
    add w l x y p q z a b c d f = omega arith

pub every_call_ends : EveryCallEnds
every_call_ends writes job core start gap longest events writing is p l s long = by w.goes
  where
    k : Terms
    k = record { writes = writes; job = job; gap = gap; longest = longest }

    begun : CallerCore
    begun = started core job start

    z : CallerCore
    z = after_events writes job begun events

    x : ℕ
    x = needed k begun start + start

    first : IsTimely (start + gap) begun
    first = until_timely writes job core start (start + gap) [] p (omega arith) tt

    w : IsSteady k x (last_tick start events) z
    w = call_steady k x core start events writing is l s (record { timely = first; goes = inr (omega arith) })

    by : Goes k x z (last_tick start events) → (z.state ≡ Idle) × IsSome z.outcome
    by (inl e) = (e, over_has (last_tick start events + gap) z z.state z.waiting e w.timely.state)
    by (inr n) = let most : needed k begun start ≤ longest_call (length job.pages) gap longest = start_needs k core start is.some p in absurd (out (needed k z (last_tick start events)) (last_tick start events) (needed k begun start) start (longest_call (length job.pages) gap longest) n most long)
      where
        out : (y t n b c : ℕ) → y + t ≤ n + b → n ≤ c → b + c < t → ⊥
        out y t n b c h i j = omega arith
