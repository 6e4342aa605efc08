-- In a call the format that is kept is that of the page due.
use Rattle.std.proofs.Common.{◌≡◌, ℕ, zero, suc, ◌+◌, nat_lt, Bool, true, false, ◌&&◌, List, [], ◌∷◌, map, Option, Some, None, Result, Ok, Err, refl, sym, ◌∙◌, ap, subst, arith, slice_get, if◌then◌else◌}
use Rattle.fax_runcodes.specs.declared.format.Format.{Format}
use Rattle.fax_runcodes.specs.declared.Width.{Width}
use Rattle.fax_runcodes.specs.declared.Width.TheVariants.{W1728, W2048, W2432}
use Rattle.fax_frames.specs.declared.dis.Dis.{Dis}
use Rattle.fax_frames.specs.declared.dcs.Dcs.{Dcs}
use Rattle.fax_frames.specs.declared.frame.Frame.{Frame}
use Rattle.fax_frames.specs.declared.frame.Frame.TheVariants as frames
use Rattle.fax_frames.specs.declared.choice.Refusal.{Refusal}
use Rattle.fax_frames.specs.Choice.{choice}
use Rattle.fax_frames.specs.Frames.{frame_of}
use Rattle.fax_timers.specs.Moments.{is_due}
use Rattle.fax_timers.specs.Paces.{pace_allows}
use Rattle.fax_pagestore.specs.Pages.{PageValue}
use Rattle.fax_ifp.specs.Pieces as pieces
use Rattle.fax_jobs.specs.declared.outcome.Outcome.TheVariants as outcomes
use Rattle.fax_jobs.specs.Jobs.{JobValue, IsJob, IsOfFirst}
use Rattle.fax_call.specs.declared.state.State.{State}
use Rattle.fax_call.specs.declared.state.State.TheVariants.{Idle, AwaitDis, AwaitCfr, AwaitMcf, Closing}
use Rattle.fax_call.specs.Writings.{Writing}
use Rattle.fax_call.specs.Replies.{Packet, Due, waits, same_width, same_bool, same_format, turn_if, turn_after, is_last_page}
use Rattle.fax_call.specs.Table.{Counts, Move, Stays, Trains, Sends, AsksAgain, Turns, Closes, HangsUp, first_try, next_try, next_step, next_page, one_delivered, one_refused, most_tries, by_choice, turns_or, on_frame, on_timers}
use Rattle.fax_call.specs.Calls.{CallerCore, formats_of, started, moved, came, timed, taken, after_giving, TickResult, given_first, ticked, CallEvent, Comes, Ticks, after_events}

-- ---- formats that are one

same_width_is : (v w : Width) → same_width v w ≡ true → w ≡ v
same_width_is W1728 W1728 h = refl
same_width_is W2048 W2048 h = refl
same_width_is W2432 W2432 h = refl
same_width_is W1728 W2048 h = cc
same_width_is W1728 W2432 h = cc
same_width_is W2048 W1728 h = cc
same_width_is W2048 W2432 h = cc
same_width_is W2432 W1728 h = cc
same_width_is W2432 W2048 h = cc

same_bool_is : (a b : Bool) → same_bool a b ≡ true → b ≡ a
same_bool_is true b h = h
same_bool_is false true h = cc
same_bool_is false false h = refl

both : (a b : Bool) → (a && b) ≡ true → (a ≡ true) × (b ≡ true)
both true b h = (refl, h)
both false b h = cc

pub same_format_is : (f g : Format) → same_format f g ≡ true → g ≡ f
same_format_is f g h =
    let p = both (same_width f.width g.width) (same_bool f.fine g.fine) h in
    let a : g.width ≡ f.width = same_width_is f.width g.width p.0 in
    let b : g.fine ≡ f.fine = same_bool_is f.fine g.fine p.1 in
    let F : Width → Bool → Format = λ w x. record { width = w; fine = x } in
    ap (λ (w : Width). F w g.fine) a ∙ ap (λ (x : Bool). F f.width x) b

-- ---- the format at a place

abbrev pub DueAt : List Format → ℕ → Format → Type 0
DueAt formats page format = (f : Format) → slice_get formats page ≡ Some f → f ≡ format

none_after : (fs : List Format) (n : ℕ) → slice_get fs n ≡ None → slice_get fs (n + 1) ≡ None
none_after [] n h = refl
none_after (f ∷ fs) zero h = cc
none_after (f ∷ fs) (suc n) h = let e : suc n + 1 ≡ suc (n + 1) = omega arith in ap (slice_get (f ∷ fs)) e ∙ none_after fs n h

-- the next page's format, where it is another
turned : (x y : Option Format) (next : Format) → turn_if x y ≡ Some next → y ≡ Some next
turned (Some g) (Some f) next h = by (same_format g f) h
  where
    by : (t : Bool) → (if◌then◌else◌ {A = Option Format} t None (Some f)) ≡ Some next → Some f ≡ Some next
    by true e = cc
    by false e = e
turned (Some g) None next h = cc
turned None y next h = cc

-- and where it is not
stays : (x y : Option Format) (format f : Format) → ((g : Format) → x ≡ Some g → g ≡ format) → (x ≡ None → y ≡ None) → turn_if x y ≡ None → y ≡ Some f → f ≡ format
stays None y format f d n t e = let q : None ≡ Some f = sym (n refl) ∙ e in cc
stays (Some g) None format f d n t e = cc
stays (Some g) (Some k) format f d n t e = by (same_format g k) refl t
  where
    by : (b : Bool) → same_format g k ≡ b → (if◌then◌else◌ {A = Option Format} b None (Some k)) ≡ None → f ≡ format
    by true s q = let same : k ≡ f = cc in sym same ∙ same_format_is g k s ∙ d g refl
    by false s q = cc

-- ---- a move

abbrev pub MoveDue : List Format → Format → Move → Type 0
MoveDue fs format Stays = Unit {0}
MoveDue fs format (Trains dis dcs c) = DueAt fs c.page format
MoveDue fs format (Sends dis dcs c) = DueAt fs c.page format
MoveDue fs format (AsksAgain c) = DueAt fs c.page format
MoveDue fs format (Turns next t1 c) = DueAt fs c.page next
MoveDue fs format (Closes outcome c) = DueAt fs c.page format
MoveDue fs format HangsUp = Unit {0}

pub record IsDue (fs : List Format) (a : CallerCore) : Type 0 where
  pub formats : a.formats ≡ fs
  pub due : DueAt fs a.counts.page a.format

pub moved_due : (fs : List Format) (a : CallerCore) (m : Move) → IsDue fs a → MoveDue fs a.format m → IsDue fs (moved a m)
moved_due fs a Stays d h = d
moved_due fs a (Trains dis dcs c) d h = record { formats = d.formats; due = h }
moved_due fs a (Sends dis dcs c) d h = record { formats = d.formats; due = h }
moved_due fs a (AsksAgain c) d h = record { formats = d.formats; due = h }
moved_due fs a (Turns next t1 c) d h = record { formats = d.formats; due = h }
moved_due fs a (Closes outcome c) d h = record { formats = d.formats; due = h }
moved_due fs a HangsUp d h = record { formats = d.formats; due = d.due }

pub if_due : (fs : List Format) (format : Format) (t : Bool) (m n : Move) → MoveDue fs format m → MoveDue fs format n → MoveDue fs format (if t then m else n)
if_due fs format true m n x y = x
if_due fs format false m n x y = y

choice_due : (fs : List Format) (format : Format) (dis : Dis) (c : Counts) (r : Result Dcs Refusal) → DueAt fs c.page format → MoveDue fs format (by_choice dis c r)
choice_due fs format dis c (Ok dcs) h = h
choice_due fs format dis c (Err e) h = h

turns_due : (fs : List Format) (format : Format) (now : ℕ) (c : Counts) (m : Move) (t : Option Format) → turn_after fs c.page ≡ t → (t ≡ None → MoveDue fs format m) → MoveDue fs format (turns_or now t c m)
turns_due fs format now c m (Some next) e h =
    let y : slice_get fs (c.page + 1) ≡ Some next = turned (slice_get fs c.page) (slice_get fs (c.page + 1)) next e in
    λ f k. let q : Some f ≡ Some next = sym k ∙ y in cc
turns_due fs format now c m None e h = h refl

pub next_due : (fs : List Format) (format : Format) (page : ℕ) → DueAt fs page format → turn_after fs page ≡ None → DueAt fs (page + 1) format
next_due fs format page d t f k = stays (slice_get fs page) (slice_get fs (page + 1)) format f d (none_after fs page) t k

pub frame_due : (fs : List Format) (now : ℕ) (format : Format) (pages : ℕ) (state : State) (c : Counts) (frame : Option Frame) → DueAt fs c.page format → MoveDue fs format (on_frame now format (turn_after fs c.page) pages state c frame)
frame_due fs now format pages AwaitDis c (Some (frames.Dis dis)) h = choice_due fs format dis (first_try c) (choice dis format c.step) h
frame_due fs now format pages AwaitDis c (Some frames.Dcn) h = tt
frame_due fs now format pages (AwaitCfr dis dcs) c (Some frames.Cfr) h = h
frame_due fs now format pages (AwaitCfr dis dcs) c (Some frames.Ftt) h = choice_due fs format dis (next_step c) (choice dis format (c.step + 1)) h
frame_due fs now format pages (AwaitCfr dis dcs) c (Some (frames.Dis other)) h = if_due fs format (nat_lt c.tries most_tries) (Trains dis dcs (next_try c)) (Closes outcomes.NoReply c) h h
frame_due fs now format pages (AwaitCfr dis dcs) c (Some frames.Dcn) h = tt
frame_due fs now format pages (AwaitMcf dis dcs) c (Some frames.Mcf) h =
    if_due fs format (is_last_page pages c.page) (Closes outcomes.Delivered (one_delivered c)) (turns_or now (turn_after fs c.page) c (Sends dis dcs (next_page c))) h
    (turns_due fs format now c (Sends dis dcs (next_page c)) (turn_after fs c.page) refl (next_due fs format c.page h))
frame_due fs now format pages (AwaitMcf dis dcs) c (Some frames.Rtp) h =
    if_due fs format (is_last_page pages c.page) (Closes outcomes.Delivered (one_delivered c)) (turns_or now (turn_after fs c.page) c (Trains dis dcs (next_page c))) h
    (turns_due fs format now c (Trains dis dcs (next_page c)) (turn_after fs c.page) refl (next_due fs format c.page h))
frame_due fs now format pages (AwaitMcf dis dcs) c (Some frames.Rtn) h = if_due fs format (nat_lt c.refused 2) (Trains dis dcs (one_refused c)) (Closes outcomes.PageRefused c) h h
frame_due fs now format pages (AwaitMcf dis dcs) c (Some frames.Dcn) h = tt
frame_due fs now format pages state c frame h = tt

pub timers_due : (fs : List Format) (format : Format) (x y : Bool) (state : State) (c : Counts) → DueAt fs c.page format → MoveDue fs format (on_timers x y state c)
timers_due fs format x y Idle c h = tt
timers_due fs format x y (Closing outcome) c h = tt
timers_due fs format true y AwaitDis c h = h
timers_due fs format false y AwaitDis c h = tt
timers_due fs format x true (AwaitCfr dis dcs) c h = if_due fs format (nat_lt c.tries most_tries) (Trains dis dcs (next_try c)) (Closes outcomes.NoReply c) h h
timers_due fs format x false (AwaitCfr dis dcs) c h = tt
timers_due fs format x true (AwaitMcf dis dcs) c h = if_due fs format (nat_lt c.tries most_tries) (AsksAgain (next_try c)) (Closes outcomes.NoReply c) h h
timers_due fs format x false (AwaitMcf dis dcs) c h = tt

-- ---- a piece, and a tick

pub came_due : (fs : List Format) (a : CallerCore) (piece : pieces.Piece) (now : ℕ) → IsDue fs a → IsDue fs (came a piece now)
came_due fs a (pieces.Frame octets) now d =
    moved_due fs a _ d (if_due fs a.format (waits a.waiting) Stays (on_frame now a.format (turn_after a.formats a.counts.page) a.pages a.state a.counts (frame_of octets)) tt
    (subst (λ (gs : List Format). MoveDue fs a.format (on_frame now a.format (turn_after gs a.counts.page) a.pages a.state a.counts (frame_of octets))) (sym d.formats)
    (frame_due fs now a.format a.pages a.state a.counts (frame_of octets) d.due)))
came_due fs a (pieces.Start k) now d = d
came_due fs a (pieces.Octets os) now d = d
came_due fs a (pieces.End w) now d = d
came_due fs a pieces.Gap now d = d

pub timed_due : (fs : List Format) (a : CallerCore) (now : ℕ) → IsDue fs a → IsDue fs (timed a now)
timed_due fs a now d =
    moved_due fs a _ d (if_due fs a.format (waits a.waiting) Stays (on_timers (is_due a.t1 now) (is_due a.t4 now) a.state a.counts) tt
    (timers_due fs a.format (is_due a.t1 now) (is_due a.t4 now) a.state a.counts d.due))

pub after_due : (fs : List Format) (a : CallerCore) (now : ℕ) (packet : Packet) (rest : List Due) → IsDue fs a → IsDue fs (after_giving a now packet rest)
after_due fs a now packet [] d = record { formats = d.formats; due = d.due }
after_due fs a now packet (r ∷ rest) d = record { formats = d.formats; due = d.due }

first_due : (fs : List Format) (writes : Writing) (job : JobValue) (a : CallerCore) (now : ℕ) (due : List Due) → IsDue fs a → IsDue fs (given_first writes job a now due).core
first_due fs writes job a now [] d = d
first_due fs writes job a now (r ∷ due) d = after_due fs a now (taken writes job r due).packet (taken writes job r due).rest d

ticked_due : (fs : List Format) (writes : Writing) (job : JobValue) (a : CallerCore) (now : ℕ) → IsDue fs a → IsDue fs (ticked writes job a now).core
ticked_due fs writes job a now d = by (timed a now) (timed_due fs a now d) (pace_allows (timed a now).pace.last now)
  where
    by : (b : CallerCore) → IsDue fs b → (t : Bool) → IsDue fs (if◌then◌else◌ {A = TickResult} t (given_first writes job b now b.waiting) (record { core = b; given = None })).core
    by b k true = first_due fs writes job b now b.waiting k
    by b k false = k

-- ---- a call

first_format : (format : Format) (pages : List PageValue) → IsOfFirst format pages → DueAt (map (λ (p : PageValue). p.format) pages) 0 format
first_format format [] h f k = absurd h
first_format format (p ∷ pages) h f k = let q : p.format ≡ f = cc in sym q ∙ sym h

pub start_due : (core : CallerCore) (job : JobValue) (start : ℕ) → IsJob job → IsDue (formats_of job) (started core job start)
start_due core job start is = record { formats = refl; due = first_format job.format job.pages is.of_first }

pub due_in_call : (writes : Writing) (job : JobValue) (core : CallerCore) (start : ℕ) (events : List CallEvent) → IsJob job → IsDue (formats_of job) (after_events writes job (started core job start) events)
due_in_call writes job core start [] is = start_due core job start is
due_in_call writes job core start (Comes piece now ∷ before) is =
    came_due (formats_of job) (after_events writes job (started core job start) before) piece now (due_in_call writes job core start before is)
due_in_call writes job core start (Ticks now ∷ before) is =
    ticked_due (formats_of job) writes job (after_events writes job (started core job start) before) now (due_in_call writes job core start before is)

pub format_at : (pages : List PageValue) (n : ℕ) (page : PageValue) → slice_get pages n ≡ Some page → slice_get (map (λ (p : PageValue). p.format) pages) n ≡ Some page.format
format_at [] n page h = cc
format_at (p ∷ pages) zero page h = let e : p ≡ page = cc in ap (λ (x : PageValue). Some x.format) e
format_at (p ∷ pages) (suc n) page h = format_at pages n page h

-- the page due is of the format that is kept
pub page_due : (writes : Writing) (job : JobValue) (core : CallerCore) (start : ℕ) (events : List CallEvent) (page : PageValue) → IsJob job →
    slice_get job.pages (after_events writes job (started core job start) events).counts.page ≡ Some page → page.format ≡ (after_events writes job (started core job start) events).format
page_due writes job core start events page is h =
    let a : CallerCore = after_events writes job (started core job start) events in
    (due_in_call writes job core start events is).due page.format (format_at job.pages a.counts.page page h)
