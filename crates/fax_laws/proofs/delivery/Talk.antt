-- Both machines of a call, as they stand between its parts, and while nothing moves them.
use Rattle.std.proofs.Common.{◌≡◌, ℕ, ◌+◌, ◌<◌, min, Bool, true, false, List, [], length, Option, Some, None, Ok, refl, ◌∙◌, ap, if◌then◌else◌}
use Rattle.fax_runcodes.specs.declared.Width.{Width}
use Rattle.fax_runcodes.specs.declared.Width.TheVariants.{W1728, W2048, W2432}
use Rattle.fax_runcodes.specs.declared.format.Format.{Format}
use Rattle.fax_frames.specs.declared.dcs.Dcs.{Dcs}
use Rattle.fax_frames.specs.declared.dcs.Length.TheVariants.{A4, Unlimited}
use Rattle.fax_frames.specs.declared.rate.Rate.TheVariants.{V17At14400}
use Rattle.fax_frames.specs.declared.writing.Plain.TheVariants as plain
use Rattle.fax_frames.specs.Capabilities.{our_dis}
use Rattle.fax_frames.specs.Choice.{choice}
use Rattle.fax_frames.specs.Written.{written_plain}
use Rattle.fax_timers.specs.Moments.{moment_after, is_due}
use Rattle.fax_timers.specs.Paces.{PaceValue}
use Rattle.fax_timers.specs.Spans as spans
use Rattle.fax_answer.specs.declared.state.State.{State as Answering}
use Rattle.fax_answer.specs.declared.state.State.TheVariants as answering
use Rattle.fax_answer.specs.declared.timers.Timers.{Timers}
use Rattle.fax_answer.specs.Calls as answer
use Rattle.fax_answer.specs.Calls.{AnswererCore, no_timers}
use Rattle.fax_answer.specs.History.{Entry}
use Rattle.fax_answer.specs.Replies.{WaitingPacket}
use Rattle.fax_call.specs.declared.state.State.{State as Calling}
use Rattle.fax_call.specs.declared.state.State.TheVariants as calling
use Rattle.fax_call.specs.Calls.{CallerCore, formats_of}
use Rattle.fax_call.specs.Replies.{Due}
use Rattle.fax_call.specs.Table.{Counts, Stays, Move, tries_again, asks_again, gives_up_dis}
use Rattle.fax_jobs.specs.declared.outcome.Outcome.{Outcome}
use Rattle.fax_laws.proofs.delivery.Turns.{Env, job_in, not_due, CallerRests, caller_rests, AnswererRests, answerer_rests}

-- THE DCS that our machines agree on for a format, and as it is heard
abbrev pub dcs_for : Format → Dcs
dcs_for f = record { rate = V17At14400; fine = f.fine; two_d = true; width = f.width; length = Unlimited; scan_ms = 0 }

abbrev pub heard_dcs : Format → Dcs
heard_dcs f = record { rate = V17At14400; fine = f.fine; two_d = true; width = f.width; length = A4; scan_ms = 0 }

pub choice_is : (f : Format) → choice our_dis f 0 ≡ Ok (dcs_for f)
choice_is f = by f.width f.fine
  where
    by : (w : Width) (b : Bool) → choice our_dis (record { width = w; fine = b }) 0 ≡ Ok (dcs_for (record { width = w; fine = b }))
    by W1728 true = refl
    by W1728 false = refl
    by W2048 true = refl
    by W2048 false = refl
    by W2432 true = refl
    by W2432 false = refl

-- THE PACE after a packet, and after a preamble
abbrev pub spaced : (pause at : ℕ) → PaceValue
spaced pause at = record { pause = pause; last = Some (record { at = at; span = 40 }) }

abbrev pub paused : (pause at : ℕ) → PaceValue
paused pause at = record { pause = pause; last = Some (record { at = at; span = min pause 2000 }) }

-- THE CALLER
abbrev pub calling_core : Env → Format → Calling → Counts → List Due → (t1 t4 : Option ℕ) → PaceValue → Option Outcome → CallerCore
calling_core e format s c due t1 t4 pace outcome =
    record { state = s; format = format; formats = formats_of e.job; pages = length e.job.pages; counts = c; waiting = due; t1 = t1; t4 = t4; pace = pace; outcome = outcome }

-- where this page is due: while a DIS is awaited, after it was taken; and when it is delivered
abbrev pub before_try : (at tries : ℕ) → Counts
before_try at tries = record { page = at; step = 0; tries = tries; refused = 0; delivered = at }

abbrev pub one_try : ℕ → Counts
one_try at = before_try at 1

abbrev pub one_more : ℕ → Counts
one_more at = record { page = at; step = 0; tries = 1; refused = 0; delivered = at + 1 }

abbrev pub timer : (at ms : ℕ) → Option ℕ
timer at ms = Some (moment_after at ms)

pub awaits_dis : (e : Env) (f : Format) (at now : ℕ) (c : Counts) (t4 : Option ℕ) (pace : PaceValue) → now < at + 35000 → now < 18446744073709551615
    → CallerRests e.writes (job_in e) (calling_core e f calling.AwaitDis c [] (timer at spans.t1) t4 pace None) now
awaits_dis e f at now c t4 pace h fits =
    caller_rests e.writes (job_in e) (calling_core e f calling.AwaitDis c [] (timer at spans.t1) t4 pace None) now refl
    (ap (λ (b : Bool). if◌then◌else◌ {A = Move} b (gives_up_dis c) Stays) (not_due at 35000 now h fits))

pub awaits_cfr : (e : Env) (f : Format) (at now : ℕ) (d : Dcs) (c : Counts) (pace : PaceValue) → now < at + 3000 → now < 18446744073709551615
    → CallerRests e.writes (job_in e) (calling_core e f (calling.AwaitCfr our_dis d) c [] None (timer at spans.t4) pace None) now
awaits_cfr e f at now d c pace h fits =
    caller_rests e.writes (job_in e) (calling_core e f (calling.AwaitCfr our_dis d) c [] None (timer at spans.t4) pace None) now refl
    (ap (λ (b : Bool). if◌then◌else◌ {A = Move} b (tries_again our_dis d c) Stays) (not_due at 3000 now h fits))

pub awaits_mcf : (e : Env) (f : Format) (at now : ℕ) (d : Dcs) (c : Counts) (pace : PaceValue) → now < at + 3000 → now < 18446744073709551615
    → CallerRests e.writes (job_in e) (calling_core e f (calling.AwaitMcf our_dis d) c [] None (timer at spans.t4) pace None) now
awaits_mcf e f at now d c pace h fits =
    caller_rests e.writes (job_in e) (calling_core e f (calling.AwaitMcf our_dis d) c [] None (timer at spans.t4) pace None) now refl
    (ap (λ (b : Bool). if◌then◌else◌ {A = Move} b (asks_again c) Stays) (not_due at 3000 now h fits))

pub calls_no_more : (e : Env) (f : Format) (now : ℕ) (c : Counts) (t1 t4 : Option ℕ) (pace : PaceValue) (o : Option Outcome) → CallerRests e.writes (job_in e) (calling_core e f calling.Idle c [] t1 t4 pace o) now
calls_no_more e f now c t1 t4 pace o = caller_rests e.writes (job_in e) (calling_core e f calling.Idle c [] t1 t4 pace o) now refl refl

-- THE ANSWERER
abbrev pub answering_core : Answering → List Entry → List WaitingPacket → Timers → PaceValue → AnswererCore
answering_core s h ws t pace = record { state = s; history = h; waiting = ws; timers = t; pace = pace }

abbrev pub only_t2 : (at : ℕ) → Timers
only_t2 at = record { t1 = None; t2 = Some (moment_after at spans.t2); t4 = None }

pub train_rests : (d : Dcs) (h : List Entry) (at now : ℕ) (pace : PaceValue) → now < at + 6000 → now < 18446744073709551615 → AnswererRests (answering_core (answering.Train d) h [] (only_t2 at) pace) now
train_rests d h at now pace soon fits =
    let b : AnswererCore = answering_core (answering.Train d) h [] (only_t2 at) pace in
    answerer_rests (answering_core (answering.Train d) h [] (only_t2 at) pace) now refl
    (ap (λ (x : Bool). if◌then◌else◌ {A = AnswererCore} x (answer.says_goodbye b) b) (not_due at 6000 now soon fits))

pub page_rests : (d : Dcs) (h : List Entry) (at now : ℕ) (pace : PaceValue) → now < at + 6000 → now < 18446744073709551615 → AnswererRests (answering_core (answering.Page d) h [] (only_t2 at) pace) now
page_rests d h at now pace soon fits =
    let b : AnswererCore = answering_core (answering.Page d) h [] (only_t2 at) pace in
    answerer_rests (answering_core (answering.Page d) h [] (only_t2 at) pace) now refl
    (ap (λ (x : Bool). if◌then◌else◌ {A = AnswererCore} x (answer.says_goodbye b) b) (not_due at 6000 now soon fits))

pub again_rests : (h : List Entry) (at now : ℕ) (pace : PaceValue) → now < at + 6000 → now < 18446744073709551615 → AnswererRests (answering_core answering.Again h [] (only_t2 at) pace) now
again_rests h at now pace soon fits =
    let b : AnswererCore = answering_core answering.Again h [] (only_t2 at) pace in
    answerer_rests (answering_core answering.Again h [] (only_t2 at) pace) now refl
    (ap (λ (x : Bool). if◌then◌else◌ {A = AnswererCore} x (answer.identifies_anew b now) b) (not_due at 6000 now soon fits))

-- T1, and T4 after a DIS was given
abbrev pub identified : (start at : ℕ) → Timers
identified start at = record { t1 = Some (moment_after start spans.t1); t2 = None; t4 = Some (moment_after at spans.t4) }

pub identify_rests : (h : List Entry) (start at now : ℕ) (pace : PaceValue) → now < start + 35000 → now < at + 3000 → now < 18446744073709551615
    → AnswererRests (answering_core answering.Identify h [] (identified start at) pace) now
identify_rests h start at now pace first soon fits =
    let b : AnswererCore = answering_core answering.Identify h [] (identified start at) pace in
    answerer_rests (answering_core answering.Identify h [] (identified start at) pace) now refl
    (ap (λ (x : Bool). if◌then◌else◌ {A = AnswererCore} x (answer.says_goodbye b) (if is_due b.timers.t4 now then answer.identifies_again b else b)) (not_due start 35000 now first fits)
    ∙ ap (λ (x : Bool). if◌then◌else◌ {A = AnswererCore} x (answer.identifies_again b) b) (not_due at 3000 now soon fits))

pub answers_no_more : (h : List Entry) (now : ℕ) (pace : PaceValue) → AnswererRests (answering_core answering.Idle h [] no_timers pace) now
answers_no_more h now pace = answerer_rests (answering_core answering.Idle h [] no_timers pace) now refl refl

-- FRAMES
abbrev pub cfr : List ℕ
cfr = written_plain plain.Cfr false

abbrev pub mcf : List ℕ
mcf = written_plain plain.Mcf false

abbrev pub dcn : List ℕ
dcn = written_plain plain.Dcn true
