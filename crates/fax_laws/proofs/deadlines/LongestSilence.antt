-- However a call came to where it is, the time that is left to it where nothing more is heard is at most the longest silence.
use Rattle.std.proofs.Common.{◌≡◌, ℕ, ◌+◌, ◌*◌, ◌≤◌, Bool, true, false, List, [], ◌∷◌, ◌++◌, None, refl, sym, subst, arith, if◌then◌else◌, append-nil}
use Rattle.fax_timers.specs.Moments.{is_due}
use Rattle.fax_timers.specs.Paces.{pace_allows}
use Rattle.fax_timers.specs.Spans as spans
use Rattle.fax_ifp.specs.Pieces as pieces
use Rattle.fax_ifp.specs.WrittenPackets.{written_after}
use Rattle.fax_answer.specs.declared.state.State.{State}
use Rattle.fax_answer.specs.declared.state.State.TheVariants.{Idle, Identify, Listen, Train, Page, Again, Closing}
use Rattle.fax_answer.specs.Following.{Rests}
use Rattle.fax_answer.specs.History.{Decision, Entry, PassesOver, Trains, HangsUp, GivesCfr, GivesFtt, GivesMcf, GivesRtn}
use Rattle.fax_answer.specs.Table.{Reading, decision}
use Rattle.fax_answer.specs.Replies.{WaitingPacket, called_tone, is_waiting, reply_to, silent}
use Rattle.fax_answer.specs.Calls.{AnswererCore, CallEvent, Comes, Ticks, TickResult, after_events, dis_reply, given_first, identifies_again, identifies_anew, rung, says_goodbye, ticked, timed, timed_in}
use Rattle.fax_answer.specs.Silence.{silent_time, time_of, timers_time}
use Rattle.fax_answer.proofs.Rests.{rests_after, ticked_rests}
use Rattle.fax_laws.specs.deadlines.Deadlines.{longest_silence}

-- what waits takes no longer than CED and a DIS
abbrev Fits : List WaitingPacket → Type 0
Fits ws = (gap : ℕ) → time_of gap ws ≤ spans.longest_pause + 2 * spans.pace + 3 * gap

tone_fits : Fits (silent called_tone ∷ dis_reply)
unfolding written_after
tone_fits gap = omega arith

dis_fits : Fits dis_reply
unfolding written_after
dis_fits gap = omega arith

goodbye_fits : (a : AnswererCore) → Fits (says_goodbye a).waiting
unfolding written_after
goodbye_fits a gap = omega arith

reply_fits : (d : Decision) → Fits (reply_to d)
unfolding written_after
reply_fits PassesOver gap = omega arith
reply_fits (Trains dcs) gap = omega arith
reply_fits HangsUp gap = omega arith
reply_fits (GivesCfr dcs) gap = omega arith
reply_fits GivesFtt gap = omega arith
reply_fits (GivesMcf command page) gap = omega arith
reply_fits GivesRtn gap = omega arith

-- ---- no reply is added while one waits

abbrev NoReplyIf : List WaitingPacket → Decision → Type 0
NoReplyIf [] d = Unit {0}
NoReplyIf (w ∷ ws) d = reply_to d ≡ []

no_reply : (read : Reading) (state : State) (ws : List WaitingPacket) (before : List Entry) (piece : pieces.Piece) → Rests state ws → NoReplyIf ws (decision read state (is_waiting ws) before piece)
no_reply read state [] before piece r = tt
no_reply read state (w ∷ ws) before (pieces.Frame octets) r = refl
no_reply read Idle (w ∷ ws) before (pieces.End whole) r = refl
no_reply read Identify (w ∷ ws) before (pieces.End whole) r = refl
no_reply read Listen (w ∷ ws) before (pieces.End whole) r = refl
no_reply read (Train dcs) (w ∷ ws) before (pieces.End whole) r = cc
no_reply read (Page dcs) (w ∷ ws) before (pieces.End whole) r = refl
no_reply read Again (w ∷ ws) before (pieces.End whole) r = refl
no_reply read Closing (w ∷ ws) before (pieces.End whole) r = refl
no_reply read state (w ∷ ws) before (pieces.Start k) r = refl
no_reply read state (w ∷ ws) before (pieces.Octets o) r = refl
no_reply read state (w ∷ ws) before pieces.Gap r = refl

decided_fits : (ws : List WaitingPacket) (d : Decision) → NoReplyIf ws d → Fits ws → Fits (ws ++ reply_to d)
decided_fits [] d n f = reply_fits d
decided_fits (w ∷ ws) d n f = subst (λ (more : List WaitingPacket). Fits ((w ∷ ws) ++ more)) (sym n) (subst Fits (sym (append-nil (w ∷ ws))) f)

-- ---- a tick

fits_if : (b : Bool) (x y : AnswererCore) → Fits x.waiting → Fits y.waiting → Fits (if◌then◌else◌ {A = AnswererCore} b x y).waiting
fits_if true x y f g = f
fits_if false x y f g = g

timed_in_fits : (state : State) (a : AnswererCore) (now : ℕ) → Fits a.waiting → Fits (timed_in state a now).waiting
timed_in_fits Idle a now f = f
timed_in_fits Closing a now f = f
timed_in_fits Identify a now f =
    fits_if (is_due a.timers.t1 now) (says_goodbye a) (if is_due a.timers.t4 now then identifies_again a else a) (goodbye_fits a)
    (fits_if (is_due a.timers.t4 now) (identifies_again a) a dis_fits f)
timed_in_fits Listen a now f = fits_if (is_due a.timers.t2 now) (says_goodbye a) a (goodbye_fits a) f
timed_in_fits (Train dcs) a now f = fits_if (is_due a.timers.t2 now) (says_goodbye a) a (goodbye_fits a) f
timed_in_fits (Page dcs) a now f = fits_if (is_due a.timers.t2 now) (says_goodbye a) a (goodbye_fits a) f
timed_in_fits Again a now f = fits_if (is_due a.timers.t2 now) (identifies_anew a now) a dis_fits f

none_fits : Fits []
none_fits gap = omega arith

fewer_fits : (w : WaitingPacket) (ws : List WaitingPacket) → Fits (w ∷ ws) → Fits ws
fewer_fits w ws f gap = let all : time_of gap (w ∷ ws) ≤ spans.longest_pause + 2 * spans.pace + 3 * gap = f gap in omega arith

first_fits : (a : AnswererCore) (now : ℕ) (ws : List WaitingPacket) → Fits a.waiting → Fits ws → Fits (given_first a now ws).core.waiting
first_fits a now [] f g = f
first_fits a now (w ∷ []) f g = none_fits
first_fits a now (w ∷ v ∷ ws) f g = fewer_fits w (v ∷ ws) g

paced_fits : (b : Bool) (a : AnswererCore) (t : TickResult) → Fits a.waiting → Fits t.core.waiting
    → Fits (if◌then◌else◌ {A = TickResult} b t (record { core = a; given = None; ended = false })).core.waiting
paced_fits true a t f g = g
paced_fits false a t f g = f

ticked_fits : (a : AnswererCore) (now : ℕ) → Fits a.waiting → Fits (ticked a now).core.waiting
ticked_fits a now f =
    let b : AnswererCore = timed a now in
    let n : Fits b.waiting = fits_if (is_waiting a.waiting) a (timed_in a.state a now) f (timed_in_fits a.state a now f) in
    paced_fits (pace_allows b.pace.last now) b (given_first b now b.waiting) n (first_fits b now b.waiting n n)

-- ---- the whole call

rests_through : (core : AnswererCore) (start : ℕ) (events : List CallEvent) → Rests (after_events (rung core start) events).state (after_events (rung core start) events).waiting
rests_through core start [] = tt
rests_through core start (Comes piece now read ∷ before) =
    let a : AnswererCore = after_events (rung core start) before in rests_after read a.state a.waiting a.history piece (rests_through core start before)
rests_through core start (Ticks now ∷ before) = ticked_rests (after_events (rung core start) before) now (rests_through core start before)

fits_through : (core : AnswererCore) (start : ℕ) (events : List CallEvent) → Fits (after_events (rung core start) events).waiting
fits_through core start [] = tone_fits
fits_through core start (Comes piece now read ∷ before) =
    let a : AnswererCore = after_events (rung core start) before in
    decided_fits a.waiting (decision read a.state (is_waiting a.waiting) a.history piece) (no_reply read a.state a.waiting a.history piece (rests_through core start before)) (fits_through core start before)
fits_through core start (Ticks now ∷ before) = ticked_fits (after_events (rung core start) before) now (fits_through core start before)

timers_most : (state : State) → timers_time state ≤ spans.t2 + spans.t1
timers_most Idle = omega arith
timers_most Closing = omega arith
timers_most Identify = omega arith
timers_most Again = omega arith
timers_most Listen = omega arith
timers_most (Train dcs) = omega arith
timers_most (Page dcs) = omega arith

pub silent_most : (core : AnswererCore) (start : ℕ) (events : List CallEvent) (gap : ℕ) → silent_time gap (after_events (rung core start) events) ≤ longest_silence gap
silent_most core start events gap =
    let a : AnswererCore = after_events (rung core start) events in
    let waits : time_of gap a.waiting ≤ spans.longest_pause + 2 * spans.pace + 3 * gap = fits_through core start events gap in
    let timers : timers_time a.state ≤ spans.t2 + spans.t1 = timers_most a.state in
    omega arith
