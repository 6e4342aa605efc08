-- What holds of each packet of the answering core's replies holds of all that wait in a call, and of each that a tick gives.
use Rattle.std.proofs.Common.{ℕ, Bool, true, false, List, [], ◌∷◌, ◌++◌, Option, Some, None, if◌then◌else◌}
use Rattle.fax_timers.specs.Moments.{is_due}
use Rattle.fax_timers.specs.Paces.{pace_allows}
use Rattle.fax_ifp.specs.Pieces as pieces
use Rattle.fax_frames.specs.declared.writing.Plain.TheVariants.{Dcn}
use Rattle.fax_answer.specs.declared.state.State.{State}
use Rattle.fax_answer.specs.declared.state.State.TheVariants.{Idle, Identify, Listen, Train, Page, Again, Closing}
use Rattle.fax_answer.specs.History.{Decision}
use Rattle.fax_answer.specs.Table.{Reading, decision}
use Rattle.fax_answer.specs.Replies.{WaitingPacket, called_tone, is_waiting, plain_reply, reply_to, silent}
use Rattle.fax_answer.specs.Calls.{AnswererCore, rung, came, dis_reply, identifies_again, identifies_anew, timed_in, timed, TickResult, given_first, ticked, CallEvent, Comes, Ticks, after_events}

abbrev pub Each : (WaitingPacket → Type 0) → List WaitingPacket → Type 0
Each P [] = Unit {0}
Each P (w ∷ ws) = P w × Each P ws

abbrev pub IfGiven : (WaitingPacket → Type 0) → Option WaitingPacket → Type 0
IfGiven P None = Unit {0}
IfGiven P (Some w) = P w

pub record OfReplies (P : WaitingPacket → Type 0) : Type 0 where
  pub tone : P (silent called_tone)
  pub dis : Each P dis_reply
  pub goodbye : Each P (plain_reply Dcn None)
  pub reply : (d : Decision) → Each P (reply_to d)

pub each_both : (P : WaitingPacket → Type 0) (xs ys : List WaitingPacket) → Each P xs → Each P ys → Each P (xs ++ ys)
each_both P [] ys a b = b
each_both P (x ∷ xs) ys a b = (a.0, each_both P xs ys a.1 b)

pub rung_each : (P : WaitingPacket → Type 0) → OfReplies P → (a : AnswererCore) (now : ℕ) → Each P (rung a now).waiting
rung_each P r a now = (r.tone, r.dis)

pub came_each : (P : WaitingPacket → Type 0) → OfReplies P → (read : Reading) (a : AnswererCore) (piece : pieces.Piece) (now : ℕ) → Each P a.waiting → Each P (came read a piece now).waiting
came_each P r read a piece now h =
    let d : Decision = decision read a.state (is_waiting a.waiting) a.history piece in
    each_both P a.waiting (reply_to d) h (r.reply d)

either : (P : WaitingPacket → Type 0) (b : Bool) (x y : AnswererCore) → Each P x.waiting → Each P y.waiting → Each P (if b then x else y).waiting
either P true x y i j = i
either P false x y i j = j

timed_in_each : (P : WaitingPacket → Type 0) → OfReplies P → (state : State) (a : AnswererCore) (now : ℕ) → Each P a.waiting → Each P (timed_in state a now).waiting
timed_in_each P r Idle a now i = i
timed_in_each P r Closing a now i = i
timed_in_each P r Identify a now i = either P (is_due a.timers.t1 now) _ _ r.goodbye (either P (is_due a.timers.t4 now) (identifies_again a) a r.dis i)
timed_in_each P r Listen a now i = either P (is_due a.timers.t2 now) _ _ r.goodbye i
timed_in_each P r (Train d) a now i = either P (is_due a.timers.t2 now) _ _ r.goodbye i
timed_in_each P r (Page d) a now i = either P (is_due a.timers.t2 now) _ _ r.goodbye i
timed_in_each P r Again a now i = either P (is_due a.timers.t2 now) (identifies_anew a now) a r.dis i

pub record EachTick (P : WaitingPacket → Type 0) (t : TickResult) : Type 0 where
  pub core : Each P t.core.waiting
  pub given : IfGiven P t.given

first_each : (P : WaitingPacket → Type 0) (a : AnswererCore) (now : ℕ) (ws : List WaitingPacket) → Each P a.waiting → Each P ws → EachTick P (given_first a now ws)
first_each P a now [] g h = record { core = g; given = tt }
first_each P a now (w ∷ []) g h = record { core = tt; given = h.0 }
first_each P a now (w ∷ v ∷ ws) g h = record { core = h.1; given = h.0 }

tick_if : (P : WaitingPacket → Type 0) (b : Bool) (a : AnswererCore) (t : TickResult) → Each P a.waiting → EachTick P t → EachTick P (if b then t else record { core = a; given = None; ended = false })
tick_if P true a t i k = k
tick_if P false a t i k = record { core = i; given = tt }

pub ticked_each : (P : WaitingPacket → Type 0) → OfReplies P → (a : AnswererCore) (now : ℕ) → Each P a.waiting → EachTick P (ticked a now)
ticked_each P r a now h =
    let b : AnswererCore = timed a now in
    let n : Each P b.waiting = either P (is_waiting a.waiting) a (timed_in a.state a now) h (timed_in_each P r a.state a now h) in
    tick_if P (pace_allows b.pace.last now) b (given_first b now b.waiting) n (first_each P b now b.waiting n n)

pub events_each : (P : WaitingPacket → Type 0) → OfReplies P → (a : AnswererCore) (events : List CallEvent) → Each P a.waiting → Each P (after_events a events).waiting
events_each P r a [] h = h
events_each P r a (Comes piece now read ∷ before) h = came_each P r read (after_events a before) piece now (events_each P r a before h)
events_each P r a (Ticks now ∷ before) h = (ticked_each P r (after_events a before) now (events_each P r a before h)).core
