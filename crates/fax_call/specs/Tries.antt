-- How often is asked without an answer. (ITU-T T.30, 5.4.3 and figure 5-1: three times in all; for a training this project's
-- profile.)
use Rattle.std.specs.Prelude.{◌≡◌, ℕ, ◌+◌, ◌≤◌, nat_lt, Bool, true, false, List, [], ◌∷◌, Option, Some, None, if◌then◌else◌}
use Rattle.fax_frames.specs.declared.dis.Dis.{Dis}
use Rattle.fax_frames.specs.declared.dcs.Dcs.{Dcs}
use Rattle.fax_frames.specs.declared.frame.Frame.{Frame}
use Rattle.fax_frames.specs.declared.frame.Frame.TheVariants as frames
use Rattle.fax_frames.specs.Frames.{frame_of}
use Rattle.fax_timers.specs.Moments.{is_due}
use Rattle.fax_ifp.specs.Pieces as pieces
use Rattle.fax_jobs.specs.declared.outcome.Outcome.TheVariants as outcomes
use Rattle.fax_jobs.specs.Jobs.{JobValue}
use Rattle.fax_call.specs.declared.state.State.{State}
use Rattle.fax_call.specs.declared.state.State.TheVariants.{AwaitDis, AwaitCfr, AwaitMcf, Closing}
use Rattle.fax_call.specs.Writings.{Writing}
use Rattle.fax_call.specs.Replies.{Packet, Tells, waits}
use Rattle.fax_call.specs.Calls.{CallerCore, started, ticked, CallEvent, Comes, Ticks, after_events}

-- a packet that asks for an answer: the DCS of a training, or the command after an image (EOM, MPS or EOP)
abbrev pub asks_for : Option Frame → Bool
asks_for (Some (frames.Dcs dcs)) = true
asks_for (Some frames.Eom) = true
asks_for (Some frames.Mps) = true
asks_for (Some frames.Eop) = true
asks_for frame = false

abbrev pub asks : Packet → Bool
asks (Tells frame) = asks_for (frame_of frame)
asks packet = false

-- what answers: a DIS in Await DIS, CFR or FTT in Await CFR, and MCF, RTP or RTN in Await MCF, while no packet waits
abbrev pub answers_by : State → (waits : Bool) → Option Frame → Bool
answers_by AwaitDis false (Some (frames.Dis dis)) = true
answers_by (AwaitCfr dis dcs) false (Some frames.Cfr) = true
answers_by (AwaitCfr dis dcs) false (Some frames.Ftt) = true
answers_by (AwaitMcf dis dcs) false (Some frames.Mcf) = true
answers_by (AwaitMcf dis dcs) false (Some frames.Rtp) = true
answers_by (AwaitMcf dis dcs) false (Some frames.Rtn) = true
answers_by state waits frame = false

abbrev pub answers : CallerCore → pieces.Piece → Bool
answers a (pieces.Frame octets) = answers_by a.state (waits a.waiting) (frame_of octets)
answers a piece = false

-- how often was asked since the last answer
abbrev pub asked_by : Option Packet → ℕ → ℕ
asked_by None n = n
asked_by (Some packet) n = if asks packet then n + 1 else n

abbrev pub asked : Writing → JobValue → CallerCore → List CallEvent → ℕ
asked writes job begun [] = 0
asked writes job begun (Comes piece now ∷ before) =
    if answers (after_events writes job begun before) piece
    then 0 else asked writes job begun before
asked writes job begun (Ticks now ∷ before) =
    asked_by (ticked writes job (after_events writes job begun before) now).given
    (asked writes job begun before)

-- In every call at most three times is asked without an answer. Where T4 is due, the training or the command is given again
-- exactly where it was given fewer than three times, and else the call ends, for want of a reply.
abbrev pub ThreeTries : Type 0
ThreeTries =
    (writes : Writing) (job : JobValue) (core : CallerCore) (start : ℕ) (events : List CallEvent)
    → let begun : CallerCore = started core job start
    in let a : CallerCore = after_events writes job begun events
    in let n : ℕ = asked writes job begun events in (n ≤ 3)
    × ((dis : Dis) (dcs : Dcs) (now : ℕ) → a.state ≡ AwaitCfr dis dcs
    → a.waiting ≡ [] → is_due a.t4 now ≡ true → (ticked writes job a now).core.state
    ≡ (if nat_lt n 3 then AwaitCfr dis dcs else Closing outcomes.NoReply))
    × ((dis : Dis) (dcs : Dcs) (now : ℕ) → a.state ≡ AwaitMcf dis dcs
    → a.waiting ≡ [] → is_due a.t4 now ≡ true → (ticked writes job a now).core.state
    ≡ (if nat_lt n 3 then AwaitMcf dis dcs else Closing outcomes.NoReply))
