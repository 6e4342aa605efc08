-- How often a page may be refused. (This project's profile: RTN twice leads to a training and the same page again, the third
-- ends the job.)
use Rattle.std.specs.Prelude.{◌≡◌, ℕ, ◌+◌, ◌≤◌, nat_lt, Bool, false, List, [], ◌∷◌, Option, Some, if◌then◌else◌}
use Rattle.fax_frames.specs.declared.dis.Dis.{Dis}
use Rattle.fax_frames.specs.declared.dcs.Dcs.{Dcs}
use Rattle.fax_frames.specs.declared.frame.Frame.{Frame}
use Rattle.fax_frames.specs.declared.frame.Frame.TheVariants as frames
use Rattle.fax_frames.specs.Frames.{frame_of}
use Rattle.fax_ifp.specs.Pieces as pieces
use Rattle.fax_jobs.specs.declared.outcome.Outcome.TheVariants as outcomes
use Rattle.fax_jobs.specs.Jobs.{JobValue}
use Rattle.fax_call.specs.declared.state.State.{State}
use Rattle.fax_call.specs.declared.state.State.TheVariants.{AwaitCfr, AwaitMcf, Closing}
use Rattle.fax_call.specs.Writings.{Writing}
use Rattle.fax_call.specs.Replies.{waits, training, goodbye}
use Rattle.fax_call.specs.Calls.{CallerCore, started, came, CallEvent, Comes, Ticks, after_events}

-- the frames RTN that answered the page due: each came in Await MCF while no packet waited; an MCF or RTP that came so is for
-- the page before
abbrev pub refused_by : State → (waits : Bool) → Option Frame → ℕ → ℕ
refused_by (AwaitMcf dis dcs) false (Some frames.Rtn) n = n + 1
refused_by (AwaitMcf dis dcs) false (Some frames.Mcf) n = 0
refused_by (AwaitMcf dis dcs) false (Some frames.Rtp) n = 0
refused_by state waits frame n = n

abbrev pub refused_with : CallerCore → pieces.Piece → ℕ → ℕ
refused_with a (pieces.Frame octets) n = refused_by a.state (waits a.waiting) (frame_of octets) n
refused_with a piece n = n

abbrev pub refusals : Writing → JobValue → CallerCore → List CallEvent → ℕ
refusals writes job begun [] = 0
refusals writes job begun (Comes piece now ∷ before) =
    refused_with (after_events writes job begun before) piece (refusals writes job begun before)
refusals writes job begun (Ticks now ∷ before) = refusals writes job begun before

-- An RTN that comes in Await MCF while no packet waits: the third for a page ends the job, each before it leads to a training.
abbrev pub RefusesAtTheThird : (n : ℕ) → Dis → Dcs → CallerCore → Type 0
RefusesAtTheThird n dis dcs z =
    (z.state ≡ (if nat_lt n 2 then AwaitCfr dis dcs else Closing outcomes.PageRefused))
    × (z.waiting ≡ (if nat_lt n 2 then training dcs else goodbye))

-- That holds in every call: no page has more than three, and a call ends so only where its page has three.
abbrev pub ThirdRefusalEnds : Type 0
ThirdRefusalEnds =
    (writes : Writing) (job : JobValue) (core : CallerCore) (start : ℕ) (events : List CallEvent)
    → let begun : CallerCore = started core job start
    in let a : CallerCore = after_events writes job begun events
    in let n : ℕ = refusals writes job begun events in (n ≤ 3)
    × (a.state ≡ Closing outcomes.PageRefused → n ≡ 3)
    × (a.outcome ≡ Some outcomes.PageRefused → n ≡ 3)
    × ((dis : Dis) (dcs : Dcs) (octets : List ℕ) (now : ℕ)
    → a.state ≡ AwaitMcf dis dcs → a.waiting ≡ [] → frame_of octets ≡ Some frames.Rtn
    → RefusesAtTheThird n dis dcs (came a (pieces.Frame octets) now))
