-- The rates of a call: the first that the DIS offers, and after each FTT the next. (ITU-T T.30, Table 2, for the rates of a DIS;
-- that each is tried once, in this order, is this project's profile.)
use Rattle.std.specs.Prelude.{◌≡◌, ℕ, ◌+◌, Bool, false, List, [], ◌∷◌, slice_get, Option, Some, None}
use Rattle.fax_runcodes.specs.declared.format.Format.{Format}
use Rattle.fax_frames.specs.declared.dis.Dis.{Dis}
use Rattle.fax_frames.specs.declared.dcs.Dcs.{Dcs}
use Rattle.fax_frames.specs.declared.rate.Rate.{Rate}
use Rattle.fax_frames.specs.declared.frame.Frame.{Frame}
use Rattle.fax_frames.specs.declared.frame.Frame.TheVariants as frames
use Rattle.fax_frames.specs.Capabilities.{rates_in}
use Rattle.fax_frames.specs.Choice.{dcs_at}
use Rattle.fax_frames.specs.Frames.{frame_of}
use Rattle.fax_ifp.specs.Pieces as pieces
use Rattle.fax_jobs.specs.declared.outcome.Outcome.TheVariants as outcomes
use Rattle.fax_jobs.specs.Jobs.{JobValue}
use Rattle.fax_call.specs.declared.state.State.{State}
use Rattle.fax_call.specs.declared.state.State.TheVariants.{AwaitDis, AwaitCfr, AwaitMcf, Closing}
use Rattle.fax_call.specs.Writings.{Writing}
use Rattle.fax_call.specs.Replies.{waits}
use Rattle.fax_call.specs.Calls.{CallerCore, started, came, CallEvent, Comes, Ticks, after_events}
use Rattle.fax_call.specs.Refusals.{dis_taken}

-- the frames FTT since Await DIS took a DIS: each came in Await CFR while no packet waited
abbrev pub failed_by : State → (waits : Bool) → Option Frame → ℕ → ℕ
failed_by AwaitDis false (Some (frames.Dis dis)) n = 0
failed_by (AwaitCfr dis dcs) false (Some frames.Ftt) n = n + 1
failed_by state waits frame n = n

abbrev pub failed_with : CallerCore → pieces.Piece → ℕ → ℕ
failed_with a (pieces.Frame octets) n = failed_by a.state (waits a.waiting) (frame_of octets) n
failed_with a piece n = n

abbrev pub failures : Writing → JobValue → CallerCore → List CallEvent → ℕ
failures writes job begun [] = 0
failures writes job begun (Comes piece now ∷ before) =
    failed_with (after_events writes job begun before) piece (failures writes job begun before)
failures writes job begun (Ticks now ∷ before) = failures writes job begun before

-- the rate of a DIS after so many FTTs
abbrev pub rate_after : Dis → (n : ℕ) → Option Rate
rate_after dis n = slice_get (rates_in dis.caps.0) n

-- the training at a rate, and where none is left, the end of the job
abbrev pub trained_at : Dis → Format → Option Rate → State
trained_at dis format (Some rate) = AwaitCfr dis (dcs_at dis format rate)
trained_at dis format None = Closing outcomes.RatesSpent

-- The DCS that was told last is that of a DIS, which Await DIS took last, at its first rate, or after n FTTs at rate n.
pub record IsAtRate (format : Format) (n : ℕ) (taken : Option Dis) (dis : Dis) (dcs : Dcs) :
    Type 0 where
  pub is_taken : taken ≡ Some dis
  pub rate : rate_after dis n ≡ Some dcs.rate
  pub dcs_is : dcs ≡ dcs_at dis format dcs.rate

-- So it is in every call, and an FTT that comes in Await CFR while no packet waits leads to the next rate, until none is left.
abbrev pub FttStepsTheRates : Type 0
FttStepsTheRates = (writes : Writing) (job : JobValue)
    (core : CallerCore) (start : ℕ) (events : List CallEvent) (dis : Dis) (dcs : Dcs)
    → let begun : CallerCore = started core job start
    in let a : CallerCore = after_events writes job begun events
    in let n : ℕ = failures writes job begun events in (a.state ≡ AwaitCfr dis dcs
    → IsAtRate a.format n (dis_taken writes job begun events) dis dcs)
    × (a.state ≡ AwaitMcf dis dcs → IsAtRate a.format n (dis_taken writes job begun events) dis dcs)
    × ((octets : List ℕ) (now : ℕ)
    → a.state ≡ AwaitCfr dis dcs → a.waiting ≡ [] → frame_of octets ≡ Some frames.Ftt
    → (came a (pieces.Frame octets) now).state ≡ trained_at dis a.format (rate_after dis (n + 1)))
