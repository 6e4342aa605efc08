-- The high-speed signals among the packets that a call gives. (ITU-T T.30, 5.3.6.1.3: the training check is zeros.)
use Rattle.std.specs.Prelude.{◌≡◌, ℕ, ◌⊎◌, Bool, true, false, List, [], ◌∷◌, ◌++◌, map, reverse, replicate, Option, Some, None}
use Rattle.fax_frames.specs.declared.dcs.Dcs.{Dcs}
use Rattle.fax_ifp.specs.Schedules.{signal_at}
use Rattle.fax_jobs.specs.Jobs.{JobValue, IsJob}
use Rattle.fax_call.specs.Writings.{Writing, IsWriting}
use Rattle.fax_call.specs.Replies.{Packet, Part, written}
use Rattle.fax_call.specs.Calls.{CallerCore, started, ticked, CallEvent, Ticks, after_events}
use Rattle.fax_call.specs.Emission.{Mark, IsPageOf, Emits, marks_after}
use Rattle.fax_call.specs.Given.{packets_given, told_dcs}

-- the DCS that was told last by packets, the newest first
abbrev pub dcs_or : Option Dcs → Option Dcs → Option Dcs
dcs_or (Some dcs) before = Some dcs
dcs_or None before = before

abbrev pub last_dcs : List Packet → Option Dcs
last_dcs [] = None
last_dcs (packet ∷ packets) = dcs_or (told_dcs packet) (last_dcs packets)

-- a packet that ends a high-speed signal
abbrev pub ends_signal : Option Packet → Bool
ends_signal (Some (Part kind last octets)) = last
ends_signal packet = false

-- a training check: zeros alone
abbrev pub IsCheck : List ℕ → Type 0
IsCheck octets = (n : ℕ) × (octets ≡ replicate n 0)

-- The image of a page of the job: a tick gave its end, it means the page under the DCS that was given last before, and with that
-- tick the page is the one emitted last.
pub record IsImage (writes : Writing) (job : JobValue) (old : List Mark)
    (begun : CallerCore) (events : List CallEvent) (octets : List ℕ) : Type 0 where
  pub page : ℕ
  pub dcs : Dcs
  pub later : List CallEvent
  pub now : ℕ
  pub before : List CallEvent
  pub split : events ≡ later ++ Ticks now ∷ before
  pub ends : ends_signal (ticked writes job (after_events writes job begun before) now).given ≡ true
  pub told : last_dcs (packets_given writes job begun before) ≡ Some dcs
  pub means : IsPageOf job page (record { octets = octets; dcs = dcs })
  pub emitted : Emits job (marks_after writes job old begun (Ticks now ∷ before)) (Some page)

-- In every call over one unchanged job each high-speed signal that is given to its end is a training check, or it means a page of
-- the job under the DCS given last before it.
abbrev pub GivesChecksAndPages : Type 0
GivesChecksAndPages = (writes : Writing) (job : JobValue) (old : List Mark)
    (core : CallerCore) (start : ℕ) (events : List CallEvent) (place : ℕ) (octets : List ℕ)
    → let begun : CallerCore = started core job start in IsWriting writes → IsJob job
    → signal_at (reverse (map written (packets_given writes job begun events))) place ≡ Some octets
    → IsCheck octets ⊎ IsImage writes job old begun events octets
