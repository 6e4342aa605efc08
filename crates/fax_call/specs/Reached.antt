-- What a caller keeps that a call has led to.
use Rattle.std.specs.Prelude.{◌≡◌, ℕ, List, ◌++◌, reverse, Option, option_map}
use Rattle.fax_ifp.specs.Elements.{Slot}
use Rattle.fax_ifp.specs.Pieces.{Piece, pieces}
use Rattle.fax_ifp.specs.Tracked.{TrackState, IsTracked}
use Rattle.fax_jobs.specs.Jobs.{JobValue}
use Rattle.fax_pagestore.specs.Writers.{WriterValue}
use Rattle.fax_call.specs.declared.procedure.Procedure.{Procedure}
use Rattle.fax_call.specs.Writings.{Writing}
use Rattle.fax_call.specs.Replies.{written}
use Rattle.fax_call.specs.Calls.{CallerCore, came_all, TickResult}
use Rattle.fax_call.specs.Following.{Follows}
use Rattle.fax_call.specs.Watching.{Telling, tellings}

-- what is left of the slots for frames to come, the procedure, the writer of the text of a page that is given, and for how
-- many octets of a packet there is room
pub record Rep : Type 0 where
  pub tracked : TrackState
  pub procedure : Procedure
  pub writer : WriterValue
  pub spare : ℕ

-- these slots of the call, the newest first, and this core led to it
pub record IsReached (writes : Writing)
    (job : JobValue) (heard : List Slot) (core : CallerCore) (kept : Rep) : Type 0 where
  pub tracked : IsTracked heard kept.tracked
  pub follows : Follows writes job core kept.writer kept.procedure

-- More slots, in the order of time, led on, whatever came before: their pieces came.
pub record Hears (writes : Writing) (job : JobValue)
    (slots : List Slot) (now : ℕ) (heard : List Slot) (core : CallerCore) (new : Rep) : Type 0 where
  pub given : List Piece
  pub pieces : pieces (reverse slots ++ heard) ≡ pieces heard ++ given
  pub reached : IsReached writes job (reverse slots ++ heard) (came_all core given now) new

-- the same, and this holds of what was told of them
pub record HearsTold (Tells : List Telling → Type 0) (writes : Writing) (job : JobValue)
    (slots : List Slot) (now : ℕ) (heard : List Slot) (core : CallerCore) (new : Rep) : Type 0 where
  pub hears : Hears writes job slots now heard core new
  pub told : Tells (tellings core hears.given now)

-- a tick gives the octets of its packet, where it gives one
abbrev pub IsGiven : TickResult → Option (List ℕ) → Type 0
IsGiven t octets = octets ≡ option_map written t.given
