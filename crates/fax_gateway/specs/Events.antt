-- What comes to a gateway, and what it answers. (This project's profile.)
use Rattle.std.specs.Prelude.{ℕ, ◌+◌, max, Bool, List, [], ◌∷◌, Option}
use Rattle.fax_jobs.specs.declared.report.Report.{Report}
use Rattle.fax_answer.specs.Table.{Reading}

-- what a tick gives: a datagram on each leg, and the report of the job that ended
pub record Given : Type 0 where
  pub on_calling : Option (List ℕ)
  pub on_called : Option (List ℕ)
  pub report : Option Report

-- An accepted event with its answer, and the moment handed in. A datagram is answered by whether it decided a slot; one of
-- the calling leg has beside it what the image was read as that it asks about. The call of a job that is asked for is placed: the
-- called machine has answered it; or it is not, since that could not be reached.
pub data Event : Type 0 where
  Ring : (now number : ℕ) → Event
  FromCalling : (octets : List ℕ) → (now : ℕ) → (decided : Bool) → (read : Reading) → Event
  FromCalled : (octets : List ℕ) → (now : ℕ) → (decided : Bool) → Event
  Tick : (now : ℕ) → (given : Given) → Event
  Placed : (now : ℕ) → (connected : Bool) → Event

abbrev pub moment_of : Event → ℕ
moment_of (Ring now number) = now
moment_of (FromCalling octets now decided read) = now
moment_of (FromCalled octets now decided) = now
moment_of (Tick now given) = now
moment_of (Placed now connected) = now

-- Lists of events have the newest first. The clock never goes back: it is the greatest moment so far.
abbrev pub clock : List Event → ℕ
clock [] = 0
clock (e ∷ earlier) = max (moment_of e) (clock earlier)

-- how many rings were accepted
abbrev pub rings : List Event → ℕ
rings [] = 0
rings (Ring now number ∷ earlier) = rings earlier + 1
rings (FromCalling octets now decided read ∷ earlier) = rings earlier
rings (FromCalled octets now decided ∷ earlier) = rings earlier
rings (Tick now given ∷ earlier) = rings earlier
rings (Placed now connected ∷ earlier) = rings earlier
