-- With which status a run ends of which something is told. (This project's profile.)
use Rattle.std.specs.Prelude.{◌≡◌, ◌⊎◌, Bool, true, false, Option, Some, None, IsSomeAnd}
use Rattle.clap.specs.declared.error.kind.ErrorKind.{ErrorKind}
use Rattle.clap.specs.declared.error.kind.ErrorKind.TheVariants.{DisplayHelp, DisplayVersion, OutOfMemory}
use Rattle.fax_command.specs.declared.status.Status.{Status}
use Rattle.fax_command.specs.declared.status.Status.TheVariants as status
use Rattle.fax_desk.specs.declared.spool.RunEnd.{RunEnd}
use Rattle.fax_desk.specs.declared.spool.RunEnd.TheVariants.{Stopped, SpoolFailed, Reload}
use Rattle.fax_jobs.specs.declared.outcome.Outcome.{Outcome}
use Rattle.fax_jobs.specs.declared.outcome.Outcome.TheVariants.{Delivered}

-- this status, or 4 where what is to be told could not be
abbrev pub IsToldAs : Status → Status → Type 0
IsToldAs wanted ends = (ends ≡ wanted) ⊎ (ends ≡ status.Stream)

-- the status of words that ask for nothing that is run: help and the version are what was asked for
abbrev pub refusal_status : ErrorKind → Status
refusal_status DisplayHelp = status.Done
refusal_status DisplayVersion = status.Done
refusal_status OutOfMemory = status.NoMemory
refusal_status kind = status.Usage

-- the status of a call with this outcome
abbrev pub outcome_status : Outcome → Status
outcome_status Delivered = status.Done
outcome_status outcome = status.Undelivered

-- THE PROCESS ENDS after a run of a server that was told to stop. One whose spool has failed is followed by another one, which opens
-- that anew, where words come on a control socket; words that come on the standard input are of one run alone. One whose configuration was
-- read again is followed by another one, too.
abbrev pub IsEndedBy : RunEnd → (has_control : Bool) → Option Status → Type 0
IsEndedBy Stopped has_control ends = ends ≡ Some status.Done
IsEndedBy Reload has_control ends = ends ≡ None
IsEndedBy SpoolFailed true ends = ends ≡ None
IsEndedBy SpoolFailed false ends = IsSomeAnd ends (IsToldAs status.Usage)
