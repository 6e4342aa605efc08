-- When a tick of the gateway is due: the first moment at which it may give something or change more than the clock.
-- (This project's profile.)
use Rattle.std.specs.Prelude.{ℕ, Bool, is_some, List, [], ◌∷◌, Option, Some, None, if◌then◌else◌}
use Rattle.fax_timers.specs.Moments.{earlier}
use Rattle.fax_jobs.specs.Jobs.{JobValue}
use Rattle.fax_answer.specs.Due as answer
use Rattle.fax_call.specs.Writings.{Writing}
use Rattle.fax_call.specs.Calls.{CallerCore}
use Rattle.fax_call.specs.Due as call
use Rattle.fax_gateway.specs.declared.given.Given as shown
use Rattle.fax_gateway.specs.Setups.{Setup}
use Rattle.fax_gateway.specs.Events.{Event}
use Rattle.fax_gateway.specs.CallingLegs.{CallingLeg, calling_leg}
use Rattle.fax_gateway.specs.CalledLegs.{CalledLeg, core_of, outcome_of}
use Rattle.fax_gateway.specs.BothLegs.{BothLegs, book_of, both_legs}
use Rattle.fax_gateway.specs.Reached.{answering_of}

-- the calling leg: that of its answerer
abbrev pub calling_due : Setup → Option CallingLeg → Option ℕ
calling_due setup leg = answer.due_at (answering_of setup leg)

-- the call of a job: at once where it is over, since the next tick enters its end in the book; else that of its caller
abbrev pub call_due : CallerCore → Option ℕ
call_due core = if is_some (outcome_of core) then Some 0 else call.due_at core

-- where no job is being sent: at once where one waits, but where calls are asked for: then none is due until it is placed
abbrev pub job_due : (asks : Bool) → List JobValue → Option ℕ
job_due asks [] = None
job_due asks (job ∷ jobs) = if asks then None else Some 0

-- the called leg, with the jobs that wait
abbrev pub called_due : (asks : Bool) → Writing → Option CalledLeg → List JobValue → Option ℕ
called_due asks writes None waiting = job_due asks waiting
called_due asks writes (Some l) waiting =
    if l.entered then job_due asks waiting else call_due (core_of writes l)

-- both
abbrev pub due_at : Setup → Writing → List Event → Option ℕ
due_at setup writes trace = let s : BothLegs = both_legs setup writes trace
    in earlier (calling_due setup (calling_leg setup trace))
    (called_due setup.asks writes s.leg (book_of s).waiting)

-- a tick that gives and tells nothing
abbrev pub nothing_given : shown.Given
nothing_given = record {
  calling = None;
  called = None;
  report = None;
  kept = None;
  refused = None;
  gave_up = None;
}
