-- The calls of a trace, and that the jobs of the book are cut from them.
use Rattle.std.specs.Prelude.{◌≡◌, ℕ, Bool, true, false, not, List, [], ◌∷◌, ◌++◌, length, Option, Some, None}
use Rattle.fax_jobs.specs.Jobs.{JobValue}
use Rattle.fax_jobs.specs.Pasts.{Past, jobs_of}
use Rattle.fax_jobs.specs.Cuts.{Confirmation, IsCutOf, IsCutSoFar}
use Rattle.fax_answer.specs.Replies.{ConfirmedPage}
use Rattle.fax_call.specs.Writings.{Writing}
use Rattle.fax_gateway.specs.Restored.{RestoredCall}
use Rattle.fax_gateway.specs.Setups.{Setup}
use Rattle.fax_gateway.specs.Events.{Event, Ring, FromCalling, FromCalled, Tick, Placed, clock}
use Rattle.fax_gateway.specs.CallingLegs.{CallingLeg, calling_leg, idle_after, answers, confirmed_by}
use Rattle.fax_gateway.specs.BothLegs.{both_legs, past_of}
use Rattle.fax_gateway.specs.Traces.{IsTrace}

-- what a tick confirms
abbrev pub confirmed_at : Option CallingLeg → ℕ → Option ConfirmedPage
confirmed_at None now = None
confirmed_at (Some l) now = confirmed_by (answers l now).given

-- The calls, the newest first, each as its confirmations in their order: a ring begins a call, and each tick that confirms a
-- page adds to the last. The call with n calls before it has the number n.
abbrev pub with_confirmed : Option ConfirmedPage
    → List (List Confirmation) → List (List Confirmation)
with_confirmed None calls = calls
with_confirmed (Some c) [] = []
with_confirmed (Some c) (cs ∷ calls) =
    (cs ++ record { page = c.page; closes = c.closes } ∷ []) ∷ calls

abbrev pub calls_of : Setup → List Event → List (List Confirmation)
calls_of setup [] = []
calls_of setup (Ring at number ∷ earlier) = [] ∷ calls_of setup earlier
calls_of setup (FromCalling octets at decided read ∷ earlier) = calls_of setup earlier
calls_of setup (FromCalled octets at decided ∷ earlier) = calls_of setup earlier
calls_of setup (Tick at given ∷ earlier) =
    with_confirmed (confirmed_at (calling_leg setup earlier) (clock (Tick at given ∷ earlier)))
    (calls_of setup earlier)
calls_of setup (Placed at connected ∷ earlier) = calls_of setup earlier

-- calls that were restored, the oldest first, and the jobs cut from the confirmations of each
abbrev pub AreCutsOfRestored : List RestoredCall → List JobValue → Type 0
AreCutsOfRestored [] jobs = jobs ≡ []
AreCutsOfRestored (call ∷ calls) jobs = (own : List JobValue) × (later : List JobValue)
    × (jobs ≡ own ++ later) × IsCutOf call.number call.confirmed own × AreCutsOfRestored calls later

-- Calls that have ended, and the jobs that were closed, in their order: those of a call are cut from its confirmations alone.
-- The jobs of the calls that were restored are the first.
abbrev pub AreCutsOf : List RestoredCall → List (List Confirmation) → List JobValue → Type 0
AreCutsOf restored [] jobs = AreCutsOfRestored restored jobs
AreCutsOf restored (cs ∷ calls) jobs = (old : List JobValue) × (own : List JobValue)
    × (jobs ≡ old ++ own) × IsCutOf (length calls) cs own × AreCutsOf restored calls old

-- a call that is on is cut as far as it has come, after those that have ended
pub record IsCutWith (restored : List RestoredCall)
    (calls : List (List Confirmation)) (cs : List Confirmation) (past : Past) : Type 0 where
  pub old : List JobValue
  pub own : List JobValue
  pub jobs_are : jobs_of past ≡ old ++ own
  pub cut : IsCutSoFar (length calls) cs own past.book.open_job
  pub before : AreCutsOf restored calls old

abbrev pub IsBookOf : List RestoredCall → (on : Bool) → List (List Confirmation) → Past → Type 0
IsBookOf restored false calls past =
    AreCutsOf restored calls (jobs_of past) × (past.book.open_job ≡ None)
IsBookOf restored true [] past = ⊥
IsBookOf restored true (cs ∷ calls) past = IsCutWith restored calls cs past

-- So it is in every trace; the numbers are those that the rings were answered with, and of a restored call that which it came with.
abbrev pub JobsAreCut : Type 0
JobsAreCut = (setup : Setup) (writes : Writing) (trace : List Event) → IsTrace setup writes trace
    → IsBookOf setup.restored (not (idle_after (calling_leg setup trace)))
    (calls_of setup trace) (past_of (both_legs setup writes trace))
