-- CALLS THAT ARE ASKED FOR: where a gateway asks, each job's call begins where it is placed, and nowhere else. (This project's
-- profile.)
use Rattle.std.specs.Prelude.{◌≡◌, ℕ, Bool, true, false, List, [], ◌∷◌, ◌++◌, Option, Some, None}
use Rattle.fax_jobs.specs.declared.outcome.Outcome.TheVariants.{NotPlaced}
use Rattle.fax_jobs.specs.Jobs.{JobValue}
use Rattle.fax_jobs.specs.Books.{report_of}
use Rattle.fax_call.specs.Writings.{Writing}
use Rattle.fax_gateway.specs.Setups.{Setup}
use Rattle.fax_gateway.specs.Events.{Event, Ring, FromCalling, FromCalled, Tick, Placed, Given, clock}
use Rattle.fax_gateway.specs.CalledLegs.{CalledLeg}
use Rattle.fax_gateway.specs.BothLegs.{book_of, both_legs, job_asked}
use Rattle.fax_gateway.specs.Traces.{IsTrace}

-- the job whose call is asked for after a trace
abbrev pub asked_after : Setup → Writing → List Event → Option JobValue
asked_after setup writes trace = job_asked setup.asks (book_of (both_legs setup writes trace))

-- no call is placed
abbrev pub PlacesNone : List Event → Type 0
PlacesNone [] = Unit {0}
PlacesNone (Ring at number ∷ earlier) = PlacesNone earlier
PlacesNone (FromCalling octets at decided read ∷ earlier) = PlacesNone earlier
PlacesNone (FromCalled octets at decided ∷ earlier) = PlacesNone earlier
PlacesNone (Tick at given ∷ earlier) = PlacesNone earlier
PlacesNone (Placed at connected ∷ earlier) = ⊥

-- The call of this leg was placed, or not, at the last such event: there its job was asked for, and there it began.
pub record WasPlaced (setup : Setup) (writes : Writing) (trace : List Event) (l : CalledLeg) :
    Type 0 where
  pub later : List Event
  pub at : ℕ
  pub earlier : List Event
  pub split : trace ≡ later ++ Placed at l.placed ∷ earlier
  pub none_later : PlacesNone later
  pub asked : asked_after setup writes earlier ≡ Some l.job
  pub begun : l.begun ≡ clock (Placed at l.placed ∷ earlier)

-- EACH CALL BEGINS AT ITS OWN PLACING.
abbrev pub CallsBeginWherePlaced : Type 0
CallsBeginWherePlaced = (setup : Setup) (writes : Writing) (trace : List Event) (l : CalledLeg)
    → setup.asks ≡ true → IsTrace setup writes trace
    → (both_legs setup writes trace).leg ≡ Some l → WasPlaced setup writes trace l

-- NO DATAGRAM LEAVES on the called leg but in a call that was placed and has not ended: none between the end of a job and the
-- placing of the next.
pub record GivesInCall (setup : Setup) (writes : Writing) (earlier : List Event) : Type 0 where
  pub l : CalledLeg
  pub is_leg : (both_legs setup writes earlier).leg ≡ Some l
  pub placed : l.placed ≡ true
  pub not_ended : l.entered ≡ false

abbrev pub GivesInPlacedCalls : Type 0
GivesInPlacedCalls = (setup : Setup)
    (writes : Writing) (earlier : List Event) (at : ℕ) (given : Given) (datagram : List ℕ)
    → setup.asks ≡ true → IsTrace setup writes (Tick at given ∷ earlier)
    → given.on_called ≡ Some datagram → GivesInCall setup writes earlier

-- A JOB THAT IS ASKED FOR STAYS THE NEXT ONE until it is placed or not, whatever else comes.
abbrev pub AskedJobsStay : Type 0
AskedJobsStay =
    (setup : Setup) (writes : Writing) (event : Event) (earlier : List Event) (job : JobValue)
    → PlacesNone (event ∷ [])
    → IsTrace setup writes (event ∷ earlier) → asked_after setup writes earlier ≡ Some job
    → asked_after setup writes (event ∷ earlier) ≡ Some job

-- A JOB THAT COULD NOT BE PLACED IS TOLD AS SUCH, with no page delivered, by the next tick.
abbrev pub UnplacedJobsAreTold : Type 0
UnplacedJobsAreTold = (setup : Setup) (writes : Writing) (earlier : List Event)
    (at : ℕ) (given : Given) (l : CalledLeg) → IsTrace setup writes (Tick at given ∷ earlier)
    → (both_legs setup writes earlier).leg ≡ Some l → l.placed ≡ false → l.entered ≡ false
    → (given.report ≡ Some (report_of l.job NotPlaced 0)) × (given.on_called ≡ None)
