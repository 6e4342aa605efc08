-- A RUN OF A SERVICE, of which the process has one after the other. (This project's profile.)
use Rattle.std.specs.Prelude.{◌≡◌, ◌≢◌, ◌⊎◌, ℕ, ◌+◌, ◌-◌, ◌^◌, ◌<◌, min, Option, None, Some, is_some, option_map}
use Rattle.fax_command.specs.Statuses.{status_code}
use Rattle.fax_command.specs.declared.status.Status.{Status}
use Rattle.fax_command.specs.declared.status.Status.TheVariants as status
use Rattle.fax_config.specs.declared.config.Config.{Config}
use Rattle.fax_desk.specs.declared.spool.RunEnd.{RunEnd}
use Rattle.fax_desk.specs.declared.spool.RunEnd.TheVariants.{Stopped, SpoolFailed, Reload}
use Rattle.fax_program.specs.Statuses.{IsEndedBy}

-- the configuration that is served; the one before it, until a run has served this one; and how often the spool has failed
pub record ServiceValue : Type 0 where
  pub config : Config
  pub before : Option Config
  pub failures : ℕ

-- ---- a run was served

-- after it there is no way back to a configuration of before
abbrev pub served : ServiceValue → ServiceValue
served old = record { config = old.config; before = None; failures = old.failures }

-- The configuration is the same; or it was read again, and had no fault.
abbrev pub IsSameOrAnother : (old new : ServiceValue) → Type 0
IsSameOrAnother old new =
    ((new.config ≡ old.config) × (new.before ≡ None)) ⊎ (new.before ≡ Some old.config)

-- what is to be served next
abbrev pub IsNext : RunEnd → (old new : ServiceValue) → Type 0
IsNext Stopped old new = new ≡ served old
IsNext SpoolFailed old new =
    IsSameOrAnother old new × (new.failures ≡ min (old.failures + 1) (2 ^ 64 - 1))
IsNext Reload old new = IsSameOrAnother old new × (new.failures ≡ old.failures)

-- A RUN WAS SERVED, of the configuration of the service, and it ended.
pub record WasServed (IsRun : Config → Type 0) (old new : ServiceValue) (ends : Option Status) :
    Type 0 where
  pub ran : IsRun old.config
  pub end : RunEnd
  pub next : IsNext end old new
  pub ended : IsEndedBy end (is_some old.config.control) ends

-- ---- no run began, for a fault

-- that of a configuration that was read again: the one before it is served once more,
pub record GoesBack (old new : ServiceValue) (ends : Option Status) : Type 0 where
  pub before : Config
  pub was : old.before ≡ Some before
  pub is : new.config ≡ before
  pub no_more : new.before ≡ None
  pub failures : new.failures ≡ old.failures
  pub goes_on : ends ≡ None

-- that of a spool that has failed before: the same is tried again, but where the service is told to stop meanwhile,
pub record WaitsForDisk (old new : ServiceValue) (ends : Option Status) : Type 0 where
  pub has_failed : 0 < old.failures
  pub same : new ≡ old
  pub ended : (ends ≡ None) ⊎ (ends ≡ Some status.Done)

-- or any other one, with whose status the process ends.
pub record EndsForFault (old new : ServiceValue) (ends : Option Status) : Type 0 where
  pub same : new ≡ old
  pub fault : Status
  pub ended : ends ≡ Some fault
  pub is_fault : fault ≢ status.Done

abbrev pub WasNotServed : (old new : ServiceValue) → (ends : Option Status) → Type 0
WasNotServed old new ends =
    GoesBack old new ends ⊎ WaitsForDisk old new ends ⊎ EndsForFault old new ends

-- ---- both

abbrev pub IsServiceRun : (IsRun : Config → Type 0)
    → (old new : ServiceValue) → (ends : Option Status) → Type 0
IsServiceRun IsRun old new ends = WasServed IsRun old new ends ⊎ WasNotServed old new ends

-- A RUN OF A SERVICE is that of a server of its configuration, or none, for a fault; and the process ends with an exit status, or has
-- another run. So it ends with 0 only after a server was told to stop, or while the disk of its spool is waited for.
pub record RunsService (IsRun : Config → Type 0) (old new : ServiceValue) (code : Option ℕ) :
    Type 0 where
  pub ends : Option Status
  pub run : IsServiceRun IsRun old new ends
  pub code_is : code ≡ option_map status_code ends

-- a service begins without a failure, and without a configuration of before
abbrev pub IsNewService : ServiceValue → Type 0
IsNewService service = (service.before ≡ None) × (service.failures ≡ 0)
