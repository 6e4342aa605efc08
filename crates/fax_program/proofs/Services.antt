-- A run that did not begin.
use Rattle.std.proofs.Common.{◌≡◌, ◌≢◌, ◌∙◌, ◌<◌, ℕ, inl, inr, Option, Some, None, refl, sym}
use Rattle.fax_command.specs.declared.status.Status.{Status}
use Rattle.fax_command.specs.declared.status.Status.TheVariants as status
use Rattle.fax_config.specs.declared.config.Config.{Config}
use Rattle.fax_program.specs.Services.{EndsForFault, GoesBack, ServiceValue, WaitsForDisk, WasNotServed}
use Rattle.fax_program.specs.Statuses.{IsToldAs}

-- a status that tells a fault is not that of what was done
pub told_fault : (wanted ends : Status) → wanted ≢ status.Done → IsToldAs wanted ends → ends ≢ status.Done
told_fault wanted ends fault (inl is) = λ done. fault (sym is ∙ done)
told_fault wanted ends fault (inr is) = λ done. let no : status.Stream ≡ status.Done = sym is ∙ done in cc

pub told_usage : (ends : Status) → IsToldAs status.Usage ends → ends ≢ status.Done
told_usage ends told = told_fault status.Usage ends (λ done. let no : status.Usage ≡ status.Done = done in cc) told

pub fails_so : (old new : ServiceValue) (fault : Status) → new ≡ old → fault ≢ status.Done → WasNotServed old new (Some fault)
fails_so old new fault same is_fault = inr (inr (record { same = same; fault = fault; ended = refl; is_fault = is_fault }))

waited_with : (old new : ServiceValue) (ends : Status) → 0 < old.failures → new ≡ old → WasNotServed old new (Some ends)
waited_with old new status.Done failed same = inr (inl (record { has_failed = failed; same = same; ended = inr refl }))
waited_with old new status.Fault failed same = fails_so old new status.Fault same (λ done. let no : status.Fault ≡ status.Done = done in cc)
waited_with old new status.Usage failed same = fails_so old new status.Usage same (λ done. let no : status.Usage ≡ status.Done = done in cc)
waited_with old new status.NoMemory failed same = fails_so old new status.NoMemory same (λ done. let no : status.NoMemory ≡ status.Done = done in cc)
waited_with old new status.Stream failed same = fails_so old new status.Stream same (λ done. let no : status.Stream ≡ status.Done = done in cc)
waited_with old new status.Undelivered failed same = fails_so old new status.Undelivered same (λ done. let no : status.Undelivered ≡ status.Done = done in cc)

-- where the disk is waited for
pub waited : (old new : ServiceValue) (ends : Option Status) → 0 < old.failures → new ≡ old → WasNotServed old new ends
waited old new None failed same = inr (inl (record { has_failed = failed; same = same; ended = inl refl }))
waited old new (Some ends) failed same = waited_with old new ends failed same

-- where there is a configuration of before
pub gone_back : (old new : ServiceValue) (before : Config) → old.before ≡ Some before → new.config ≡ before → new.before ≡ None → new.failures ≡ old.failures → WasNotServed old new None
gone_back old new before was is none failures = inl (record { before = before; was = was; is = is; no_more = none; failures = failures; goes_on = refl })
