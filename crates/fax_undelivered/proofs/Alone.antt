-- Jobs of lines end, one after the other.
use Rattle.std.proofs.Common.{◌≡◌, ◌+◌, ◌∙◌, ℕ, Bool, true, false, ◌&&◌, nat_eq, nat_le, nat_lt, bytes_eq, List, [], ◌∷◌, ◌++◌, Option, refl, sym, subst, arith, ◌<◌, ◌≤◌, inl, inr}
use Rattle.std.proofs.lemmas.Bool.Decides.{nat_tests}
use Rattle.fax_runcodes.specs.declared.Width.TheVariants.{W1728}
use Rattle.fax_jobs.specs.declared.outcome.Outcome.TheVariants.{Delivered}
use Rattle.fax_jobs.specs.declared.report.Report.{Report}
use Rattle.fax_line.specs.declared.settling.LineReport.{LineReport}
use Rattle.fax_spool.specs.RecordOctets.{EndedValue, PageValue}
use Rattle.fax_spool.specs.Waits.{PageName, ends, name_of, without, without_all}
use Rattle.fax_spool.specs.declared.spool.Spool.{Spool}
use Rattle.fax_queue.specs.Jobs.{WaitSo}
use Rattle.fax_queue.specs.Queues.{QueueValue}
use Rattle.fax_queue.specs.SpoolStorage.{EndAlone, EndsJobs}
use Rattle.fax_undelivered.specs.Cards.{CardValue}
use Rattle.fax_undelivered.specs.Dropped.{Befell, Ends, EndsAtOnceAreEvents, Event, Pairs, delivered_ends}
use Rattle.fax_undelivered.specs.StoredEnds.{EndStoredAlone, EndsAllStored, EndsStored}
use Rattle.fax_undelivered.specs.declared.undelivered.Undelivered.{Undelivered}

-- what stands where a list has none
abbrev pub no_report : LineReport
no_report = record { line = 0; report = record { call = 0; format = record { width = W1728; fine = false }; pages = 0; delivered = 0; outcome = Delivered } }

module _
    {D U : Type 0} (seen : D → List ℕ) (may_leave : D → List ℕ → Type 0) (is_usable is_clean : D → Bool) (seen_too : U → List ℕ) (may_leave_too : U → List ℕ → Type 0) (is_usable_too : U → Bool) (cards : ℕ → Report → CardValue) where
  pub alone_more : (jobs : List LineReport) (one : LineReport) (olds mids news : List QueueValue) (before between after : Spool D) (old mid new : Option (Undelivered U))
      → EndStoredAlone seen may_leave is_usable is_clean seen_too may_leave_too is_usable_too cards jobs olds mids before between old mid
      → EndsStored seen may_leave is_usable is_clean seen_too may_leave_too is_usable_too one.line one.report (cards one.line one.report) mids news between after mid new
      → EndStoredAlone seen may_leave is_usable is_clean seen_too may_leave_too is_usable_too cards (jobs ++ one ∷ []) olds news before after old new
  alone_more [] one olds mids news before between after old mid new was ends = (
    news,
    after,
    new,
    subst (λ (q : List QueueValue). EndsStored seen may_leave is_usable is_clean seen_too may_leave_too is_usable_too one.line one.report (cards one.line one.report) q news before after old new) was.0
        (subst (λ (s : Spool D). EndsStored seen may_leave is_usable is_clean seen_too may_leave_too is_usable_too one.line one.report (cards one.line one.report) mids news s after old new) was.1
        (subst (λ (u : Option (Undelivered U)). EndsStored seen may_leave is_usable is_clean seen_too may_leave_too is_usable_too one.line one.report (cards one.line one.report) mids news between after u new) was.2 ends)),
    (refl, refl, refl),
  )
  alone_more (j ∷ jobs) one olds mids news before between after old mid new was ends =
      (was.0, was.1, was.2, was.3, alone_more jobs one was.0 mids news was.1 between after was.2 mid new was.4 ends)

  -- as a run sees them
  alone_ends : (jobs : List LineReport) (olds news : List QueueValue) (before after : Spool D) (old new : Option (Undelivered U))
      → EndStoredAlone seen may_leave is_usable is_clean seen_too may_leave_too is_usable_too cards jobs olds news before after old new → EndAlone seen may_leave is_usable jobs olds news before after
  alone_ends [] olds news before after old new is = (is.0, is.1)
  alone_ends (one ∷ jobs) olds news before after old new is = (is.0, is.1, is.3.ends, alone_ends jobs is.0 news is.1 after is.2 new is.4)

  pub stored_ends : (jobs : List LineReport) (olds news : List QueueValue) (before after : Spool D) (old new : Option (Undelivered U))
      → EndsAllStored seen may_leave is_usable is_clean seen_too may_leave_too is_usable_too cards jobs olds news before after old new → EndsJobs seen may_leave is_usable jobs olds news before after
  stored_ends jobs olds news before after old new (inl is) = inl is.2
  stored_ends jobs olds news before after old new (inr is) = inr (alone_ends jobs olds news before after old new is)

-- ---- many at once

none_named : (e : EndedValue) (name : PageName) → ends (record e { pages = 0 }) name ≡ false
none_named e name = grind (arith, nat_tests)

told_so : {D : Type 0} (seen : D → List ℕ) (may_leave : D → List ℕ → Type 0) (is_usable : D → Bool) (now : Spool D) (P Q : List PageValue → Type 0) → ((told : List PageValue) → P told → Q told)
    → WaitSo seen may_leave is_usable now P → WaitSo seen may_leave is_usable now Q
told_so seen may_leave is_usable now P Q f (inl is) = inl (is.0, is.1, f is.0 is.2)
told_so seen may_leave is_usable now P Q f (inr is) = inr (is.0, λ older newer left. let it = is.1 older newer left in (it.0, it.1, f it.0 it.2))

befell_ends : (kept : List EndedValue) (begun : Pairs) (events : List Event) (waits second : List PageValue) → Befell begun events (record { first = waits; second = second })
    → Befell begun (delivered_ends kept events) (record { first = without_all kept waits; second = second })
befell_ends [] begun events waits second was = was
befell_ends (e ∷ kept) begun events waits second was =
    befell_ends kept begun (Ends e (record e { pages = 0 }) ∷ events) (without e waits) second
    (record { first = waits; second = second }, was, (refl, refl, λ page is ended. inl (none_named e (name_of page))))

pub ends_at_once : {D : Type 0} (seen : D → List ℕ) (may_leave : D → List ℕ → Type 0) (is_usable : D → Bool) → EndsAtOnceAreEvents seen may_leave is_usable
ends_at_once seen may_leave is_usable jobs olds news before after waits kept e ok was =
    told_so seen may_leave is_usable after (λ told. told ≡ without_all e.kept waits) (λ told. Befell (record { first = waits; second = kept }) (delivered_ends e.kept []) (record { first = told; second = kept }))
    (λ told same. subst (λ (l : List PageValue). Befell (record { first = waits; second = kept }) (delivered_ends e.kept []) (record { first = l; second = kept })) (sym same)
    (befell_ends e.kept (record { first = waits; second = kept }) [] waits kept refl)) (e.wait ok waits was)
