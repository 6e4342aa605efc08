-- No job that failed ends before its pages are kept elsewhere. (This project's profile.)
use Rattle.std.specs.Prelude.{◌≡◌, ◌⊎◌, ℕ, Bool, true, false, List, [], ◌∷◌, ◌++◌, Option, Some, None, length, min, take, slice_get, nat_eq, if◌then◌else◌}
use Rattle.std.specs.List.{list_all}
use Rattle.fax_jobs.specs.declared.outcome.Outcome.{Outcome}
use Rattle.fax_jobs.specs.declared.outcome.Outcome.TheVariants.{Delivered}
use Rattle.fax_jobs.specs.declared.report.Report.{Report}
use Rattle.fax_line.specs.declared.settling.LineReport.{LineReport}
use Rattle.fax_spool.specs.RecordOctets.{PageValue}
use Rattle.fax_spool.specs.Calls.{Does, IsRead, Puts}
use Rattle.fax_spool.specs.declared.spool.Spool.{Spool}
use Rattle.fax_queue.specs.Jobs.{ReadsLeft}
use Rattle.fax_queue.specs.Queues.{QueueValue}
use Rattle.fax_queue.specs.SpoolStorage.{EndsJobIf}
use Rattle.fax_queue.specs.Together.{EndsTogether}
use Rattle.fax_undelivered.specs.Cards.{CardValue}
use Rattle.fax_undelivered.specs.Calls.{with_its_card}
use Rattle.fax_undelivered.specs.Keeps.{Keeps}
use Rattle.fax_undelivered.specs.declared.undelivered.Undelivered.{Undelivered}

-- why a job of a line ended, as it was set last: no octets where it was not
pub record CauseValue : Type 0 where
  pub line : ℕ
  pub cause : List ℕ

abbrev pub cause_of : List CauseValue → ℕ → List ℕ
cause_of [] line = []
cause_of (c ∷ causes) line = if nat_eq c.line line then c.cause else cause_of causes line

-- the first 64 octets of a cause
abbrev pub short_cause : List ℕ → List ℕ
short_cause cause = take (min (length cause) 64) cause

-- the cause of a line's job is noted after the others, or memory for that was refused
abbrev pub NotesCause : ℕ → List ℕ → List CauseValue → List CauseValue → Type 0
NotesCause line cause olds news =
    (news ≡ olds ++ record { line = line; cause = short_cause cause } ∷ []) ⊎ (news ≡ olds)

-- the card of a job that ended with this report
abbrev pub card_for : Report → (cause : List ℕ) → (at : ℕ) → CardValue
card_for report cause at =
    record { outcome = report.outcome; cause = cause; tries = 1; at = at; delivered = 0 }

-- Pages were put into the second pair, with a card, all of them at once: at an `Ok` they wait there; else each crash leaves them there or not.
pub record PutsPages {U : Type 0} (seen : U → List ℕ)
    (may_leave : U → List ℕ → Type 0) (is_usable : U → Bool) (pages : List PageValue)
    (card : CardValue) (is_ok : Bool) (old new : Undelivered U) : Type 0 where
  pub kept : is_ok ≡ true → (waits : List PageValue) → Keeps seen may_leave is_usable old waits
      → Keeps seen may_leave is_usable new (waits ++ with_its_card pages card)
  pub does :
      Does seen may_leave is_usable (Puts (with_its_card pages card)) is_ok old.spool new.spool
  pub same : is_ok ≡ false → new.calls.items ≡ old.calls.items

-- where there are none, nothing is put
abbrev pub PutsIf : {U : Type 0} → (U → List ℕ) → (U → List ℕ → Type 0)
    → (U → Bool) → List PageValue → CardValue → Bool → Undelivered U → Undelivered U → Type 0
PutsIf seen may_leave is_usable [] card is_ok old new = (is_ok ≡ true) × (new ≡ old)
PutsIf seen may_leave is_usable (page ∷ pages) card is_ok old new =
    PutsPages seen may_leave is_usable (page ∷ pages) card is_ok old new

-- THE PAGES OF A JOB THAT FAILED ARE KEPT: those that were not delivered were read from the first pair, and put into the second.
pub record KeepsLeft {D U : Type 0} (seen : D → List ℕ) (may_leave : D → List ℕ → Type 0) (is_usable is_clean : D → Bool) (seen_too : U → List ℕ) (may_leave_too : U → List ℕ → Type 0) (is_usable_too : U → Bool)
    (line : ℕ) (report : Report) (card : CardValue) (queues : List QueueValue) (before read : Spool D) (is_ok : Bool) (old new : Undelivered U) : Type 0 where
  pub queue : QueueValue
  pub was : slice_get queues line ≡ Some queue
  pub pages : List PageValue
  pub left : ReadsLeft seen may_leave is_usable is_clean report.pages report.delivered queue before read pages
  pub put : PutsIf seen_too may_leave_too is_usable_too pages card is_ok old new

-- What comes before the end of a job may be noted, where there is a second pair: nothing where it was delivered; else its pages are kept, and
-- it may be where that was Ok. Where they could not be read nothing is done, and it may not.
abbrev pub MayEndWith : {D U : Type 0}
    → (D → List ℕ) → (D → List ℕ → Type 0) → (is_usable is_clean : D → Bool)
    → (U → List ℕ) → (U → List ℕ → Type 0) → (U → Bool) → (line : ℕ) → Report → CardValue
    → List QueueValue → (before read : Spool D) → (may : Bool) → (old new : Undelivered U) → Type 0
MayEndWith seen may_leave is_usable is_clean seen_too may_leave_too is_usable_too line report card
    queues before read may old new = ((report.outcome ≡ Delivered) × (may ≡ true) × (new ≡ old))
    ⊎ ((may ≡ false) × (new ≡ old)) ⊎ KeepsLeft seen may_leave is_usable
    is_clean seen_too may_leave_too is_usable_too line report card queues before read may old new

-- and where there may be none
abbrev pub MayEnd : {D U : Type 0}
    → (D → List ℕ) → (D → List ℕ → Type 0) → (is_usable is_clean : D → Bool) → (U → List ℕ)
    → (U → List ℕ → Type 0) → (U → Bool) → (line : ℕ) → Report → CardValue → List QueueValue
    → (before read : Spool D) → (may : Bool) → (old new : Option (Undelivered U)) → Type 0
MayEnd seen may_leave is_usable is_clean seen_too may_leave_too
    is_usable_too line report card queues before read may None new = (may ≡ true) × (new ≡ None)
MayEnd {D} {U} seen may_leave is_usable is_clean
    seen_too may_leave_too is_usable_too line report card queues before read may (Some old) new =
    (now : Undelivered U) × (new ≡ Some now) × MayEndWith seen may_leave is_usable
    is_clean seen_too may_leave_too is_usable_too line report card queues before read may old now

-- The end of a job is noted or not (`EndsJobIf`), and only where it may be: else nothing is written.
pub record EndsWhere {D : Type 0} (seen : D → List ℕ)
    (may_leave : D → List ℕ → Type 0) (is_usable : D → Bool) (may : Bool) (line : ℕ)
    (report : Report) (olds news : List QueueValue) (before after : Spool D) : Type 0 where
  pub ends : EndsJobIf seen may_leave is_usable line report olds news before after
  pub owed : may ≡ false → (ends.noted ≡ false) × (after ≡ before)

-- A JOB THAT FAILED ENDS ONLY WHERE ITS PAGES ARE KEPT: what a run makes of the end of a job of a line (`EndsJobIf`), before which the pages
-- that were not delivered were put into the second pair; where that was no Ok nothing is written into the first, and the job is owed.
pub record EndsStored {D U : Type 0} (seen : D → List ℕ) (may_leave : D → List ℕ → Type 0) (is_usable is_clean : D → Bool) (seen_too : U → List ℕ) (may_leave_too : U → List ℕ → Type 0) (is_usable_too : U → Bool)
    (line : ℕ) (report : Report) (card : CardValue) (olds news : List QueueValue) (before after : Spool D) (old new : Option (Undelivered U)) : Type 0 where
  pub ends : EndsJobIf seen may_leave is_usable line report olds news before after
  pub read : Spool D
  pub is_read : IsRead seen may_leave is_usable before read
  pub may : Bool
  pub first : MayEnd seen may_leave is_usable is_clean seen_too may_leave_too is_usable_too line report card olds before read may old new
  pub owed : may ≡ false → (ends.noted ≡ false) × (after ≡ read)

-- ---- the jobs of many lines

abbrev pub is_delivered : Outcome → Bool
is_delivered Delivered = true
is_delivered other = false

-- whether each of these was
abbrev pub are_delivered : List LineReport → Bool
are_delivered jobs = list_all (λ one. is_delivered one.report.outcome) jobs

-- Jobs ended so, one after the other, of which these are the cards.
abbrev pub EndStoredAlone : {D U : Type 0} → (D → List ℕ) → (D → List ℕ → Type 0)
    → (is_usable is_clean : D → Bool) → (U → List ℕ) → (U → List ℕ → Type 0) → (U → Bool)
    → (ℕ → Report → CardValue) → List LineReport → List QueueValue → List QueueValue
    → Spool D → Spool D → Option (Undelivered U) → Option (Undelivered U) → Type 0
EndStoredAlone seen may_leave is_usable is_clean seen_too may_leave_too is_usable_too
    card_of [] olds news before after old new = (news ≡ olds) × (after ≡ before) × (new ≡ old)
EndStoredAlone {D} {U} seen may_leave is_usable is_clean seen_too may_leave_too is_usable_too
    card_of (one ∷ others) olds news before after old new = (mids : List QueueValue)
    × (between : Spool D) × (mid : Option (Undelivered U))
    × EndsStored seen may_leave is_usable is_clean seen_too may_leave_too is_usable_too one.line
    one.report (card_of one.line one.report) olds mids before between old mid
    × EndStoredAlone seen may_leave is_usable is_clean seen_too may_leave_too is_usable_too
    card_of others mids news between after mid new

-- JOBS OF LINES ENDED: all of them at once, where each was delivered, which leaves the second pair alone; or one after the other.
abbrev pub EndsAllStored : {D U : Type 0} → (D → List ℕ) → (D → List ℕ → Type 0)
    → (is_usable is_clean : D → Bool) → (U → List ℕ) → (U → List ℕ → Type 0) → (U → Bool)
    → (ℕ → Report → CardValue) → List LineReport → List QueueValue → List QueueValue
    → Spool D → Spool D → Option (Undelivered U) → Option (Undelivered U) → Type 0
EndsAllStored seen may_leave is_usable is_clean seen_too may_leave_too is_usable_too
    card_of jobs olds news before after old new = ((are_delivered jobs ≡ true) × (new ≡ old)
    × EndsTogether seen may_leave is_usable jobs olds news before after)
    ⊎ EndStoredAlone seen may_leave is_usable is_clean seen_too may_leave_too is_usable_too
    card_of jobs olds news before after old new
