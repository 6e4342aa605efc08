-- What a try begins with. (This project's profile.)
use Rattle.std.specs.Prelude.{◌≡◌, ◌⊎◌, ℕ, ◌&&◌, Bool, true, false, List, [], Option, Result, Ok, Err, drop, map}
use Rattle.std.specs.List.{list_all}
use Rattle.std.specs.Str.{is_utf8}
use Rattle.fax_desk.specs.declared.tag.Tag.{Tag}
use Rattle.fax_gateway.specs.Restored.{call_shown}
use Rattle.fax_line.specs.Actions.{BeginsWith, LineValue}
use Rattle.fax_queue.specs.Restorations.{MeansNone, Restores}
use Rattle.fax_queue.specs.declared.restored.RestoredLine.{RestoredLine}
use Rattle.fax_redial.specs.declared.fault.BeginFault.{BeginFault}
use Rattle.fax_redial.specs.declared.fault.BeginFault.TheVariants as faults
use Rattle.fax_redial.specs.declared.job.RetryJob.{RetryJob}
use Rattle.fax_spool.specs.RecordOctets.{PageValue}
use Rattle.fax_spool.specs.Torn.{is_of}
use Rattle.fax_undelivered.specs.Calls.{CallValue, name_of, number_of}
use Rattle.fax_undelivered.specs.Dropped.{IsIn}

-- A TRY SENDS WHAT WAITS OF ITS JOB, from the first page on that was not delivered: its line is restored with all of these pages, and with
-- nothing else, but for so many that were delivered by tries before; none is set aside.
pub record BeginsWithLeft (name : List ℕ)
    (pages : List PageValue) (delivered : ℕ) (line : LineValue) : Type 0 where
  pub restored : RestoredLine
  pub restores : Restores name (drop delivered pages) restored
  pub none_aside : restored.queue.aside ≡ []
  pub begins : BeginsWith (map call_shown restored.calls.items) line

-- THE NUMBERS OF A TRY are those of the pages of its call that waited as it began: of those that its line was restored with, and before them
-- of those that tries delivered.
pub record HasPages (job : RetryJob) (line : LineValue) : Type 0 where
  pub pages : List PageValue
  pub own : list_all (λ page. is_of page job.name) pages ≡ true
  pub delivered : ℕ
  pub begins : BeginsWithLeft job.name.line pages delivered line
  pub numbers : job.numbers.items ≡ map number_of pages

-- a try that may begin
pub record RestoredValue : Type 0 where
  pub line : LineValue
  pub job : RetryJob

-- ---- the try of a call of which these pages wait

pub record IsJobOf (call : CallValue) (tag : Option Tag) (pages : List PageValue) (job : RetryJob) :
    Type 0 where
  pub name : job.name ≡ name_of call
  pub tag_is : job.tag ≡ tag
  pub tries : job.tries ≡ call.card.tries
  pub numbers : job.numbers.items ≡ map number_of pages

pub record IsTryOf (call : CallValue)
    (tag : Option Tag) (pages : List PageValue) (restored : RestoredValue) : Type 0 where
  pub job : IsJobOf call tag pages restored.job
  pub begins : BeginsWithLeft call.line pages call.card.delivered restored.line

-- The name of its line is text, and no page is of another call.
abbrev pub may_restore : CallValue → List PageValue → Bool
may_restore call pages = is_utf8 call.line && list_all (λ page. is_of page (name_of call)) pages

-- the text of one of these pages means none
abbrev pub LacksOne : List PageValue → Type 0
LacksOne pages = (page : PageValue) × IsIn page pages × MeansNone page

-- why no line is restored with these pages
abbrev pub IsFaultOf : (left : List PageValue) → BeginFault → Type 0
IsFaultOf left fault = (fault ≡ faults.NoMemory) ⊎ ((fault ≡ faults.NoPage) × LacksOne left)

-- Else there is no try; nor where it would lack one of the pages that are left, or for want of memory.
abbrev pub RestoresUnless : {T : Type 0}
    → (may : Bool) → (left : List PageValue) → Result T BeginFault → Type 0
RestoresUnless may left (Ok restored) = may ≡ true
RestoresUnless true left (Err fault) = IsFaultOf left fault
RestoresUnless false left (Err fault) = fault ≡ faults.NoPage
