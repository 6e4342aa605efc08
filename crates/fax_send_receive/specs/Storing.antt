-- THE FILES OF A RUN OF `faxgate receive`: which pages stand in them, and under which names. Lists of files and of pages have the
-- newest first. (This project's profile.)
use Rattle.std.specs.Prelude.{◌≡◌, ℕ, zero, suc, ◌+◌, ◌≤◌, ◌⊎◌, Bool, true, false, List, [], ◌∷◌, ◌++◌, length, Option, Some, Result, Ok, Err, IfSome}
use Rattle.fax_pagestore.specs.Pages.{PageValue}
use Rattle.fax_answer.specs.declared.state.State.TheVariants as answerer_state
use Rattle.fax_answer.specs.Calls as answering
use Rattle.fax_answer.specs.Confirmation.{AreRead}
use Rattle.fax_answer.specs.Sent.{pages_confirmed}
use Rattle.fax_terminal.specs.Calls.{rung_at}
use Rattle.fax_send_receive.specs.declared.receiving.ReceiveOptions.{ReceiveOptions}
use Rattle.fax_send_receive.specs.declared.run_fault.RunFault.{RunFault}
use Rattle.fax_send_receive.specs.Faults.{IsStoreFault}
use Rattle.fax_send_receive.specs.Folders.{FileValue}
use Rattle.fax_send_receive.specs.Naming.{HoldPage, Naming, name_of_page, naming_of}

-- ---- the file of a page

-- A file is that of a page: it has the name of the page's number in its call, and all its octets are a picture of the page, or a
-- TIFF of it.
pub record IsFileOfPage (naming : Naming) (call number : ℕ) (page : PageValue) (file : FileValue) :
    Type 0 where
  pub named : file.name ≡ name_of_page naming call number
  pub holds : HoldPage naming.form file.octets page

-- where files are known, they are now one more, which is that of this page
abbrev pub IsPageAdded : (naming : Naming)
    → (call number : ℕ) → PageValue → (before after : Option (List FileValue)) → Type 0
IsPageAdded naming call number page before after = IfSome before (λ files. (file : FileValue)
    × IsFileOfPage naming call number page file × (after ≡ Some (file ∷ files)))

-- ---- what keeps pages in files

-- how the files of the call are named and what stands in them, which call it is, how many pages of it were given, and the files that
-- were made
pub record FilingValue : Type 0 where
  pub naming : Naming
  pub call : ℕ
  pub pages : ℕ
  pub made : Option (List FileValue)

-- a call begins, with a number that is not below that of the call before
pub record BeginsCall (naming : Naming) (old new : FilingValue) : Type 0 where
  pub same_naming : new.naming ≡ naming
  pub later : old.call ≤ new.call
  pub no_pages : new.pages ≡ 0
  pub same_files : new.made ≡ old.made

-- A PAGE IS KEPT ONLY WHERE ITS FILE WAS WRITTEN WHOLE: one more file was made, and it is that of the page, by its number in the
-- call. Where the page is not stored, no file was made whole.
pub record StoresPage (page : PageValue) (is_stored : Bool) (old new : FilingValue) : Type 0 where
  pub same_naming : new.naming ≡ old.naming
  pub same_call : new.call ≡ old.call
  pub counted : is_stored ≡ true → new.pages ≡ old.pages + 1
  pub kept : is_stored ≡ true
      → IsPageAdded old.naming old.call (old.pages + 1) page old.made new.made
  pub unkept : is_stored ≡ false → new.made ≡ old.made

-- ---- the files of a call, and of a run

-- PAGE i OF A CALL IS IN FILE i, and there is no other file.
abbrev pub AreFilesOf : (naming : Naming) → (call : ℕ) → List PageValue → List FileValue → Type 0
AreFilesOf naming call [] [] = Unit {0}
AreFilesOf naming call [] (file ∷ files) = ⊥
AreFilesOf naming call (page ∷ pages) [] = ⊥
AreFilesOf naming call (page ∷ pages) (file ∷ files) =
    IsFileOfPage naming call (length pages + 1) page file × AreFilesOf naming call pages files

-- of the pages that were given one by one, those that were kept: all, or all but the last
abbrev pub pages_stored : (all_stored : Bool) → List PageValue → List PageValue
pages_stored true pages = pages
pages_stored false [] = []
pages_stored false (page ∷ pages) = pages

-- The files of a call: its pages are those that the ticks of an answerer confirmed in it, in their order, after some events
-- of the call, each image of it rightly read.
pub record HasCall (naming : Naming) (pause : ℕ) (all_stored : Bool) (files : List FileValue) :
    Type 0 where
  pub call : ℕ
  pub start : ℕ
  pub events : List answering.CallEvent
  pub right : AreRead (rung_at pause start) events
  pub files_are : AreFilesOf naming
      call (pages_stored all_stored (pages_confirmed (rung_at pause start) events)) files

-- the same, of a call that is over
pub record HasWholeCall (naming : Naming) (pause : ℕ) (files : List FileValue) : Type 0 where
  pub has : HasCall naming pause true files
  pub over :
      (answering.after_events (rung_at pause has.start) has.events).state ≡ answerer_state.Idle

-- so many calls, one after another, each of which is over
abbrev pub HasCalls : (naming : Naming) → (pause : ℕ) → (calls : ℕ) → List FileValue → Type 0
HasCalls naming pause zero files = files ≡ []
HasCalls naming pause (suc calls) files = (newer older : List FileValue)
    × (files ≡ newer ++ older) × HasWholeCall naming pause newer × HasCalls naming pause calls older

-- The last call broke off: all the pages that it confirmed were kept, or the fault is that the last of them was not.
pub record BreaksOff (naming : Naming) (pause : ℕ) (fault : RunFault) (files : List FileValue) :
    Type 0 where
  pub all_stored : Bool
  pub has : HasCall naming pause all_stored files
  pub told : all_stored ≡ false → IsStoreFault naming fault

-- so many calls that are over, and after them none, or one that broke off
pub record HasBroken (naming : Naming) (pause : ℕ) (fault : RunFault) (files : List FileValue) :
    Type 0 where
  pub calls : ℕ
  pub newer : List FileValue
  pub older : List FileValue
  pub split : files ≡ newer ++ older
  pub whole : HasCalls naming pause calls older
  pub last : (newer ≡ []) ⊎ BreaksOff naming pause fault newer

-- WHAT A RUN OF `faxgate receive` MADE: where it comes to its end, the files of as many calls as it was to answer; where it does not,
-- those of some, of which the last may have broken off.
abbrev pub HasRun : {A : Type 0} → ReceiveOptions → Result A RunFault → List FileValue → Type 0
HasRun options (Ok done) files =
    HasCalls (naming_of options.naming) options.settings.preamble_ms options.calls files
HasRun options (Err fault) files =
    HasBroken (naming_of options.naming) options.settings.preamble_ms fault files

-- where files are known, there are more of them now, which are so
abbrev pub AddsFiles : (List FileValue → Type 0) → (before after : Option (List FileValue)) → Type 0
AddsFiles AreSo before after = IfSome before
    (λ older. (newer : List FileValue) × (after ≡ Some (newer ++ older)) × AreSo newer)
