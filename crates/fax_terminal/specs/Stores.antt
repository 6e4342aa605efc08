-- What keeps the pages that a terminal confirms. (This project's profile.) Lists have the newest first.
use Rattle.std.specs.Prelude.{◌≡◌, Bool, true, false, List, [], ◌∷◌, Option, Some, None, Result, Ok, Err}
use Rattle.fax_pagestore.specs.Pages.{PageValue}
use Rattle.fax_answer.specs.declared.step.Confirmed.{Confirmed}
use Rattle.fax_terminal.specs.declared.fault.TerminalFault.{TerminalFault}
use Rattle.fax_terminal.specs.declared.fault.TerminalFault.TheVariants as faults

-- WHAT IS MADE OF A STORE by pages that it was given one by one, each told with the newest first: it kept all of them; or, where
-- it did not, all but the last, after which it was given no other.
abbrev pub AreGiven : {K : Type 0} → (keeps : PageValue → Bool → K → K → Type 0)
    → (all_stored : Bool) → List PageValue → (old new : K) → Type 0
AreGiven keeps true [] old new = new ≡ old
AreGiven keeps false [] old new = ⊥
AreGiven {K} keeps all_stored (page ∷ pages) old new =
    (between : K) × AreGiven keeps true pages old between × keeps page all_stored between new

-- all pages were stored that were confirmed, or it goes no further since one was not
abbrev pub stored_all : {A : Type 0} → Result A TerminalFault → Bool
stored_all (Ok answer) = true
stored_all (Err faults.NoMemory) = true
stored_all (Err faults.Clock) = true
stored_all (Err faults.Storing) = false

-- the page that a tick confirmed, where it did
abbrev pub page_in : {S : Type 0} → Option (Confirmed S) → Option PageValue
page_in None = None
page_in (Some confirmed) = Some confirmed.page

abbrev pub pages_of : Option PageValue → List PageValue
pages_of None = []
pages_of (Some page) = page ∷ []
