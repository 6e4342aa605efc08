-- What a gateway is restored with after a crash: pages that an earlier life of it confirmed, and whose jobs had not ended. A call
-- that was on then ended there. (This project's profile.)
use Rattle.std.specs.Prelude.{ℕ, List, [], ◌∷◌, ◌++◌, map}
use Rattle.fax_pagestore.specs.Pages.{PageValue, IsPage}
use Rattle.fax_jobs.specs.Books.{Book, confirmed, closed}
use Rattle.fax_jobs.specs.Pasts.{Step, Confirms, CallEnds}
use Rattle.fax_jobs.specs.Cuts.{Confirmation}
use Rattle.fax_answer.specs.declared.step.Confirmed.{Confirmed}
use Rattle.fax_gateway.specs.declared.restored.RestoredCall as shown

-- a call by the number that its ring was answered with in its life, and those of its confirmations that were kept, in their order
pub record RestoredCall : Type 0 where
  pub number : ℕ
  pub confirmed : List Confirmation

-- what contracts see of restored calls
abbrev pub confirmation_shown : {S : Type 0} → Confirmed S → Confirmation
confirmation_shown c = record { page = c.page; closes = c.closes }

abbrev pub call_shown : {S : Type 0} → shown.RestoredCall S → RestoredCall
call_shown c = record { number = c.number; confirmed = map confirmation_shown c.confirmed.items }

-- their pages, in order, each with the number of its call
pub record CallPage : Type 0 where
  pub call : ℕ
  pub page : PageValue

abbrev pub pages_with : ℕ → List Confirmation → List CallPage
pages_with number [] = []
pages_with number (c ∷ cs) = record { call = number; page = c.page } ∷ pages_with number cs

abbrev pub pages_restored : List RestoredCall → List CallPage
pages_restored [] = []
pages_restored (call ∷ calls) = pages_with call.number call.confirmed ++ pages_restored calls

abbrev pub ArePages : List CallPage → Type 0
ArePages [] = Unit {0}
ArePages (p ∷ pages) = IsPage p.page × ArePages pages

-- The book hears of them after the steps so far (the newest first): the pages of each call are confirmed, and the call ends.
abbrev pub confirms_all : ℕ → List Confirmation → List Step → List Step
confirms_all number [] steps = steps
confirms_all number (c ∷ cs) steps =
    confirms_all number cs (Confirms number c.page c.closes ∷ steps)

abbrev pub restores : List RestoredCall → List Step → List Step
restores [] steps = steps
restores (call ∷ calls) steps =
    restores calls (CallEnds ∷ confirms_all call.number call.confirmed steps)

-- what that makes of a book
abbrev pub confirmed_all : Book → ℕ → List Confirmation → Book
confirmed_all book number [] = book
confirmed_all book number (c ∷ cs) = confirmed_all (confirmed book number c.page c.closes) number cs

abbrev pub restored_to : Book → List RestoredCall → Book
restored_to book [] = book
restored_to book (call ∷ calls) =
    restored_to (closed (confirmed_all book call.number call.confirmed)) calls
