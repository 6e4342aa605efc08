-- The end of a try that was delivered, as it is noted, among the events of which `NothingIsDropped` speaks. (This project's profile.)
use Rattle.std.specs.Prelude.{◌≡◌, ◌⊎◌, ℕ, Bool, true, List, [], ◌∷◌, Option, Some, map, take}
use Rattle.fax_jobs.specs.declared.outcome.Outcome.TheVariants.{Delivered}
use Rattle.fax_redial.specs.Befalls.{Befall, Befell, Ended, Tries}
use Rattle.fax_redial.specs.Begun.{HasPages}
use Rattle.fax_redial.specs.Laws.{AreIdle, Beginning, begun_on}
use Rattle.fax_redial.specs.Noting.{NotesDelivered}
use Rattle.fax_redial.specs.declared.job.RetryEnd.{RetryEnd}
use Rattle.fax_spool.specs.RecordOctets.{PageValue}
use Rattle.fax_spool.specs.Torn.{CallName}
use Rattle.fax_undelivered.specs.Calls.{is_among, number_of, pages_named}
use Rattle.fax_undelivered.specs.Cards.{CardValue, card_page}
use Rattle.fax_undelivered.specs.Dropped.{Arrives, Comes, Event, Goes, IsIn, Rests}
use Rattle.fax_undelivered.specs.Keeps.{Keeps, KeepsStill}
use Rattle.fax_undelivered.specs.declared.undelivered.Undelivered.{Undelivered}

-- a card comes that counts none as delivered but pages of these numbers: so the next try leaves out no other one
pub record IsCounted (name : CallName) (numbers : List ℕ) (waits : List PageValue) (event : Event) :
    Type 0 where
  pub tag : List ℕ
  pub card : CardValue
  pub event_is : event ≡ Comes (card_page name tag card ∷ []) true
  pub counts : (page : PageValue) → IsIn page (take card.delivered (pages_named name waits))
      → is_among page.number numbers ≡ true

-- where these pages and cards wait, that is an event: the pages of these numbers arrive, or that is counted, or its call is not there
pub record IsNotedAs {D : Type 0} (seen : D → List ℕ)
    (may_leave : D → List ℕ → Type 0) (is_usable : D → Bool) (name : CallName)
    (numbers : List ℕ) (waits : List PageValue) (new : Undelivered D) : Type 0 where
  pub event : Event
  pub left : List PageValue
  pub goes : (first : List PageValue) → Goes event (record {
    first = first;
    second = waits;
  }) (record { first = first; second = left })
  pub keeps : KeepsStill seen may_leave is_usable new left
  pub is : (event ≡ Arrives name numbers) ⊎ IsCounted name numbers waits event ⊎ (event ≡ Rests)

-- A DELIVERED TRY THAT IS NOTED IS SUCH AN EVENT, of the numbers of the pages that its line began with.
abbrev pub DeliveredTriesAreEvents : {D : Type 0}
    → (D → List ℕ) → (D → List ℕ → Type 0) → (D → Bool) → Type 0
DeliveredTriesAreEvents {D} seen may_leave is_usable =
    (befell : List Befall) (idle tries : Tries) (i : ℕ) (end : RetryEnd)
    → AreIdle idle → Befell (Ended i end ∷ befell) idle tries
    → end.outcome ≡ Delivered → (was : Bool) (old new : Undelivered D) (waits : List PageValue)
    → NotesDelivered seen may_leave is_usable end was old new
    → Keeps seen may_leave is_usable old waits → (begun : Beginning)
    × (pages : HasPages begun.job begun.line) × (begun_on i befell ≡ Some begun)
    × IsNotedAs seen may_leave is_usable begun.job.name (map number_of pages.pages) waits new
