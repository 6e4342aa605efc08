-- What is noted of a try that ended. (This project's profile.)
use Rattle.std.specs.Prelude.{false, ◌≡◌, ℕ, ◌+◌, ◌-◌, ◌^◌, min, Bool, not, List, [], ◌∷◌, ◌++◌, position, Option, Some, None, MatchOption, if◌then◌else◌}
use Rattle.std.specs.Bool.{MatchBool}
use Rattle.std.specs.List.{list_any}
use Rattle.std.specs.Str.{IsUtf8}
use Rattle.fax_desk.specs.Questions.{cause_text}
use Rattle.fax_desk.specs.declared.questions.Cause.{Cause}
use Rattle.fax_redial.specs.declared.job.RetryEnd.{RetryEnd}
use Rattle.fax_spool.specs.RecordOctets.{PageValue}
use Rattle.fax_spool.specs.Calls.{Does, Ends, Puts}
use Rattle.fax_spool.specs.Torn.{CallName}
use Rattle.fax_spool.specs.Waits.{without}
use Rattle.fax_spool.specs.declared.spool.Spool.{Spool}
use Rattle.fax_undelivered.specs.Calls.{CallValue, end_of, is_among, is_named, numbers_named}
use Rattle.fax_undelivered.specs.Cards.{CardValue, card_page}
use Rattle.fax_undelivered.specs.Keeps.{Keeps, KeepsStill}
use Rattle.fax_undelivered.specs.declared.undelivered.Undelivered.{Undelivered}

-- the card of a call, of those that are listed
abbrev pub card_named : CallName → List CallValue → Option CardValue
card_named name [] = None
card_named name (call ∷ calls) =
    if is_named name call then Some call.card else card_named name calls

-- why its call was not placed, where that was told
abbrev pub IsCauseOf : Option Cause → List ℕ → Type 0
IsCauseOf None told = told ≡ []
IsCauseOf (Some cause) told = IsUtf8 (cause_text cause) → told ≡ cause_text cause

-- ONE TRY MORE: how it ended, and why, and when; and so many pages more were delivered, from the first that waited on.
pub record IsOneTryMore (before : CardValue) (end : RetryEnd) (at : ℕ) (card : CardValue) :
    Type 0 where
  pub outcome : card.outcome ≡ end.outcome
  pub cause : IsCauseOf end.cause card.cause
  pub tries : card.tries ≡ min (before.tries + 1) (2 ^ 32 - 1)
  pub at_is : card.at ≡ at
  pub delivered : card.delivered ≡ min (before.delivered + end.delivered) (2 ^ 32 - 1)

-- one card more of a call, which comes after the one that counted so far: it is put by itself, so that whatever crash comes the job is there,
-- with that card or without it
pub record PutsCard {D : Type 0} (seen : D → List ℕ)
    (may_leave : D → List ℕ → Type 0) (is_usable : D → Bool) (name : CallName)
    (comes_next : CardValue → CardValue → Type 0) (old new : Undelivered D) : Type 0 where
  pub before : CardValue
  pub was : card_named name old.calls.items ≡ Some before
  pub card : CardValue
  pub is_next : comes_next before card
  pub tag : List ℕ
  pub keeps : (waits : List PageValue) → Keeps seen may_leave is_usable old waits
      → Keeps seen may_leave is_usable new (waits ++ card_page name tag card ∷ [])

-- where it is one of those that are listed
abbrev pub PutsCardIf : {D : Type 0} → (D → List ℕ) → (D → List ℕ → Type 0) → (D → Bool) → CallName
    → (CardValue → CardValue → Type 0) → (was : Bool) → (old new : Undelivered D) → Type 0
PutsCardIf seen may_leave is_usable name comes_next was old new =
    (list_any (is_named name) old.calls.items ≡ was)
    × MatchBool was (PutsCard seen may_leave is_usable name comes_next old new) (new ≡ old)

-- ONE THAT FAILED AGAIN waits as it did, with one card more, which tells of the try.
abbrev pub NotesFailed : {D : Type 0} → (D → List ℕ) → (D → List ℕ → Type 0)
    → (D → Bool) → RetryEnd → (at : ℕ) → (was : Bool) → (old new : Undelivered D) → Type 0
NotesFailed seen may_leave is_usable end at was old new =
    PutsCardIf seen may_leave is_usable end.name
    (λ before card. IsOneTryMore before end at card) was old new

-- ---- a job that was delivered

-- the place of the first of these numbers of its call that are listed which a try had not: none where it had all
abbrev pub first_missed : (numbers listed : List ℕ) → Option ℕ
first_missed numbers listed = position (λ number. not (is_among number numbers)) listed

abbrev pub missed_by : RetryEnd → List CallValue → Option ℕ
missed_by end calls = first_missed end.numbers.items (numbers_named end.name calls)

-- its pages and its cards wait no more: they end, all at once
abbrev pub EndsCall : {D : Type 0} → (D → List ℕ) → (D → List ℕ → Type 0)
    → (D → Bool) → CallName → (was : Bool) → (old new : Undelivered D) → Type 0
EndsCall seen may_leave is_usable name was old new =
    (list_any (is_named name) old.calls.items ≡ was)
    × MatchBool was ((waits : List PageValue) → Keeps seen may_leave is_usable old waits
    → KeepsStill seen may_leave is_usable new (without (end_of name) waits)) (new ≡ old)

-- so many of its pages are delivered, from the first that waits on; how its last job ended stays as it was told
abbrev pub counted : (pages : ℕ) → CardValue → CardValue
counted pages before = record before { delivered = min pages (2 ^ 32 - 1) }

-- A JOB THAT WAS DELIVERED waits no more, where the try had all pages of its call. What came since it began it had not: then all wait as they
-- did, with one card more, which counts those that it had.
abbrev pub NotesDelivered : {D : Type 0} → (D → List ℕ) → (D → List ℕ → Type 0)
    → (D → Bool) → RetryEnd → (was : Bool) → (old new : Undelivered D) → Type 0
NotesDelivered seen may_leave is_usable end was old new =
    MatchOption (missed_by end old.calls.items)
    (EndsCall seen may_leave is_usable end.name was old new)
    (λ place. PutsCardIf seen may_leave is_usable end.name
    (λ before card. card ≡ counted place before) was old new)

-- ---- AN END THAT COULD NOT BE NOTED: at most a card of that call was asked for, which each crash leaves there or not

abbrev pub MayPutCard : {D : Type 0}
    → (D → List ℕ) → (D → List ℕ → Type 0) → (D → Bool) → CallName → (old new : Spool D) → Type 0
MayPutCard seen may_leave is_usable name old new = (card : CardValue) × (tag : List ℕ)
    × Does seen may_leave is_usable (Puts (card_page name tag card ∷ [])) false old new

-- or, where the try had all pages of its call, their end
abbrev pub MayEndCall : {D : Type 0} → (D → List ℕ)
    → (D → List ℕ → Type 0) → (D → Bool) → RetryEnd → List CallValue → (old new : Spool D) → Type 0
MayEndCall seen may_leave is_usable end calls old new = MatchOption (missed_by end calls)
    (Does seen may_leave is_usable (Ends (end_of end.name ∷ [])) false old new)
    (λ place. MayPutCard seen may_leave is_usable end.name old new)
