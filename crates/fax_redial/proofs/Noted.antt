-- What is noted of a try that ended.
use Rattle.std.proofs.Common.{◌≡◌, ℕ, Bool, true, false, [], ◌∷◌, ◌++◌, List, Option, Some, None, MatchOption, Result, Ok, Err, OnErr, refl, sym, ◌∙◌, ap, subst}
use Rattle.std.specs.Bool.{MatchBool}
use Rattle.std.specs.List.{list_any}
use Rattle.fax_redial.specs.Noting.{EndsCall, MayEndCall, MayPutCard, NotesDelivered, PutsCardIf, card_named, counted, missed_by}
use Rattle.fax_redial.specs.declared.job.RetryEnd.{RetryEnd}
use Rattle.fax_spool.specs.Calls.{Does, Ends, Puts}
use Rattle.fax_spool.specs.RecordOctets.{PageValue}
use Rattle.fax_spool.specs.Torn.{CallName}
use Rattle.fax_spool.specs.Waits.{without}
use Rattle.fax_spool.specs.declared.spool.Spool.{Spool}
use Rattle.fax_spool.proofs.Doing.{does_nothing}
use Rattle.fax_undelivered.specs.Calls.{CallValue, end_of, is_named}
use Rattle.fax_undelivered.specs.Cards.{CardValue, card_page, unknown}
use Rattle.fax_undelivered.specs.Keeps.{Keeps, KeepsStill}
use Rattle.fax_undelivered.specs.declared.undelivered.Undelivered.{Undelivered}

-- this card was put of a call of this name
abbrev pub IsPut : {D : Type 0} → (D → List ℕ) → (D → List ℕ → Type 0) → (D → Bool) → CallName → CardValue → (was : Bool) → (old new : Undelivered D) → Type 0
IsPut seen may_leave is_usable name card was old new =
    (list_any (is_named name) old.calls.items ≡ was)
    × MatchBool was
    ((tag : List ℕ) × ((waits : List PageValue) → Keeps seen may_leave is_usable old waits → Keeps seen may_leave is_usable new (waits ++ card_page name tag card ∷ [])))
    (new ≡ old)

put_so : {D : Type 0} (seen : D → List ℕ) (may_leave : D → List ℕ → Type 0) (is_usable : D → Bool) (name : CallName) (comes_next : CardValue → CardValue → Type 0) (before card : CardValue) (was : Bool) (old new : Undelivered D)
    → card_named name old.calls.items ≡ Some before → comes_next before card → IsPut seen may_leave is_usable name card was old new → PutsCardIf seen may_leave is_usable name comes_next was old new
put_so seen may_leave is_usable name comes_next before card true old new found next (was, put) =
    (was, record { before = before; was = found; card = card; is_next = next; tag = put.0; keeps = put.1 })
put_so seen may_leave is_usable name comes_next before card false old new found next (was, same) = (was, same)

pub puts_card : {D : Type 0} (seen : D → List ℕ) (may_leave : D → List ℕ → Type 0) (is_usable : D → Bool) (comes_next : CardValue → CardValue → Type 0) (before card : CardValue) (name called : CallName) (calls : List CallValue) (was : Bool)
    (old new : Undelivered D) → name ≡ called → calls ≡ old.calls.items → card_named called calls ≡ Some before → comes_next before card
    → IsPut seen may_leave is_usable name card was old new → PutsCardIf seen may_leave is_usable called comes_next was old new
puts_card {D} seen may_leave is_usable comes_next before card name called calls was old new same listed found next puts =
    put_so seen may_leave is_usable called comes_next before card was old new (sym (ap (λ (l : List CallValue). card_named called l) listed) ∙ found) next
    (subst (λ (n : CallName). IsPut {D = D} seen may_leave is_usable n card was old new) same puts)

-- ---- a job that was delivered

-- the try had all pages of its call
pub ends_delivered : {D : Type 0} (seen : D → List ℕ) (may_leave : D → List ℕ → Type 0) (is_usable : D → Bool) (end : RetryEnd) (name : CallName) (calls : List CallValue) (missed : Option ℕ) (was : Bool) (old new : Undelivered D)
    → name ≡ end.name → calls ≡ old.calls.items → missed ≡ missed_by end calls → missed ≡ None → EndsCall seen may_leave is_usable name was old new → NotesDelivered seen may_leave is_usable end was old new
ends_delivered {D} seen may_leave is_usable end name calls missed was old new same listed is none ends =
    let all : None ≡ missed_by end old.calls.items = sym none ∙ is ∙ ap (λ (l : List CallValue). missed_by end l) listed in
    subst (λ (o : Option ℕ). MatchOption o (EndsCall {D = D} seen may_leave is_usable end.name was old new) (λ place. PutsCardIf seen may_leave is_usable end.name (λ before card. card ≡ counted place before) was old new)) all
    (subst (λ (n : CallName). EndsCall {D = D} seen may_leave is_usable n was old new) same ends)

-- or this is the first that it had not
pub counts_delivered : {D : Type 0} (seen : D → List ℕ) (may_leave : D → List ℕ → Type 0) (is_usable : D → Bool) (end : RetryEnd) (name : CallName) (calls : List CallValue) (missed : Option ℕ) (place : ℕ) (was : Bool) (old new : Undelivered D)
    → name ≡ end.name → calls ≡ old.calls.items → missed ≡ missed_by end calls → missed ≡ Some place
    → PutsCardIf seen may_leave is_usable name (λ before card. card ≡ counted place before) was old new → NotesDelivered seen may_leave is_usable end was old new
counts_delivered {D} seen may_leave is_usable end name calls missed place was old new same listed is some puts =
    let one : Some place ≡ missed_by end old.calls.items = sym some ∙ is ∙ ap (λ (l : List CallValue). missed_by end l) listed in
    subst (λ (o : Option ℕ). MatchOption o (EndsCall {D = D} seen may_leave is_usable end.name was old new) (λ place. PutsCardIf seen may_leave is_usable end.name (λ before card. card ≡ counted place before) was old new)) one
    (subst (λ (n : CallName). PutsCardIf {D = D} seen may_leave is_usable n (λ before card. card ≡ counted place before) was old new) same puts)

-- ---- where that is no `Ok`

pub may_put : {D T E : Type 0} (seen : D → List ℕ) (may_leave : D → List ℕ → Type 0) (is_usable : D → Bool) (name called : CallName) (card : CardValue) (answer : Result T E) (old new : Spool D) → name ≡ called
    → OnErr answer ((tag : List ℕ) × Does seen may_leave is_usable (Puts (card_page name tag card ∷ [])) false old new) → OnErr answer (MayPutCard seen may_leave is_usable called old new)
may_put seen may_leave is_usable name called card (Ok it) old new same put = tt
may_put seen may_leave is_usable name called card (Err e) old new same put =
    (card, put.0, subst (λ (n : CallName). Does seen may_leave is_usable (Puts (card_page n put.0 card ∷ [])) false old new) same put.1)

pub puts_none : {D T E : Type 0} (seen : D → List ℕ) (may_leave : D → List ℕ → Type 0) (is_usable : D → Bool) (name : CallName) (answer : Result T E) (old : Spool D) → OnErr answer (MayPutCard seen may_leave is_usable name old old)
puts_none seen may_leave is_usable name (Ok it) old = tt
puts_none seen may_leave is_usable name (Err e) old = (unknown, [], does_nothing seen may_leave is_usable old old (Puts (card_page name [] unknown ∷ [])))

pub may_end : {D T E : Type 0} (seen : D → List ℕ) (may_leave : D → List ℕ → Type 0) (is_usable : D → Bool) (end : RetryEnd) (name : CallName) (listed calls : List CallValue) (missed : Option ℕ) (answer : Result T E) (old new : Spool D)
    → name ≡ end.name → listed ≡ calls → missed ≡ missed_by end listed → missed ≡ None
    → OnErr answer (Does seen may_leave is_usable (Ends (end_of name ∷ [])) false old new) → OnErr answer (MayEndCall seen may_leave is_usable end calls old new)
may_end seen may_leave is_usable end name listed calls missed (Ok it) old new same are is none ends = tt
may_end seen may_leave is_usable end name listed calls missed (Err e) old new same are is none ends =
    let all : None ≡ missed_by end calls = sym none ∙ is ∙ ap (λ (l : List CallValue). missed_by end l) are in
    subst (λ (o : Option ℕ). MatchOption o (Does seen may_leave is_usable (Ends (end_of end.name ∷ [])) false old new) (λ place. MayPutCard seen may_leave is_usable end.name old new)) all
    (subst (λ (n : CallName). Does seen may_leave is_usable (Ends (end_of n ∷ [])) false old new) same ends)

pub may_count : {D T E : Type 0} (seen : D → List ℕ) (may_leave : D → List ℕ → Type 0) (is_usable : D → Bool) (end : RetryEnd) (name : CallName) (listed calls : List CallValue) (missed : Option ℕ) (place : ℕ) (answer : Result T E) (old new : Spool D)
    → name ≡ end.name → listed ≡ calls → missed ≡ missed_by end listed → missed ≡ Some place
    → OnErr answer (MayPutCard seen may_leave is_usable name old new) → OnErr answer (MayEndCall seen may_leave is_usable end calls old new)
may_count seen may_leave is_usable end name listed calls missed place (Ok it) old new same are is some put = tt
may_count seen may_leave is_usable end name listed calls missed place (Err e) old new same are is some put =
    let one : Some place ≡ missed_by end calls = sym some ∙ is ∙ ap (λ (l : List CallValue). missed_by end l) are in
    subst (λ (o : Option ℕ). MatchOption o (Does seen may_leave is_usable (Ends (end_of end.name ∷ [])) false old new) (λ place. MayPutCard seen may_leave is_usable end.name old new)) one
    (subst (λ (n : CallName). MayPutCard seen may_leave is_usable n old new) same put)
