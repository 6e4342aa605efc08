-- A try that was delivered, as its end is noted.
use Rattle.std.proofs.Common.{◌≡◌, ◌⊎◌, inl, inr, ℕ, zero, suc, ◌+◌, ◌-◌, ◌^◌, ◌<◌, ◌≤◌, min, Bool, true, false, not, ◌||◌, cond, nat_eq, nat_lt, List, [], ◌∷◌, ◌++◌, length, map, take, Option, Some, None, MatchOption, slice_get, refl, sym, ◌∙◌, ap, subst, arith}
use Rattle.std.specs.Bool.{MatchBool}
use Rattle.std.specs.List.{list_any, position, position_or_len}
use Rattle.std.proofs.lemmas.Bool.{eqb-true}
use Rattle.std.proofs.lemmas.Bool.Decides.{nat_tests}
use Rattle.fax_jobs.specs.declared.outcome.Outcome.TheVariants.{Delivered}
use Rattle.fax_redial.specs.Arriving.{DeliveredTriesAreEvents, IsCounted, IsNotedAs}
use Rattle.fax_redial.specs.Befalls.{Befall, EndsAt}
use Rattle.fax_redial.specs.Begun.{HasPages}
use Rattle.fax_redial.specs.Laws.{Beginning, HasBegun, begun_on}
use Rattle.fax_redial.specs.Noting.{EndsCall, NotesDelivered, PutsCardIf, counted, first_missed, missed_by}
use Rattle.fax_redial.specs.Totals.{end_if}
use Rattle.fax_redial.specs.Tries.{TryValue, end_of}
use Rattle.fax_redial.specs.declared.job.RetryEnd.{RetryEnd}
use Rattle.fax_redial.specs.declared.job.RetryJob.{RetryJob}
use Rattle.fax_redial.specs.declared.total.FailedTry.{FailedTry}
use Rattle.fax_redial.proofs.Befalling.{begun_along, end_name}
use Rattle.fax_spool.specs.RecordOctets.{PageValue}
use Rattle.fax_spool.specs.Torn.{CallName}
use Rattle.fax_spool.specs.Waits.{ends, without}
use Rattle.fax_spool.specs.Waits as records
use Rattle.fax_undelivered.specs.Calls as calls
use Rattle.fax_undelivered.specs.Calls.{CallValue, is_among, number_of, numbers_named, pages_named}
use Rattle.fax_undelivered.specs.Cards.{CardValue, card_page}
use Rattle.fax_undelivered.specs.Dropped.{Arrives, Comes, HadAll, IsIn, Rests}
use Rattle.fax_undelivered.specs.Keeps.{Keeps, KeepsStill}
use Rattle.fax_undelivered.specs.declared.undelivered.Undelivered.{Undelivered}
use Rattle.fax_undelivered.proofs.Numbered.{each_is_listed, ended_page, pages_are_listed}

-- ---- the first of a list that passes a test

first_is : (test : ℕ → Bool) (x : ℕ) (xs : List ℕ) → test x ≡ true → position_or_len test (x ∷ xs) ≡ 0
first_is test x xs is = ap (λ (b : Bool). cond (not b) (1 + position_or_len test xs) 0) is

first_later : (test : ℕ → Bool) (x : ℕ) (xs : List ℕ) → test x ≡ false → position_or_len test (x ∷ xs) ≡ 1 + position_or_len test xs
first_later test x xs un = ap (λ (b : Bool). cond (not b) (1 + position_or_len test xs) 0) un

one_fails : (test : ℕ → Bool) (x : ℕ) (xs : List ℕ) (n : ℕ) (b e : Bool) → nat_lt (position_or_len test (x ∷ xs)) (length (x ∷ xs)) ≡ false → (nat_lt (position_or_len test xs) (length xs) ≡ false → is_among n xs ≡ true → test n ≡ false)
    → test x ≡ b → nat_eq x n ≡ e → (e || is_among n xs) ≡ true → test n ≡ false
one_fails test x xs n true e none later so same is = let at : position_or_len test (x ∷ xs) ≡ 0 = first_is test x xs so in absurd (grind (arith, nat_tests))
one_fails test x xs n false true none later un same is = ap test (sym (eqb-true x n same)) ∙ un
one_fails test x xs n false false none later un same is =
    let at : position_or_len test (x ∷ xs) ≡ 1 + position_or_len test xs = first_later test x xs un in
    later (grind (arith, nat_tests)) is

none_passes : (test : ℕ → Bool) (xs : List ℕ) (n : ℕ) → nat_lt (position_or_len test xs) (length xs) ≡ false → is_among n xs ≡ true → test n ≡ false
none_passes test [] n none is = absurd (cc)
none_passes test (x ∷ xs) n none is = one_fails test x xs n (test x) (nat_eq x n) none (none_passes test xs n) refl refl is

one_before : (test : ℕ → Bool) (p : PageValue) (pages : List PageValue) (k : ℕ) (page : PageValue) (b : Bool) → suc k ≤ position_or_len test (map number_of (p ∷ pages))
    → (k ≤ position_or_len test (map number_of pages) → IsIn page (take k pages) → test page.number ≡ false) → test p.number ≡ b → (p ≡ page) ⊎ IsIn page (take k pages) → test page.number ≡ false
one_before test p pages k page true low later so is = let at : position_or_len test (map number_of (p ∷ pages)) ≡ 0 = first_is test p.number (map number_of pages) so in absurd (omega (arith, low, at))
one_before test p pages k page false low later un (inl same) = ap (λ (x : PageValue). test x.number) (sym same) ∙ un
one_before test p pages k page false low later un (inr is) =
    let at : position_or_len test (map number_of (p ∷ pages)) ≡ 1 + position_or_len test (map number_of pages) = first_later test p.number (map number_of pages) un in
    later (omega (arith, low, at)) is

none_before : (test : ℕ → Bool) (pages : List PageValue) (k : ℕ) (page : PageValue) → k ≤ position_or_len test (map number_of pages) → IsIn page (take k pages) → test page.number ≡ false
none_before test [] zero page low is = absurd is
none_before test [] (suc k) page low is = absurd is
none_before test (p ∷ pages) zero page low is = absurd is
none_before test (p ∷ pages) (suc k) page low is = one_before test p pages k page (test p.number) low (none_before test pages k page) refl is

no_place : (b : Bool) (n : ℕ) → cond b (Some n) None ≡ None → b ≡ false
no_place true n none = cc
no_place false n none = refl

the_place : (b : Bool) (n place : ℕ) → cond b (Some n) None ≡ Some place → n ≡ place
the_place true n place is = cc
the_place false n place is = cc

none_at : (test : ℕ → Bool) (xs : List ℕ) → position test xs ≡ None → nat_lt (position_or_len test xs) (length xs) ≡ false
none_at test xs none = no_place (nat_lt (position_or_len test xs) (length xs)) (position_or_len test xs) none

some_at : (test : ℕ → Bool) (xs : List ℕ) (place : ℕ) → position test xs ≡ Some place → position_or_len test xs ≡ place
some_at test xs place some = the_place (nat_lt (position_or_len test xs) (length xs)) (position_or_len test xs) place some

not_false : (b : Bool) → not b ≡ false → b ≡ true
not_false true un = refl
not_false false un = sym un

-- ---- where these wait, and this try was delivered

module _ {D : Type 0} (seen : D → List ℕ) (may_leave : D → List ℕ → Type 0) (is_usable : D → Bool) (end : RetryEnd) (old new : Undelivered D) (waits : List PageValue) (keeps : Keeps seen may_leave is_usable old waits) where
  -- what is listed of its call
  listed : numbers_named end.name old.calls.items ≡ map number_of (pages_named end.name waits)
  listed = ap (λ (l : List CallValue). numbers_named end.name l) keeps.listed ∙ pages_are_listed end.name waits

  missed_so : missed_by end old.calls.items ≡ first_missed end.numbers.items (map number_of (pages_named end.name waits))
  missed_so = ap (λ (l : List ℕ). first_missed end.numbers.items l) listed

  -- none was missed: the try had each of its pages
  had_all : missed_by end old.calls.items ≡ None → HadAll end.name end.numbers.items waits
  had_all none = λ page is ended some.
      not_false (is_among page.number end.numbers.items)
      (none_passes (λ n. not (is_among n end.numbers.items)) (map number_of (pages_named end.name waits)) page.number
      (none_at (λ n. not (is_among n end.numbers.items)) (map number_of (pages_named end.name waits)) (sym missed_so ∙ none))
      (each_is_listed end.name waits page is (ended_page end.name page ended some)))

  -- this place was the first that was: it had each before that
  had_before : (place k : ℕ) → missed_by end old.calls.items ≡ Some place → k ≤ place → (page : PageValue) → IsIn page (take k (pages_named end.name waits)) → is_among page.number end.numbers.items ≡ true
  had_before place k some low = λ page is.
      let at : position_or_len (λ n. not (is_among n end.numbers.items)) (map number_of (pages_named end.name waits)) ≡ place =
      some_at (λ n. not (is_among n end.numbers.items)) (map number_of (pages_named end.name waits)) place (sym missed_so ∙ some) in
      not_false (is_among page.number end.numbers.items)
      (none_before (λ n. not (is_among n end.numbers.items)) (pages_named end.name waits) k page (subst (λ (n : ℕ). k ≤ n) (sym at) low) is)

  still : (left : List PageValue) → Keeps seen may_leave is_usable new left → KeepsStill seen may_leave is_usable new left
  still left k = record { wait = inl (left, k.wait, refl); listed = k.listed }

  -- its call is not there
  rests : new ≡ old → IsNotedAs seen may_leave is_usable end.name end.numbers.items waits new
  rests same = record {
    event = Rests;
    left = waits;
    goes = λ first. (refl, refl);
    keeps = still waits (subst (λ (u : Undelivered D). Keeps seen may_leave is_usable u waits) (sym same) keeps);
    is = inr (inr refl);
  }

  arrives : (was : Bool) → missed_by end old.calls.items ≡ None → EndsCall seen may_leave is_usable end.name was old new → IsNotedAs seen may_leave is_usable end.name end.numbers.items waits new
  arrives true none notes = record {
    event = Arrives end.name end.numbers.items;
    left = without (calls.end_of end.name) waits;
    goes = λ first. (refl, refl, had_all none);
    keeps = notes.1 waits keeps;
    is = inl refl;
  }
  arrives false none notes = rests notes.1

  counts : (was : Bool) (place : ℕ) → missed_by end old.calls.items ≡ Some place → PutsCardIf seen may_leave is_usable end.name (λ before card. card ≡ counted place before) was old new
      → IsNotedAs seen may_leave is_usable end.name end.numbers.items waits new
  counts true place some notes =
      let put = notes.1 in
      let delivered : put.card.delivered ≡ min place (2 ^ 32 - 1) = ap (λ (c : CardValue). c.delivered) put.is_next in
      let low : put.card.delivered ≤ place = omega (arith, delivered) in record {
        event = Comes (card_page end.name put.tag put.card ∷ []) true;
        left = waits ++ card_page end.name put.tag put.card ∷ [];
        goes = λ first. (refl, refl);
        keeps = still (waits ++ card_page end.name put.tag put.card ∷ []) (put.keeps waits keeps);
        is = inr (inl (record { tag = put.tag; card = put.card; event_is = refl; counts = had_before place put.card.delivered some low }));
      }
  counts false place some notes = rests notes.1

  by_missed : (was : Bool) (o : Option ℕ) → missed_by end old.calls.items ≡ o
      → MatchOption o (EndsCall seen may_leave is_usable end.name was old new) (λ place. PutsCardIf seen may_leave is_usable end.name (λ before card. card ≡ counted place before) was old new)
      → IsNotedAs seen may_leave is_usable end.name end.numbers.items waits new
  by_missed was None none notes = arrives was none notes
  by_missed was (Some place) some notes = counts was place some notes

  noted_as : (was : Bool) → NotesDelivered seen may_leave is_usable end was old new → IsNotedAs seen may_leave is_usable end.name end.numbers.items waits new
  noted_as was notes = by_missed was (missed_by end old.calls.items) refl notes

-- ---- and its end is that of the try that began last

end_numbers : (job : RetryJob) (delivered : ℕ) (failed : Option FailedTry) → (end_if job delivered failed).numbers.items ≡ job.numbers.items
end_numbers job delivered None = refl
end_numbers job delivered (Some failed) = refl

begun_so : (befell : List Befall) (i : ℕ) (held : TryValue) (o : Option Beginning) → begun_on i befell ≡ o → HasBegun o held
    → (begun : Beginning) × (pages : HasPages begun.job begun.line) × (begun_on i befell ≡ Some begun) × (held.job ≡ begun.job)
begun_so befell i held None is has = absurd has
begun_so befell i held (Some begun) is has = (begun, has.1, is, has.0)

module _ {D : Type 0} (seen : D → List ℕ) (may_leave : D → List ℕ → Type 0) (is_usable : D → Bool) where
  of_its_job : (end : RetryEnd) (held : TryValue) (job : RetryJob) (numbers : List ℕ) (waits : List PageValue) (new : Undelivered D) → end ≡ end_of held → held.job ≡ job → job.numbers.items ≡ numbers
      → IsNotedAs seen may_leave is_usable end.name end.numbers.items waits new → IsNotedAs seen may_leave is_usable job.name numbers waits new
  of_its_job end held job numbers waits new end_is same are noted =
      let name : end.name ≡ job.name = ap (λ (e : RetryEnd). e.name) end_is ∙ end_name held.job held.total.delivered held.total.failed ∙ ap (λ (j : RetryJob). j.name) same in
      let ended : end.numbers.items ≡ held.job.numbers.items = ap (λ (e : RetryEnd). e.numbers.items) end_is ∙ end_numbers held.job held.total.delivered held.total.failed in
      let all : end.numbers.items ≡ numbers = ended ∙ ap (λ (j : RetryJob). j.numbers.items) same ∙ are in
      subst (λ (n : CallName). IsNotedAs seen may_leave is_usable n numbers waits new) name
      (subst (λ (l : List ℕ). IsNotedAs seen may_leave is_usable end.name l waits new) all noted)

  pub delivered_tries_are_events : DeliveredTriesAreEvents seen may_leave is_usable
  delivered_tries_are_events befell idle tries i end are_idle (between, before, ended) delivered was old new waits notes keeps =
      let begun = begun_so befell i ended.held (begun_on i befell) refl (begun_along befell idle between are_idle before i ended.held ended.there) in (
        begun.0,
        begun.1,
        begun.2,
        of_its_job end ended.held begun.0.job (map number_of begun.1.pages) waits new ended.end_is begun.3 begun.1.numbers (noted_as seen may_leave is_usable end old new waits keeps was notes),
      )
