-- What comes into the second pair and leaves it.
use Rattle.std.proofs.Common.{◌≡◌, ℕ, Bool, true, false, List, [], ◌∷◌, ◌++◌, Result, Ok, Err, OnErr, refl, sym, ◌∙◌, ap, subst}
use Rattle.fax_spool.specs.RecordOctets.{PageValue}
use Rattle.fax_spool.specs.Torn.{CallName}
use Rattle.fax_spool.specs.Waits.{without}
use Rattle.fax_spool.specs.Calls.{Does, Ends, Puts, Rests}
use Rattle.fax_spool.specs.declared.spool.Spool.{Spool}
use Rattle.fax_queue.specs.Jobs.{WaitSo}
use Rattle.fax_undelivered.specs.Calls.{CallValue, but, calls_after, calls_of, end_of, with_page}
use Rattle.fax_undelivered.specs.Keeps.{Keeps, KeepsStill}
use Rattle.fax_undelivered.specs.declared.undelivered.Undelivered.{Undelivered}
use Rattle.fax_undelivered.proofs.Dropping.{left_by_discard}

calls_append : (calls : List CallValue) (a b : List PageValue) → calls_after calls (a ++ b) ≡ calls_after (calls_after calls a) b
calls_append calls [] b = refl
calls_append calls (p ∷ a) b = calls_append (with_page p calls) a b

module _ {D : Type 0} (seen : D → List ℕ) (may_leave : D → List ℕ → Type 0) (is_usable : D → Bool) where
  -- records were put, and their calls are listed
  pub comes : (old new : Undelivered D) (records waits : List PageValue) → Does seen may_leave is_usable (Puts records) true old.spool new.spool → new.calls.items ≡ calls_after old.calls.items records
      → Keeps seen may_leave is_usable old waits → Keeps seen may_leave is_usable new (waits ++ records)
  comes old new records waits does listed keeps = record {
    wait = does.done refl waits keeps.wait;
    listed = listed ∙ ap (λ (l : List CallValue). calls_after l records) keeps.listed ∙ sym (calls_append [] waits records);
  }

  -- it keeps what another does that has the same
  pub keeps_too : (old new : Undelivered D) (waits : List PageValue) → new.spool ≡ old.spool → new.calls.items ≡ old.calls.items → Keeps seen may_leave is_usable old waits → Keeps seen may_leave is_usable new waits
  keeps_too old new waits spool calls keeps = record { wait = subst (λ (s : Spool D). Rests seen may_leave is_usable s waits) (sym spool) keeps.wait; listed = calls ∙ keeps.listed }

  -- a call was discarded
  pub leaves : (old new : Undelivered D) (between : Spool D) (name : CallName) (waits : List PageValue) → Does seen may_leave is_usable (Ends (end_of name ∷ [])) true old.spool between
      → ((told : List PageValue) → Rests seen may_leave is_usable between told → WaitSo seen may_leave is_usable new.spool (λ l. l ≡ told)) → new.calls.items ≡ but name old.calls.items
      → Keeps seen may_leave is_usable old waits → KeepsStill seen may_leave is_usable new (without (end_of name) waits)
  leaves old new between name waits does told calls keeps = record {
    wait = told (without (end_of name) waits) (does.done refl waits keeps.wait);
    listed = calls ∙ ap (λ (l : List CallValue). but name l) keeps.listed ∙ left_by_discard name waits [];
  }

-- what an answer that is an `Err` leaves
pub on_err : {T E : Type 0} {P : Type 0} (r : Result T E) → P → OnErr r P
on_err (Ok x) p = tt
on_err (Err e) p = p
