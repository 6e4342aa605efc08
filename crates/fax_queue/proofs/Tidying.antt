-- The older file of a spool is cleared where nothing in it waits.
use Rattle.std.proofs.Common.{◌≡◌, ℕ, inl, inr, Bool, true, false, List, [], Result, Ok, Err, OnOk, OnErr, refl, sym, subst, MatchBool}
use Rattle.fax_wires.specs.declared.holding.storing.StoreFault.{StoreFault}
use Rattle.fax_spool.specs.RecordOctets.{PageValue}
use Rattle.fax_spool.specs.Calls.{Accepts, Does, Refuses, Turns, Rests}
use Rattle.fax_spool.specs.Spools.{NoneIsLeft, Stores}
use Rattle.fax_spool.specs.declared.spool_record.SpoolRecord.{SpoolRecord}
use Rattle.fax_spool.specs.declared.spool.Spool.{Spool}
use Rattle.fax_queue.specs.Jobs.{IsTidy, WaitSo}

module _ {D : Type 0} (seen : D → List ℕ) (may_leave : D → List ℕ → Type 0) (is_usable : D → Bool) where
  pub tidy_cleared : (old new : Spool D) (was : Bool)
      → ((olds news : List SpoolRecord) → Stores seen may_leave is_usable old olds news
      → MatchBool was (NoneIsLeft olds news × Stores seen may_leave is_usable new [] news) ((¬ NoneIsLeft olds news) × Stores seen may_leave is_usable new olds news))
      → (waits : List PageValue) → Rests seen may_leave is_usable old waits → IsTidy seen may_leave is_usable new
  tidy_cleared old new true cleared waits rest =
      let is = cleared rest.olds rest.news rest.kept in record { olds = []; news = rest.news; kept = is.1; tidy = λ none. refl }
  tidy_cleared old new false cleared waits rest =
      let is = cleared rest.olds rest.news rest.kept in record { olds = rest.olds; news = rest.news; kept = is.1; tidy = λ none. absurd (is.0 none) }

  pub tidy_same : (old new : Spool D) (Changed : List SpoolRecord → List SpoolRecord → Type 0) (was : Bool)
      → ((olds news : List SpoolRecord) → Stores seen may_leave is_usable old olds news → MatchBool was (Changed olds news) (Stores seen may_leave is_usable new olds news))
      → was ≡ false → IsTidy seen may_leave is_usable old → IsTidy seen may_leave is_usable new
  tidy_same old new Changed true changed is tidy = absurd (cc)
  tidy_same old new Changed false changed is tidy = record { olds = tidy.olds; news = tidy.news; kept = changed tidy.olds tidy.news tidy.kept; tidy = tidy.tidy }

  pub tidy_failed : (old new : Spool D) → Does seen may_leave is_usable Turns false old new → IsTidy seen may_leave is_usable old → Accepts new → IsTidy seen may_leave is_usable new
  tidy_failed old new does tidy accepts = elim (does.failed refl) [
    | inl refuses ↦ absurd (cc)
    | inr before ↦ record { olds = tidy.olds; news = tidy.news; kept = before.keeps tidy.olds tidy.news tidy.kept; tidy = tidy.tidy }
  ]

  -- where what waits is known, or the spool refuses
  pub tidy_ended : (P : List PageValue → Type 0) (between after : Spool D) → WaitSo seen may_leave is_usable between P
      → ((waits : List PageValue) → Rests seen may_leave is_usable between waits → Accepts after → IsTidy seen may_leave is_usable after) → (Refuses between → after ≡ between)
      → Accepts after → IsTidy seen may_leave is_usable after
  tidy_ended P between after (inl wait) tidy same accepts = tidy wait.0 wait.1 accepts
  tidy_ended P between after (inr refuses) tidy same accepts =
      let no : Refuses after = subst (λ (s : Spool D). Refuses s) (sym (same refuses.0)) refuses.0 in absurd (cc)

  -- what may be done once more, and is not asked for its answer
  pub told_again : (answer : Result Bool StoreFault) (between after : Spool D)
      → OnOk answer ((waits : List PageValue) → Rests seen may_leave is_usable between waits → Rests seen may_leave is_usable after waits)
      → OnErr answer ((waits : List PageValue) → Rests seen may_leave is_usable between waits → WaitSo seen may_leave is_usable after (λ told. told ≡ waits))
      → (waits : List PageValue) → Rests seen may_leave is_usable between waits → WaitSo seen may_leave is_usable after (λ told. told ≡ waits)
  told_again (Ok was) between after stays told waits rest = inl (waits, stays waits rest, refl)
  told_again (Err e) between after stays told waits rest = told waits rest

  pub tidy_again : (answer : Result Bool StoreFault) (between after : Spool D)
      → OnOk answer ((waits : List PageValue) → Rests seen may_leave is_usable between waits → IsTidy seen may_leave is_usable after)
      → OnErr answer ((waits : List PageValue) → Rests seen may_leave is_usable between waits → Refuses after)
      → (waits : List PageValue) → Rests seen may_leave is_usable between waits → Accepts after → IsTidy seen may_leave is_usable after
  tidy_again (Ok was) between after tidy failed waits rest accepts = tidy waits rest
  tidy_again (Err e) between after tidy failed waits rest accepts = let no : Refuses after = failed waits rest in absurd (cc)

  -- and where the spool refuses, it stays as it is
  pub so_on : (waits : List PageValue) (between after : Spool D) → WaitSo seen may_leave is_usable between (λ told. told ≡ waits)
      → ((pages : List PageValue) → Rests seen may_leave is_usable between pages → WaitSo seen may_leave is_usable after (λ told. told ≡ pages)) → (Refuses between → after ≡ between)
      → WaitSo seen may_leave is_usable after (λ told. told ≡ waits)
  so_on waits between after (inl wait) told same =
      subst (λ (l : List PageValue). WaitSo seen may_leave is_usable after (λ told. told ≡ l)) wait.2 (told wait.0 wait.1)
  so_on waits between after (inr refuses) told same =
      subst (λ (s : Spool D). WaitSo seen may_leave is_usable s (λ told. told ≡ waits)) (sym (same refuses.0)) (inr refuses)

  pub no_tidy : (spool : Spool D) → Refuses spool → Accepts spool → IsTidy seen may_leave is_usable spool
  no_tidy spool refuses accepts = absurd (cc)
