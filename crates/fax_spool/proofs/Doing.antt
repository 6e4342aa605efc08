-- What the calls of a spool do, by their answers.
use Rattle.std.proofs.Common.{◌≡◌, ◌⊎◌, ◌<◌, inl, inr, ℕ, Bool, true, false, List, [], ◌∷◌, ◌++◌, map, refl, sym, ◌∙◌, ap, subst, arith, append_assoc, Result, Ok, Err, IsErrAnd}
use Rattle.std.specs.Result.{is_ok}
use Rattle.std.proofs.lemmas.List.{append-nil}
use Rattle.fax_spool.specs.RecordOctets.{PageValue}
use Rattle.fax_spool.specs.SpoolRecords.{page_record}
use Rattle.fax_spool.specs.Waits.{after, waiting}
use Rattle.fax_spool.specs.Spools.{AreAbove, AreInOrder, IsOrderFound, MayLeaveBoth, NoneIsLeft, Stores, TellBoth, epoch_records, greatest_epoch}
use Rattle.fax_spool.specs.Calls.{AnsweredCall, Call, Does, DoneButOne, EachCrashTells, IsAsBefore, OneWithoutAnOk, Refuses, Rests, TellWaits, WereMade, done_by, done_by_all}
use Rattle.fax_spool.specs.Calls.{Turns}
use Rattle.fax_spool.specs.declared.spool_record.SpoolRecord.{SpoolRecord}
use Rattle.fax_spool.specs.Settled.{IsSettled}
use Rattle.fax_spool.specs.declared.file.RecordFile.{RecordFile}
use Rattle.fax_spool.specs.declared.spool.Spool.{Spool}
use Rattle.fax_spool.proofs.Order.{order_changed, order_found, order_stays}
use Rattle.fax_spool.specs.StoredPages.{put_again}
use Rattle.fax_spool.proofs.Again.{above_again, more_again}
use Rattle.fax_spool.proofs.KnownPages.{same_kept}
use Rattle.fax_spool.proofs.Shares.{shares}
use Rattle.fax_spool.proofs.SpoolSteps.{at_rest, waiting_epochs, waiting_pages, waiting_push}

-- ---- what waits after more records

pub more_pages : (pages : List PageValue) (olds news : List SpoolRecord) → waiting (olds ++ (news ++ map page_record pages)) ≡ waiting (olds ++ news) ++ pages
more_pages pages olds news = ap (λ (l : List SpoolRecord). waiting l) (sym (append_assoc olds news (map page_record pages))) ∙ waiting_pages [] (olds ++ news) pages

pub one_more : (r : SpoolRecord) (olds news : List SpoolRecord) → waiting (olds ++ (news ++ r ∷ [])) ≡ after (waiting (olds ++ news)) r
one_more r olds news = ap (λ (l : List SpoolRecord). waiting l) (sym (append_assoc olds news (r ∷ []))) ∙ waiting_push [] (olds ++ news) r

pub none_gone : (olds news : List SpoolRecord) → NoneIsLeft olds news → waiting news ≡ waiting (olds ++ news)
none_gone olds news none = sym (shares olds news ∙ ap (λ (l : List PageValue). l ++ waiting news) none)

pub more_epoch : (olds news : List SpoolRecord) (n : ℕ) → olds ≡ [] → waiting (news ++ epoch_records n) ≡ waiting (olds ++ news)
more_epoch olds news n none = waiting_epochs [] news n ∙ sym (ap (λ (l : List SpoolRecord). waiting (l ++ news)) none)

-- what the files tell after a crash as a file is cleared
pub told_cleared : (older newer : List ℕ) (olds news : List SpoolRecord) → TellBoth older newer olds news ⊎ (NoneIsLeft olds news × TellBoth older newer [] news)
    → AreInOrder olds news → (os : List SpoolRecord) × (ns : List SpoolRecord) × TellBoth older newer os ns × IsOrderFound os ns × (waiting (os ++ ns) ≡ waiting (olds ++ news))
told_cleared older newer olds news (inl tell) order = (olds, news, tell, order_found olds news order, refl)
told_cleared older newer olds news (inr tell) order = ([], news, tell.1, inr (inl refl), none_gone olds news tell.0)

-- and as the other one is taken into use
pub told_changed : (older newer : List ℕ) (olds news : List SpoolRecord) (n : ℕ) → olds ≡ [] → TellBoth older newer olds news ⊎ TellBoth older newer news [] ⊎ TellBoth older newer news (epoch_records n)
    → greatest_epoch news < n → (os : List SpoolRecord) × (ns : List SpoolRecord) × TellBoth older newer os ns × IsOrderFound os ns × (waiting (os ++ ns) ≡ waiting (olds ++ news))
told_changed older newer olds news n none (inl tell) low = (olds, news, tell, inr (inl none), refl)
told_changed older newer olds news n none (inr (inl tell)) low = (news, [], tell, inl refl, ap (λ (l : List SpoolRecord). waiting l) (append-nil news) ∙ sym (ap (λ (l : List SpoolRecord). waiting (l ++ news)) none))
told_changed older newer olds news n none (inr (inr tell)) low = (news, epoch_records n, tell, order_found news (epoch_records n) (order_changed news n low), more_epoch olds news n none)

-- and as what waits is put again
pub told_again : (older newer : List ℕ) (olds news : List SpoolRecord) → TellBoth older newer olds news ⊎ TellBoth older newer olds (news ++ put_again (waiting (olds ++ news)))
    → AreInOrder olds news → (os : List SpoolRecord) × (ns : List SpoolRecord) × TellBoth older newer os ns × IsOrderFound os ns × (waiting (os ++ ns) ≡ waiting (olds ++ news))
told_again older newer olds news (inl tell) order = (olds, news, tell, order_found olds news order, refl)
told_again older newer olds news (inr tell) order =
    let pages = waiting (olds ++ news) in
    (olds, news ++ put_again pages, tell, order_found olds (news ++ put_again pages) (order_stays olds news (put_again pages) (above_again (greatest_epoch olds) pages) order), more_again olds news)

module _ {D : Type 0} (seen : D → List ℕ) (may_leave : D → List ℕ → Type 0) (is_usable : D → Bool) (old new : Spool D) where
  told_so : (call : Call) (waits : List PageValue) (older newer : List ℕ) (olds news : List SpoolRecord) → TellBoth older newer olds news → IsOrderFound olds news → (P : List PageValue → Type 0) → P (waiting (olds ++ news))
      → (pages : List PageValue) × TellWaits older newer pages × P pages
  told_so call waits older newer olds news tell order P p = (waiting (olds ++ news), record { olds = olds; news = news; tell = tell; in_order = order; wait = refl }, p)

  pub rests_told : (waits : List PageValue) → Rests seen may_leave is_usable old waits → EachCrashTells may_leave old (λ told. told ≡ waits)
  rests_told waits rests = λ older newer left. (
    waits,
    record { olds = rests.olds; news = rests.news; tell = at_rest seen may_leave is_usable old old rests.olds rests.news rests.kept older newer left; in_order = order_found rests.olds rests.news rests.in_order; wait = rests.wait },
    refl,
  )

  -- nothing of it has changed but how much room it has
  pub as_before : new.older ≡ old.older → new.newer ≡ old.newer → new.older_pages.items ≡ old.older_pages.items → new.newer_pages.items ≡ old.newer_pages.items → new.epoch ≡ old.epoch → new.refuses ≡ old.refuses
      → IsAsBefore seen may_leave is_usable old new
  as_before older newer older_pages newer_pages epoch refuses = record {
    files = cc;
    keeps = λ olds news k. record {
      older_items = k.older_items;
      newer_items = k.newer_items;
      older = subst (λ (f : RecordFile D). IsSettled seen may_leave is_usable f.disk f.end k.older_items) (sym older) k.older;
      newer = subst (λ (f : RecordFile D). IsSettled seen may_leave is_usable f.disk f.end k.newer_items) (sym newer) k.newer;
      older_read = k.older_read;
      newer_read = k.newer_read;
      older_waits = same_kept _ _ _ _ _ older_pages refl k.older_waits;
      newer_waits = same_kept _ _ _ _ _ newer_pages refl k.newer_waits;
      epoch = omega (arith, k.epoch, epoch);
    };
    refuses = refuses;
  }

  pub does_none : (call : Call) → old.refuses ≡ false → IsAsBefore seen may_leave is_usable old new → Does seen may_leave is_usable call false old new
  does_none call speaks same = record {
    done = λ ok. cc;
    left = λ err waits rests older newer left.
        let here : MayLeaveBoth may_leave old older newer = subst (λ (files : RecordFile D × RecordFile D). may_leave files.0.disk older × may_leave files.1.disk newer) same.files left in
        let it = rests_told waits rests older newer here in
        (it.0, it.1, inl it.2);
    failed = λ err. inr same;
    refused = λ refuses. cc;
  }

  -- an answer that is an `Err`
  pub does_err : {T E : Type 0} (Q : E → Type 0) (r : Result T E) (call : Call) → IsErrAnd r Q → Does seen may_leave is_usable call false old new → Does seen may_leave is_usable call (is_ok r) old new
  does_err Q (Ok x) call err does = absurd err
  does_err Q (Err e) call err does = does

  -- nothing was done
  pub does_nothing : (call : Call) → Does seen may_leave is_usable call false old old
  does_nothing call = record {
    done = λ ok. cc;
    left = λ err waits rests older newer left. let it = rests_told waits rests older newer left in (it.0, it.1, inl it.2);
    failed = λ err. inr (record { files = refl; keeps = λ olds news k. k; refuses = refl });
    refused = λ refuses. (refl, refl);
  }

  -- these records were put
  module _ (call : Call) (more : List SpoolRecord) (adds : (olds news : List SpoolRecord) → waiting (olds ++ (news ++ more)) ≡ done_by call (waiting (olds ++ news))) (no_epoch : (n : ℕ) → AreAbove n more) (speaks : old.refuses ≡ false) where
    pub does_put : ((olds news : List SpoolRecord) → Stores seen may_leave is_usable old olds news → Stores seen may_leave is_usable new olds (news ++ more)) → Does seen may_leave is_usable call true old new
    does_put put = record {
      done = λ ok waits rests. record {
        olds = rests.olds;
        news = rests.news ++ more;
        kept = put rests.olds rests.news rests.kept;
        in_order = order_stays rests.olds rests.news more (no_epoch (greatest_epoch rests.olds)) rests.in_order;
        wait = adds rests.olds rests.news ∙ ap (λ (l : List PageValue). done_by call l) rests.wait;
      };
      left = λ err. cc;
      failed = λ err. cc;
      refused = λ refuses. cc;
    }

    pub may_have_put : ((olds news : List SpoolRecord) → Stores seen may_leave is_usable old olds news → (older newer : List ℕ) → MayLeaveBoth may_leave new older newer
        → TellBoth older newer olds news ⊎ TellBoth older newer olds (news ++ more)) → new.refuses ≡ true → Does seen may_leave is_usable call false old new
    may_have_put crash refuses = record {
      done = λ ok. cc;
      left = λ err waits rests older newer left. elim (crash rests.olds rests.news rests.kept older newer left) [
        | inl tell ↦ (waits, record { olds = rests.olds; news = rests.news; tell = tell; in_order = order_found rests.olds rests.news rests.in_order; wait = rests.wait }, inl refl)
        | inr tell ↦ (
          done_by call waits,
          record { olds = rests.olds; news = rests.news ++ more; tell = tell; in_order = order_found rests.olds (rests.news ++ more) (order_stays rests.olds rests.news more (no_epoch (greatest_epoch rests.olds)) rests.in_order); wait = adds rests.olds rests.news ∙ ap (λ (l : List PageValue). done_by call l) rests.wait },
          inr refl,
        )
      ];
      failed = λ err. inl refuses;
      refused = λ was. cc;
    }

  -- a file was cleared, or taken into use
  module _ (speaks : old.refuses ≡ false) where
    pub does_turn : ((olds news : List SpoolRecord) → Stores seen may_leave is_usable old olds news → AreInOrder olds news
        → (os : List SpoolRecord) × (ns : List SpoolRecord) × Stores seen may_leave is_usable new os ns × AreInOrder os ns × (waiting (os ++ ns) ≡ waiting (olds ++ news)))
        → Does seen may_leave is_usable Turns true old new
    does_turn turn = record {
      done = λ ok waits rests. let it = turn rests.olds rests.news rests.kept rests.in_order in record { olds = it.0; news = it.1; kept = it.2; in_order = it.3; wait = it.4 ∙ rests.wait };
      left = λ err. cc;
      failed = λ err. cc;
      refused = λ refuses. cc;
    }

    pub may_have_turned : ((olds news : List SpoolRecord) → Stores seen may_leave is_usable old olds news → AreInOrder olds news → (older newer : List ℕ) → MayLeaveBoth may_leave new older newer
        → (os : List SpoolRecord) × (ns : List SpoolRecord) × TellBoth older newer os ns × IsOrderFound os ns × (waiting (os ++ ns) ≡ waiting (olds ++ news))) → new.refuses ≡ true → Does seen may_leave is_usable Turns false old new
    may_have_turned crash refuses = record {
      done = λ ok. cc;
      left = λ err waits rests older newer left.
          let it = crash rests.olds rests.news rests.kept rests.in_order older newer left in
          (waits, record { olds = it.0; news = it.1; tell = it.2; in_order = it.3; wait = it.4 ∙ rests.wait }, inl refl);
      failed = λ err. inl refuses;
      refused = λ was. cc;
    }

-- ---- many calls

module _ {D : Type 0} (seen : D → List ℕ) (may_leave : D → List ℕ → Type 0) (is_usable : D → Bool) where
  -- all that answered `Ok` is done, and the spool goes on; or it refuses, and one call more may be done
  abbrev StandsSo : List AnsweredCall → Spool D → List PageValue → Type 0
  StandsSo calls last waits =
      Rests seen may_leave is_usable last (done_by_all calls waits)
      ⊎ (Refuses last × EachCrashTells may_leave last (DoneButOne calls waits))

  but_one : (call : Call) (is_ok : Bool) (earlier : List AnsweredCall) (waits told : List PageValue) → is_ok ≡ false → DoneButOne earlier waits told → DoneButOne (record { call = call; is_ok = is_ok } ∷ earlier) waits told
  but_one call true earlier waits told err (inl same) = cc
  but_one call true earlier waits told err (inr one) = cc
  but_one call false earlier waits told err (inl same) = inl same
  but_one call false earlier waits told err (inr one) = inr (one.0, inr one.1, one.2)

  next_call : (call : Call) (is_ok : Bool) (earlier : List AnsweredCall) (between last : Spool D) (waits : List PageValue) → Does seen may_leave is_usable call is_ok between last → StandsSo earlier between waits
      → StandsSo (record { call = call; is_ok = is_ok } ∷ earlier) last waits
  next_call call true earlier between last waits does (inl rests) = inl (does.done refl (done_by_all earlier waits) rests)
  next_call call true earlier between last waits does (inr refuses) = let no = (does.refused refuses.0).0 in cc
  next_call call false earlier between last waits does (inl rests) = elim (does.failed refl) [
    | inl refuses ↦ inr (
      refuses,
      λ older newer left.
          let it = does.left refl (done_by_all earlier waits) rests older newer left in
          (it.0, it.1, elim it.2 [ inl same ↦ inl same | inr done ↦ inr (call, inl refl, done) ]),
    )
    | inr same ↦ inl (record { olds = rests.olds; news = rests.news; kept = same.keeps rests.olds rests.news rests.kept; in_order = rests.in_order; wait = rests.wait })
  ]
  next_call call false earlier between last waits does (inr refuses) =
      let same = (does.refused refuses.0).1 in
      subst (λ (s : Spool D). StandsSo (record { call = call; is_ok = false } ∷ earlier) s waits) (sym same)
      (inr (refuses.0, λ older newer left. let it = refuses.1 older newer left in (it.0, it.1, but_one call false earlier waits it.0 refl it.2)))

  stands_so : (calls : List AnsweredCall) (first last : Spool D) (waits : List PageValue) → WereMade seen may_leave is_usable calls first last → Rests seen may_leave is_usable first waits → StandsSo calls last waits
  stands_so [] first last waits same rests = inl (subst (λ (s : Spool D). Rests seen may_leave is_usable s waits) (sym same) rests)
  stands_so (made ∷ earlier) first last waits were rests = next_call made.call made.is_ok earlier were.0 last waits were.2 (stands_so earlier first were.0 waits were.1 rests)

pub one_without_an_ok : {D : Type 0} (seen : D → List ℕ) (may_leave : D → List ℕ → Type 0) (is_usable : D → Bool) → OneWithoutAnOk seen may_leave is_usable
one_without_an_ok seen may_leave is_usable calls first last waits were rests = elim (stands_so seen may_leave is_usable calls first last waits were rests) [
  | inl done ↦ λ older newer left.
      let it = rests_told seen may_leave is_usable last last (done_by_all calls waits) done older newer left in
      (it.0, it.1, inl it.2)
  | inr refuses ↦ refuses.1
]
