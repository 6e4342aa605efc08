-- A file that was read while it is in use.
use Rattle.std.proofs.Common.{◌≡◌, ◌+◌, ◌<◌, ◌≤◌, ℕ, Bool, true, false, cond, IsTrue, List, [], ◌∷◌, ◌++◌, length, take, get_or, refl, sym, ap, ◌∙◌, append_assoc}
use Rattle.std.proofs.lemmas.List.{append-nil, take_all, take_more}
use Rattle.std.proofs.lemmas.List.Elements.{filter-append}
use Rattle.fax_spool.specs.RecordOctets.{EndedValue, PageValue}
use Rattle.fax_spool.specs.SpoolRecords.{IsReadAs}
use Rattle.fax_spool.specs.Waits.{PageName, ended_by, ends, left_after, name_of, waiting}
use Rattle.fax_spool.specs.declared.spool_record.SpoolRecord.{SpoolRecord}
use Rattle.fax_spool.specs.declared.spool_record.SpoolRecord.TheVariants.{Page}
use Rattle.fax_spool.proofs.Digests.{seals_are_one}
use Rattle.fax_spool.proofs.Shares.{shares}
use Rattle.fax_spool.proofs.Told.{same_page}
use Rattle.fax_spool.specs.Settled.{IsSettled}
use Rattle.fax_spool.specs.Calls.{IsRead}
use Rattle.fax_spool.specs.declared.file.RecordFile.{RecordFile}
use Rattle.fax_spool.specs.declared.spool.Spool.{Spool}

module _ {D : Type 0} (seen : D → List ℕ) (may_leave : D → List ℕ → Type 0) (is_usable : D → Bool) (old : D) (at : ℕ) (rs : List (List ℕ)) (s : IsSettled seen may_leave is_usable old at rs) where
  -- it stays settled
  pub settled_still : (new : D) → seen new ≡ seen old → ((c : List ℕ) → may_leave new c → may_leave old c) → IsTrue (is_usable new) → IsSettled seen may_leave is_usable new at rs
  settled_still new same crash usable = record {
    front = s.front;
    gate = s.gate;
    after = s.after;
    file = same ∙ s.file;
    read = s.read;
    place = s.place;
    three = s.three;
    closed = s.closed;
    durable = λ c left. s.durable c (crash c left) ∙ sym same;
    usable = usable;
  }

-- the pages of the older file, and then those of the newer one
pub ended_both : (e : EndedValue) (olds news : List SpoolRecord) (none first both : List PageValue) → none ≡ [] → first ≡ none ++ ended_by e (left_after (waiting olds) news) → both ≡ first ++ ended_by e (waiting news)
    → both ≡ ended_by e (waiting (olds ++ news))
ended_both e olds news none first both empty older newer =
    newer ∙ ap (λ (l : List PageValue). l ++ ended_by e (waiting news)) (older ∙ ap (λ (l : List PageValue). l ++ ended_by e (left_after (waiting olds) news)) empty)
    ∙ sym (filter-append (λ (page : PageValue). ends e (name_of page)) (left_after (waiting olds) news) (waiting news))
    ∙ ap (λ (l : List PageValue). ended_by e l) (sym (shares olds news))

-- ---- one page more

pub none_ended : (e : EndedValue) (page : PageValue) (name : PageName) (found : List PageValue) → name ≡ name_of page → ends e name ≡ false → found ≡ found ++ ended_by e (page ∷ [])
none_ended e page name found named none =
    let is : ends e (name_of page) ≡ false = ap (λ (n : PageName). ends e n) (sym named) ∙ none in
    sym (ap (λ (b : Bool). found ++ cond b (page ∷ []) []) is ∙ append-nil found)

pub one_ended : (e : EndedValue) (page read : PageValue) (name : PageName) (before after : List PageValue) → name ≡ name_of page → ends e name ≡ true → after ≡ before ++ read ∷ [] → read ≡ page → after ≡ before ++ ended_by e (page ∷ [])
one_ended e page read name before after named ended pushed same =
    let is : ends e (name_of page) ≡ true = ap (λ (n : PageName). ends e n) (sym named) ∙ ended in
    pushed ∙ ap (λ (p : PageValue). before ++ p ∷ []) same ∙ sym (ap (λ (b : Bool). before ++ cond b (page ∷ []) []) is)

pub none_yet : (e : EndedValue) (start pages : List PageValue) → start ≡ start ++ ended_by e (take 0 pages)
none_yet e start pages = sym (append-nil start)

pub next_ended : (e : EndedValue) (pages : List PageValue) (i : ℕ) (page : PageValue) (before after : List PageValue) → i < length pages → get_or pages i page ≡ page
    → after ≡ before ++ ended_by e (page ∷ []) → (start : List PageValue) → before ≡ start ++ ended_by e (take i pages) → after ≡ start ++ ended_by e (take (i + 1) pages)
next_ended e pages i page before after lt got pushed start was =
    let more : take (i + 1) pages ≡ take i pages ++ page ∷ [] = take_more pages i page lt ∙ ap (λ (p : PageValue). take i pages ++ p ∷ []) got in
    pushed ∙ ap (λ (l : List PageValue). l ++ ended_by e (page ∷ [])) was ∙ append_assoc start (ended_by e (take i pages)) (ended_by e (page ∷ []))
    ∙ ap (λ (l : List PageValue). start ++ l) (sym (filter-append (λ (p : PageValue). ends e (name_of p)) (take i pages) (page ∷ [])) ∙ ap (λ (l : List PageValue). ended_by e l) (sym more))

pub all_ended : (e : EndedValue) (pages : List PageValue) (i : ℕ) (found start : List PageValue) → length pages ≤ i → found ≡ start ++ ended_by e (take i pages) → found ≡ start ++ ended_by e pages
all_ended e pages i found start all was = was ∙ ap (λ (l : List PageValue). start ++ ended_by e l) (take_all i pages all)

-- ---- the octets of one record say one page

pub one_page : (octets : List ℕ) (page other : PageValue) → IsReadAs octets (Page page) → IsReadAs octets (Page other) → page ≡ other
one_page octets page other is are = same_page page other is.1 are.1 (seals_are_one _ _ (sym is.0 ∙ are.0))

-- ---- a spool whose files were read
module _ {D : Type 0} (seen : D → List ℕ) (may_leave : D → List ℕ → Type 0) (is_usable : D → Bool) (old : Spool D) (older newer : RecordFile D) where
  pub is_read : ((rs : List (List ℕ)) → IsSettled seen may_leave is_usable old.older.disk old.older.end rs → IsSettled seen may_leave is_usable older.disk older.end rs)
      → ((rs : List (List ℕ)) → IsSettled seen may_leave is_usable old.newer.disk old.newer.end rs → IsSettled seen may_leave is_usable newer.disk newer.end rs)
      → ((c : List ℕ) → may_leave older.disk c → may_leave old.older.disk c) → ((c : List ℕ) → may_leave newer.disk c → may_leave old.newer.disk c)
      → IsRead seen may_leave is_usable old (record old { older = older; newer = newer })
  is_read older_stays newer_stays older_left newer_left = record {
    keeps = λ olds news k. record {
      older_items = k.older_items;
      newer_items = k.newer_items;
      older = older_stays k.older_items k.older;
      newer = newer_stays k.newer_items k.newer;
      older_read = k.older_read;
      newer_read = k.newer_read;
      older_waits = k.older_waits;
      newer_waits = k.newer_waits;
      epoch = k.epoch;
    };
    crash = λ one other left. (older_left one left.0, newer_left other left.1);
    refuses = refl;
    epoch = refl;
  }
