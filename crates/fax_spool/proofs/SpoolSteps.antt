-- What the calls of a spool make of its records.
use Rattle.std.proofs.Common.{◌≡◌, ◌⊎◌, inl, inr, ℕ, ◌≤◌, Bool, true, List, [], ◌∷◌, ◌++◌, map, max, refl, sym, ◌∙◌, ap, subst, arith, append_assoc}
use Rattle.std.proofs.lemmas.List.{append-nil}
use Rattle.fax_spool.specs.Records.{Stands}
use Rattle.fax_spool.specs.Settled.{IsSettled}
use Rattle.fax_spool.specs.RecordOctets.{EndedValue, PageValue}
use Rattle.fax_spool.specs.SpoolRecords.{IsReadAs, AreReadAs, ended_record, page_record}
use Rattle.fax_spool.specs.Waits.{left_of, after, left_after, waiting_after, waiting, without, without_all}
use Rattle.fax_spool.specs.StoredPages.{AreKnownAs, is_in_memory, put_again}
use Rattle.fax_spool.specs.Spools.{epoch_of, epoch_records, greatest_after, greatest_epoch, raised, Tells, MayLeaveBoth, Stores, NoneIsLeft, TellBoth}
use Rattle.fax_spool.specs.declared.file.RecordFile.{RecordFile}
use Rattle.fax_spool.specs.declared.spool.Spool.{Spool}
use Rattle.fax_spool.specs.declared.spool_record.SpoolRecord.{SpoolRecord}
use Rattle.fax_spool.specs.declared.spool_record.SpoolRecord.TheVariants.{Page, Ended, Epoch, Damaged}
use Rattle.fax_spool.proofs.Again.{greatest_again, left_again, waits_again}
use Rattle.std.specs.List.{list_all}
use Rattle.fax_spool.proofs.KnownPages.{kept_anywhere, kept_append, kept_more, no_pages, none_anywhere, same_kept}
pub use Rattle.fax_spool.proofs.ReadRecords.{read_all_through, read_append, read_push, read_through}
use Rattle.fax_spool.proofs.Shares.{shares}
use Rattle.fax_spool.proofs.Steps.{rests, none_open}

-- pages end none of those before them
left_pages : (waits : List PageValue) (records : List SpoolRecord) (pages : List PageValue) → left_after waits (records ++ map page_record pages) ≡ left_after waits records
left_pages waits [] [] = refl
left_pages waits [] (p ∷ pages) = left_pages waits [] pages
left_pages waits (q ∷ records) pages = left_pages (left_of waits q) records pages

-- and each of them waits
pub waiting_pages : (waits : List PageValue) (records : List SpoolRecord) (pages : List PageValue) → waiting_after waits (records ++ map page_record pages) ≡ waiting_after waits records ++ pages
waiting_pages waits [] [] = sym (append-nil waits)
waiting_pages waits [] (p ∷ pages) = waiting_pages (waits ++ p ∷ []) [] pages ∙ append_assoc waits (p ∷ []) pages
waiting_pages waits (q ∷ records) pages = waiting_pages (after waits q) records pages

greatest_pages : (records : List SpoolRecord) (pages : List PageValue) (most : ℕ) → greatest_after most (records ++ map page_record pages) ≡ greatest_after most records
greatest_pages [] [] most = refl
greatest_pages [] (p ∷ pages) most = greatest_pages [] pages most
greatest_pages (r ∷ records) pages most = greatest_pages records pages (raised most r)

greatest_push : (records : List SpoolRecord) (r : SpoolRecord) (most : ℕ) → greatest_after most (records ++ r ∷ []) ≡ raised (greatest_after most records) r
greatest_push [] r most = refl
greatest_push (q ∷ records) r most = greatest_push records r (raised most q)

greatest_epochs : (records : List SpoolRecord) (number most : ℕ) → greatest_after most (records ++ epoch_records number) ≡ max (max (greatest_after most records) number) number
greatest_epochs [] number most = refl
greatest_epochs (r ∷ records) number most = greatest_epochs records number (raised most r)

-- more records, one after the other
left_records : (waits : List PageValue) (records more : List SpoolRecord) → left_after waits (records ++ more) ≡ left_after (left_after waits records) more
left_records waits [] more = refl
left_records waits (r ∷ records) more = left_records (left_of waits r) records more

waiting_records : (waits : List PageValue) (records more : List SpoolRecord) → waiting_after waits (records ++ more) ≡ waiting_after (waiting_after waits records) more
waiting_records waits [] more = refl
waiting_records waits (r ∷ records) more = waiting_records (after waits r) records more

-- those of ends of jobs
left_ends : (waits : List PageValue) (es : List EndedValue) → left_after waits (map ended_record es) ≡ without_all es waits
left_ends waits [] = refl
left_ends waits (e ∷ es) = left_ends (without e waits) es

waiting_ends : (waits : List PageValue) (es : List EndedValue) → waiting_after waits (map ended_record es) ≡ without_all es waits
waiting_ends waits [] = refl
waiting_ends waits (e ∷ es) = waiting_ends (without e waits) es

greatest_ends : (records : List SpoolRecord) (es : List EndedValue) (most : ℕ) → greatest_after most (records ++ map ended_record es) ≡ greatest_after most records
greatest_ends [] [] most = refl
greatest_ends [] (e ∷ es) most = greatest_ends [] es most
greatest_ends (r ∷ records) es most = greatest_ends records es (raised most r)

pub more_ends : (es : List EndedValue) (olds news : List SpoolRecord) → waiting (olds ++ (news ++ map ended_record es)) ≡ without_all es (waiting (olds ++ news))
more_ends es olds news =
    ap (λ (l : List SpoolRecord). waiting l) (sym (append_assoc olds news (map ended_record es))) ∙ waiting_records [] (olds ++ news) (map ended_record es) ∙ waiting_ends (waiting (olds ++ news)) es

-- the records of an epoch end no page, and no page waits by them
left_epochs : (pages : List PageValue) (records : List SpoolRecord) (number : ℕ) → left_after pages (records ++ epoch_records number) ≡ left_after pages records
left_epochs pages [] number = refl
left_epochs pages (r ∷ records) number = left_epochs (left_of pages r) records number

pub waiting_epochs : (pages : List PageValue) (records : List SpoolRecord) (number : ℕ) → waiting_after pages (records ++ epoch_records number) ≡ waiting_after pages records
waiting_epochs pages [] number = refl
waiting_epochs pages (r ∷ records) number = waiting_epochs (after pages r) records number

pub read_none : (records : List SpoolRecord) → AreReadAs [] records → records ≡ []
read_none [] are = refl
read_none (r ∷ records) are = absurd are

pub left_push : (pages : List PageValue) (records : List SpoolRecord) (r : SpoolRecord) → left_after pages (records ++ r ∷ []) ≡ left_of (left_after pages records) r
left_push pages [] r = refl
left_push pages (q ∷ records) r = left_push (left_of pages q) records r

pub waiting_push : (pages : List PageValue) (records : List SpoolRecord) (r : SpoolRecord) → waiting_after pages (records ++ r ∷ []) ≡ after (waiting_after pages records) r
waiting_push pages [] r = refl
waiting_push pages (q ∷ records) r = waiting_push (after pages q) records r

none_left_of : (r : SpoolRecord) → left_of [] r ≡ []
none_left_of (Page page) = refl
none_left_of (Ended ended) = refl
none_left_of (Epoch number) = refl
none_left_of Damaged = refl

pub none_left : (records : List SpoolRecord) → left_after [] records ≡ []
none_left [] = refl
none_left (r ∷ records) = ap (λ (l : List PageValue). left_after l records) (none_left_of r) ∙ none_left records

epoch_push : (records : List SpoolRecord) (r : SpoolRecord) (most : ℕ) → greatest_epoch records ≤ most → greatest_epoch (r ∷ []) ≤ most → greatest_epoch (records ++ r ∷ []) ≤ most
epoch_push records (Page page) most was is = omega (arith, greatest_push records (Page page) 0, was)
epoch_push records (Ended ended) most was is = omega (arith, greatest_push records (Ended ended) 0, was)
epoch_push records (Epoch number) most was is = omega (arith, greatest_push records (Epoch number) 0, was, is)
epoch_push records Damaged most was is = omega (arith, greatest_push records Damaged 0, was)

grows : (most : ℕ) (records : List SpoolRecord) → most ≤ greatest_after most records
grows most [] = omega arith
grows most (Page page ∷ records) = grows most records
grows most (Ended ended ∷ records) = grows most records
grows most (Epoch number ∷ records) = omega (arith, grows (max most number) records)
grows most (Damaged ∷ records) = grows most records

within_after : (most : ℕ) (records : List SpoolRecord) → epoch_of records ≤ greatest_after most records
within_after most [] = omega arith
within_after most (Page page ∷ records) = within_after most records
within_after most (Ended ended ∷ records) = within_after most records
within_after most (Epoch number ∷ records) = omega (arith, grows (max most number) records)
within_after most (Damaged ∷ records) = within_after most records

pub first_within : (records : List SpoolRecord) → epoch_of records ≤ greatest_epoch records
first_within records = within_after 0 records

-- two files that were recovered
pub begun : {D : Type 0} (seen : D → List ℕ) (may_leave : D → List ℕ → Type 0) (is_usable : D → Bool) (spool : Spool D) (olds news : List SpoolRecord) (older_items newer_items : List (List ℕ))
    → IsSettled seen may_leave is_usable spool.older.disk spool.older.end older_items → AreReadAs older_items olds
    → IsSettled seen may_leave is_usable spool.newer.disk spool.newer.end newer_items → AreReadAs newer_items news
    → AreKnownAs older_items spool.older_pages.items (left_after (waiting olds) news) → AreKnownAs newer_items spool.newer_pages.items (waiting news)
    → greatest_epoch news ≤ spool.epoch → Stores seen may_leave is_usable spool olds news
begun seen may_leave is_usable spool olds news older_items newer_items older olds_read newer news_read older_kept newer_kept most = record {
  older_items = older_items;
  newer_items = newer_items;
  older = older;
  newer = newer;
  older_read = olds_read;
  newer_read = news_read;
  older_waits = older_kept;
  newer_waits = newer_kept;
  epoch = most;
}

module _ {D : Type 0} (seen : D → List ℕ) (may_leave : D → List ℕ → Type 0) (is_usable : D → Bool) (old new : Spool D) (olds news : List SpoolRecord) (k : Stores seen may_leave is_usable old olds news) where
  older_tells : (c : List ℕ) → may_leave old.older.disk c → Tells c olds
  older_tells c left = record { items = k.older_items; stands = rests _ _ _ _ _ _ k.older c left; read = k.older_read }

  newer_tells : (c : List ℕ) → may_leave old.newer.disk c → Tells c news
  newer_tells c left = record { items = k.newer_items; stands = rests _ _ _ _ _ _ k.newer c left; read = k.newer_read }

  -- a call that does nothing to the files
  pub at_rest : (older newer : List ℕ) → MayLeaveBoth may_leave old older newer → TellBoth older newer olds news
  at_rest older newer left = (older_tells older left.0, newer_tells newer left.1)

  -- one more record
  pub keeps_more : (item : List ℕ) (r : SpoolRecord) → IsReadAs item r → new.older ≡ old.older
      → IsSettled seen may_leave is_usable new.newer.disk new.newer.end (k.newer_items ++ item ∷ [])
      → AreKnownAs k.older_items new.older_pages.items (left_of (left_after (waiting olds) news) r)
      → AreKnownAs (k.newer_items ++ item ∷ []) new.newer_pages.items (after (waiting news) r)
      → old.epoch ≤ new.epoch → greatest_epoch (r ∷ []) ≤ new.epoch → Stores seen may_leave is_usable new olds (news ++ r ∷ [])
  keeps_more item r is same settled older newer grows epoch = record {
    older_items = k.older_items;
    newer_items = k.newer_items ++ item ∷ [];
    older = subst (λ (f : RecordFile D). IsSettled seen may_leave is_usable f.disk f.end k.older_items) (sym same) k.older;
    newer = settled;
    older_read = k.older_read;
    newer_read = read_push k.newer_items news item r k.newer_read is;
    older_waits = same_kept _ _ _ _ _ refl (left_push (waiting olds) news r) older;
    newer_waits = same_kept _ _ _ _ _ refl (waiting_push [] news r) newer;
    epoch = epoch_push news r new.epoch (omega (arith, k.epoch, grows)) epoch;
  }

  pub leaves_more : (item : List ℕ) (r : SpoolRecord) → IsReadAs item r → new.older ≡ old.older
      → ((rs : List (List ℕ)) → IsSettled seen may_leave is_usable old.newer.disk old.newer.end rs → (c : List ℕ) → may_leave new.newer.disk c → Stands c rs ⊎ Stands c (rs ++ item ∷ []))
      → (older newer : List ℕ) → MayLeaveBoth may_leave new older newer → TellBoth older newer olds news ⊎ TellBoth older newer olds (news ++ r ∷ [])
  leaves_more item r is same crash older newer left =
      let first : Tells older olds = older_tells older (subst (λ (f : RecordFile D). may_leave f.disk older) same left.0) in
      elim (crash k.newer_items k.newer newer left.1) [
        | inl stands ↦ inl (first, record { items = k.newer_items; stands = stands; read = k.newer_read })
        | inr stands ↦ inr (first, record { items = k.newer_items ++ item ∷ []; stands = stands; read = read_push k.newer_items news item r k.newer_read is })
      ]

  -- the records of pages, one after the other
  pub keeps_pages : (items : List (List ℕ)) (pages : List PageValue) → AreReadAs items (map page_record pages) → new.older ≡ old.older
      → IsSettled seen may_leave is_usable new.newer.disk new.newer.end (k.newer_items ++ items)
      → new.older_pages.items ≡ old.older_pages.items → AreKnownAs (k.newer_items ++ items) new.newer_pages.items (waiting news ++ pages) → new.epoch ≡ old.epoch
      → Stores seen may_leave is_usable new olds (news ++ map page_record pages)
  keeps_pages items pages are same settled older newer epoch = record {
    older_items = k.older_items;
    newer_items = k.newer_items ++ items;
    older = subst (λ (f : RecordFile D). IsSettled seen may_leave is_usable f.disk f.end k.older_items) (sym same) k.older;
    newer = settled;
    older_read = k.older_read;
    newer_read = read_append k.newer_items items news (map page_record pages) k.newer_read are;
    older_waits = same_kept _ _ _ _ _ older (left_pages (waiting olds) news pages) k.older_waits;
    newer_waits = same_kept _ _ _ _ _ refl (waiting_pages [] news pages) newer;
    epoch = omega (arith, greatest_pages news pages 0, k.epoch, epoch);
  }

  pub leaves_pages : (items : List (List ℕ)) (pages : List PageValue) → AreReadAs items (map page_record pages) → new.older ≡ old.older
      → ((rs : List (List ℕ)) → IsSettled seen may_leave is_usable old.newer.disk old.newer.end rs → (c : List ℕ) → may_leave new.newer.disk c → Stands c rs ⊎ Stands c (rs ++ items))
      → (older newer : List ℕ) → MayLeaveBoth may_leave new older newer → TellBoth older newer olds news ⊎ TellBoth older newer olds (news ++ map page_record pages)
  leaves_pages items pages are same crash older newer left =
      let first : Tells older olds = older_tells older (subst (λ (f : RecordFile D). may_leave f.disk older) same left.0) in
      elim (crash k.newer_items k.newer newer left.1) [
        | inl stands ↦ inl (first, record { items = k.newer_items; stands = stands; read = k.newer_read })
        | inr stands ↦ inr (first, record { items = k.newer_items ++ items; stands = stands; read = read_append k.newer_items items news (map page_record pages) k.newer_read are })
      ]

  -- the records of ends of jobs
  pub keeps_ends : (items : List (List ℕ)) (es : List EndedValue) → AreReadAs items (map ended_record es) → new.older ≡ old.older
      → IsSettled seen may_leave is_usable new.newer.disk new.newer.end (k.newer_items ++ items)
      → AreKnownAs k.older_items new.older_pages.items (without_all es (left_after (waiting olds) news)) → AreKnownAs (k.newer_items ++ items) new.newer_pages.items (without_all es (waiting news))
      → new.epoch ≡ old.epoch → Stores seen may_leave is_usable new olds (news ++ map ended_record es)
  keeps_ends items es are same settled older newer epoch = record {
    older_items = k.older_items;
    newer_items = k.newer_items ++ items;
    older = subst (λ (f : RecordFile D). IsSettled seen may_leave is_usable f.disk f.end k.older_items) (sym same) k.older;
    newer = settled;
    older_read = k.older_read;
    newer_read = read_append k.newer_items items news (map ended_record es) k.newer_read are;
    older_waits = same_kept _ _ _ _ _ refl (left_records (waiting olds) news (map ended_record es) ∙ left_ends (left_after (waiting olds) news) es) older;
    newer_waits = same_kept _ _ _ _ _ refl (waiting_records [] news (map ended_record es) ∙ waiting_ends (waiting news) es) newer;
    epoch = omega (arith, greatest_ends news es 0, k.epoch, epoch);
  }

  pub leaves_ends : (items : List (List ℕ)) (es : List EndedValue) → AreReadAs items (map ended_record es) → new.older ≡ old.older
      → ((rs : List (List ℕ)) → IsSettled seen may_leave is_usable old.newer.disk old.newer.end rs → (c : List ℕ) → may_leave new.newer.disk c → Stands c rs ⊎ Stands c (rs ++ items))
      → (older newer : List ℕ) → MayLeaveBoth may_leave new older newer → TellBoth older newer olds news ⊎ TellBoth older newer olds (news ++ map ended_record es)
  leaves_ends items es are same crash older newer left =
      let first : Tells older olds = older_tells older (subst (λ (f : RecordFile D). may_leave f.disk older) same left.0) in
      elim (crash k.newer_items k.newer newer left.1) [
        | inl stands ↦ inl (first, record { items = k.newer_items; stands = stands; read = k.newer_read })
        | inr stands ↦ inr (first, record { items = k.newer_items ++ items; stands = stands; read = read_append k.newer_items items news (map ended_record es) k.newer_read are })
      ]

  -- all pages that wait, put again
  pub keeps_again : (items : List (List ℕ)) → AreReadAs items (put_again (waiting (olds ++ news))) → new.older ≡ old.older
      → IsSettled seen may_leave is_usable new.newer.disk new.newer.end (k.newer_items ++ items)
      → new.older_pages.items ≡ [] → new.newer_pages.items ≡ old.older_pages.items ++ old.newer_pages.items
      → list_all is_in_memory old.older_pages.items ≡ true → list_all is_in_memory old.newer_pages.items ≡ true → new.epoch ≡ old.epoch
      → Stores seen may_leave is_usable new olds (news ++ put_again (waiting (olds ++ news)))
  keeps_again items are same settled older newer olds_there news_there epoch = record {
    older_items = k.older_items;
    newer_items = k.newer_items ++ items;
    older = subst (λ (f : RecordFile D). IsSettled seen may_leave is_usable f.disk f.end k.older_items) (sym same) k.older;
    newer = settled;
    older_read = k.older_read;
    newer_read = read_append k.newer_items items news (put_again (waiting (olds ++ news))) k.newer_read are;
    older_waits = same_kept _ [] _ [] _ older (left_again olds news) tt;
    newer_waits = same_kept _ _ _ _ _ newer (waits_again olds news ∙ shares olds news)
        (kept_append _ _ _ _ _ (kept_anywhere _ _ _ _ olds_there k.older_waits) (kept_anywhere _ _ _ _ news_there k.newer_waits));
    epoch = omega (arith, greatest_again news (waiting (olds ++ news)) 0, k.epoch, epoch);
  }

  pub leaves_again : (items : List (List ℕ)) → AreReadAs items (put_again (waiting (olds ++ news))) → new.older ≡ old.older
      → ((rs : List (List ℕ)) → IsSettled seen may_leave is_usable old.newer.disk old.newer.end rs → (c : List ℕ) → may_leave new.newer.disk c → Stands c rs ⊎ Stands c (rs ++ items))
      → (older newer : List ℕ) → MayLeaveBoth may_leave new older newer → TellBoth older newer olds news ⊎ TellBoth older newer olds (news ++ put_again (waiting (olds ++ news)))
  leaves_again items are same crash older newer left =
      let first : Tells older olds = older_tells older (subst (λ (f : RecordFile D). may_leave f.disk older) same left.0) in
      elim (crash k.newer_items k.newer newer left.1) [
        | inl stands ↦ inl (first, record { items = k.newer_items; stands = stands; read = k.newer_read })
        | inr stands ↦ inr (first, record { items = k.newer_items ++ items; stands = stands; read = read_append k.newer_items items news (put_again (waiting (olds ++ news))) k.newer_read are })
      ]

  -- the records of an epoch
  pub keeps_epochs : (items : List (List ℕ)) (number : ℕ) → AreReadAs items (epoch_records number) → new.older ≡ old.older
      → IsSettled seen may_leave is_usable new.newer.disk new.newer.end (k.newer_items ++ items)
      → new.older_pages.items ≡ old.older_pages.items → new.newer_pages.items ≡ old.newer_pages.items → old.epoch ≤ new.epoch → number ≤ new.epoch
      → Stores seen may_leave is_usable new olds (news ++ epoch_records number)
  keeps_epochs items number are same settled older newer grow epoch = record {
    older_items = k.older_items;
    newer_items = k.newer_items ++ items;
    older = subst (λ (f : RecordFile D). IsSettled seen may_leave is_usable f.disk f.end k.older_items) (sym same) k.older;
    newer = settled;
    older_read = k.older_read;
    newer_read = read_append k.newer_items items news (epoch_records number) k.newer_read are;
    older_waits = same_kept _ _ _ _ _ older (left_epochs (waiting olds) news number) k.older_waits;
    newer_waits = same_kept _ _ _ _ _ newer (waiting_epochs [] news number) (kept_more _ items _ _ k.newer_waits);
    epoch = omega (arith, k.epoch, grow, epoch, greatest_epochs news number 0);
  }

  -- no page of the older file waits
  pub none_waits : old.older_pages.items ≡ [] → NoneIsLeft olds news
  none_waits none = no_pages k.older_items (left_after (waiting olds) news) (same_kept _ _ _ _ _ (sym none) refl k.older_waits)

  pub keeps_cleared : IsSettled seen may_leave is_usable new.older.disk new.older.end [] → new.newer ≡ old.newer → new.older_pages.items ≡ [] → new.newer_pages.items ≡ old.newer_pages.items → new.epoch ≡ old.epoch
      → Stores seen may_leave is_usable new [] news
  keeps_cleared settled same none names epoch = record {
    older_items = [];
    newer_items = k.newer_items;
    older = settled;
    newer = subst (λ (f : RecordFile D). IsSettled seen may_leave is_usable f.disk f.end k.newer_items) (sym same) k.newer;
    older_read = tt;
    newer_read = k.newer_read;
    older_waits = same_kept _ [] _ [] _ none (none_left news) tt;
    newer_waits = same_kept _ _ _ _ _ names refl k.newer_waits;
    epoch = omega (arith, k.epoch, epoch);
  }

  pub leaves_cleared : old.older_pages.items ≡ [] → new.newer ≡ old.newer
      → ((rs : List (List ℕ)) → IsSettled seen may_leave is_usable old.older.disk old.older.end rs → (c : List ℕ) → may_leave new.older.disk c → Stands c rs ⊎ Stands c [])
      → (older newer : List ℕ) → MayLeaveBoth may_leave new older newer → TellBoth older newer olds news ⊎ (NoneIsLeft olds news × TellBoth older newer [] news)
  leaves_cleared none same crash older newer left =
      let second : Tells newer news = newer_tells newer (subst (λ (f : RecordFile D). may_leave f.disk newer) same left.1) in
      elim (crash k.older_items k.older older left.0) [
        | inl stands ↦ inl (record { items = k.older_items; stands = stands; read = k.older_read }, second)
        | inr stands ↦ inr (none_waits none, (record { items = []; stands = stands; read = tt }, second))
      ]

  -- the older file is empty
  none_there : old.older.end ≡ 0 → k.older_items ≡ []
  none_there empty = none_open k.older.front k.older_items k.older.read (sym k.older.place ∙ empty)

  pub none_told : old.older.end ≡ 0 → olds ≡ []
  none_told empty = read_none olds (subst (λ (l : List (List ℕ)). AreReadAs l olds) (none_there empty) k.older_read)

  -- the older file is the newer one now, with the records of an epoch
  pub keeps_changed : old.older.end ≡ 0 → (items : List (List ℕ)) (number : ℕ) → AreReadAs items (epoch_records number) → new.older ≡ old.newer
      → ((rs : List (List ℕ)) → IsSettled seen may_leave is_usable old.older.disk old.older.end rs → IsSettled seen may_leave is_usable new.newer.disk new.newer.end (rs ++ items))
      → new.older_pages.items ≡ old.newer_pages.items → new.newer_pages.items ≡ old.older_pages.items → number ≤ new.epoch
      → Stores seen may_leave is_usable new news (epoch_records number)
  keeps_changed empty items number are same settled older newer epoch = record {
    older_items = k.newer_items;
    newer_items = items;
    older = subst (λ (f : RecordFile D). IsSettled seen may_leave is_usable f.disk f.end k.newer_items) (sym same) k.newer;
    newer = subst (λ (l : List (List ℕ)). IsSettled seen may_leave is_usable new.newer.disk new.newer.end (l ++ items)) (none_there empty) (settled k.older_items k.older);
    older_read = k.newer_read;
    newer_read = are;
    older_waits = same_kept _ _ _ _ _ older refl k.newer_waits;
    newer_waits = same_kept _ _ _ _ _ newer refl
        (none_anywhere _ _ _ (same_kept _ _ _ _ _ refl (sym (ap (λ (l : List SpoolRecord). left_after (waiting l) news) (none_told empty) ∙ none_left news)) k.older_waits));
    epoch = omega (arith, epoch);
  }

  pub leaves_changed : old.older.end ≡ 0 → (items : List (List ℕ)) (number : ℕ) → AreReadAs items (epoch_records number) → new.older ≡ old.newer
      → ((rs : List (List ℕ)) → IsSettled seen may_leave is_usable old.older.disk old.older.end rs → (c : List ℕ) → may_leave new.newer.disk c → Stands c rs ⊎ Stands c (rs ++ items))
      → (older newer : List ℕ) → MayLeaveBoth may_leave new older newer → TellBoth older newer news [] ⊎ TellBoth older newer news (epoch_records number)
  leaves_changed empty items number are same crash older newer left =
      let first : Tells older news = newer_tells older (subst (λ (f : RecordFile D). may_leave f.disk older) same left.0) in
      elim (crash k.older_items k.older newer left.1) [
        | inl stands ↦ inl (first, record { items = []; stands = subst (λ (l : List (List ℕ)). Stands newer l) (none_there empty) stands; read = tt })
        | inr stands ↦ inr (first, record { items = items; stands = subst (λ (l : List (List ℕ)). Stands newer (l ++ items)) (none_there empty) stands; read = are })
      ]
