-- The order of both files, by their first epochs.
use Rattle.std.proofs.Common.{◌≡◌, ◌⊎◌, ◌<◌, ◌≤◌, inl, inr, ℕ, Bool, true, false, cond, List, [], ◌∷◌, ◌++◌, map, refl, sym, ◌∙◌, ap, subst, arith}
use Rattle.std.proofs.lemmas.List.{append-nil}
use Rattle.fax_spool.specs.Waits.{waiting}
use Rattle.fax_spool.specs.RecordOctets.{EndedValue, PageValue}
use Rattle.fax_spool.specs.SpoolRecords.{ended_record, page_record}
use Rattle.fax_spool.specs.Spools.{AreAbove, AreInOrder, ComeAfter, IsOrderFound, epoch_of, epoch_records, epochs, greatest_epoch}
use Rattle.fax_spool.specs.Opened.{comes_first, newer_of, older_of}
use Rattle.fax_spool.specs.declared.spool_record.SpoolRecord.{SpoolRecord}
use Rattle.fax_spool.specs.declared.spool_record.SpoolRecord.TheVariants.{Page, Ended, Epoch, Damaged}
use Rattle.fax_spool.proofs.Openings.{is_before, is_not_before}
use Rattle.fax_spool.proofs.SpoolSteps.{first_within, waiting_epochs}

-- ---- epochs

more_epochs : (records more : List SpoolRecord) → epochs records ≤ epochs (records ++ more)
more_epochs [] more = omega arith
more_epochs (Page page ∷ records) more = more_epochs records more
more_epochs (Ended ended ∷ records) more = more_epochs records more
more_epochs (Epoch number ∷ records) more = omega (arith, more_epochs records more)
more_epochs (Damaged ∷ records) more = more_epochs records more

more_above : (n : ℕ) (records more : List SpoolRecord) → AreAbove n records → AreAbove n more → AreAbove n (records ++ more)
more_above n [] more first second = second
more_above n (Page page ∷ records) more first second = more_above n records more first second
more_above n (Ended ended ∷ records) more first second = more_above n records more first second
more_above n (Epoch number ∷ records) more first second = (first.0, more_above n records more first.1 second)
more_above n (Damaged ∷ records) more first second = more_above n records more first second

pub above_ends : (n : ℕ) (ended : List EndedValue) → AreAbove n (map ended_record ended)
above_ends n [] = tt
above_ends n (e ∷ ended) = above_ends n ended

pub above_pages : (n : ℕ) (pages : List PageValue) → AreAbove n (map page_record pages)
above_pages n [] = tt
above_pages n (p ∷ pages) = above_pages n pages

-- the first of them is
above_first : (n : ℕ) (records : List SpoolRecord) → 1 ≤ epochs records → AreAbove n records → n < epoch_of records
above_first n [] some above = absurd (omega (arith, some))
above_first n (Page page ∷ records) some above = above_first n records some above
above_first n (Ended ended ∷ records) some above = above_first n records some above
above_first n (Epoch number ∷ records) some above = above.0
above_first n (Damaged ∷ records) some above = above_first n records some above

low_first : (olds news : List SpoolRecord) → ComeAfter 1 olds news → epoch_of olds < epoch_of news
low_first olds news come = omega (arith, first_within olds, above_first (greatest_epoch olds) news come.0 come.1)

-- ---- the order

pub order_stays : (olds news more : List SpoolRecord) → AreAbove (greatest_epoch olds) more → AreInOrder olds news → AreInOrder olds (news ++ more)
order_stays olds news more above (inl none) = inl none
order_stays olds news more above (inr come) = inr (omega (arith, come.0, more_epochs news more), more_above (greatest_epoch olds) news more come.1 above)

-- after the records of pages
pub order_pages : (olds news : List SpoolRecord) (pages : List PageValue) → AreInOrder olds news → AreInOrder olds (news ++ map page_record pages)
order_pages olds news pages order = order_stays olds news (map page_record pages) (above_pages (greatest_epoch olds) pages) order

-- two records of an epoch
pub order_changed : (olds : List SpoolRecord) (number : ℕ) → greatest_epoch olds < number → AreInOrder olds (epoch_records number)
order_changed olds number low = inr (omega arith, (low, (low, tt)))

-- by which no page waits
pub waits_after_epoch : (records : List SpoolRecord) (number : ℕ) → waiting (records ++ epoch_records number) ≡ waiting records
waits_after_epoch records number = waiting_epochs [] records number

two_more : (records : List SpoolRecord) (number : ℕ) → 2 ≤ epochs (records ++ epoch_records number)
two_more [] number = omega arith
two_more (Page page ∷ records) number = two_more records number
two_more (Ended ended ∷ records) number = two_more records number
two_more (Epoch n ∷ records) number = omega (arith, two_more records number)
two_more (Damaged ∷ records) number = two_more records number

-- the files of a spool that was opened: an epoch stands after them, whose number is greater than each of the older one
pub order_begins : (olds news : List SpoolRecord) (number : ℕ) → greatest_epoch olds < number → IsOrderFound olds news → AreInOrder olds (news ++ epoch_records number)
order_begins olds news number low (inl none) = subst (λ (l : List SpoolRecord). AreInOrder olds (l ++ epoch_records number)) (sym none) (order_changed olds number low)
order_begins olds news number low (inr (inl none)) = inl none
order_begins olds news number low (inr (inr come)) = inr (two_more news number, more_above (greatest_epoch olds) news (epoch_records number) come.1 (low, (low, tt)))

pub order_found : (olds news : List SpoolRecord) → AreInOrder olds news → IsOrderFound olds news
order_found olds news (inl none) = inr (inl none)
order_found olds news (inr come) = inr (inr (omega (arith, come.0), come.1))

-- Two files are found in their order, or it makes no difference.
pub record AreFound (olds news : List SpoolRecord) (older newer : List SpoolRecord) : Type 0 where
  pub order : IsOrderFound older newer
  pub wait : waiting (older ++ newer) ≡ waiting (olds ++ news)

same : (olds news : List SpoolRecord) → IsOrderFound olds news → AreFound olds news olds news
same olds news order = record { order = order; wait = refl }

turned_none : (news : List SpoolRecord) → AreFound [] news news []
turned_none news = record { order = inl refl; wait = ap (λ (l : List SpoolRecord). waiting l) (append-nil news) }

turned_new : (olds : List SpoolRecord) → AreFound olds [] [] olds
turned_new olds = record { order = inr (inl refl); wait = sym (ap (λ (l : List SpoolRecord). waiting l) (append-nil olds)) }

-- where one of them tells nothing
turned : (olds news : List SpoolRecord) → (olds ≡ []) ⊎ (news ≡ []) → AreFound olds news news olds
turned olds news (inl none) = subst (λ (l : List SpoolRecord). AreFound l news news l) (sym none) (turned_none news)
turned olds news (inr none) = subst (λ (l : List SpoolRecord). AreFound olds l l olds) (sym none) (turned_new olds)

-- the older one is handed in first
first_found : (olds news : List SpoolRecord) (b : Bool) → comes_first olds news ≡ b → IsOrderFound olds news → AreFound olds news (cond b olds news) (cond b news olds)
first_found olds news true is order = same olds news order
first_found olds news false is (inl none) = turned olds news (inr none)
first_found olds news false is (inr (inl none)) = turned olds news (inl none)
first_found olds news false is (inr (inr come)) = let nay : true ≡ false = sym (is_before (epoch_of olds) (epoch_of news) (omega (arith, low_first olds news come))) ∙ is in absurd (cc)

-- or the newer one
second_found : (olds news : List SpoolRecord) (b : Bool) → comes_first news olds ≡ b → IsOrderFound olds news → AreFound olds news (cond b news olds) (cond b olds news)
second_found olds news false is order = same olds news order
second_found olds news true is (inl none) = turned olds news (inr none)
second_found olds news true is (inr (inl none)) = turned olds news (inl none)
second_found olds news true is (inr (inr come)) = let nay : true ≡ false = sym is ∙ is_not_before (epoch_of news) (epoch_of olds) (low_first olds news come) in absurd (cc)

pub are_found : (olds news ones others : List SpoolRecord) → ((ones ≡ olds) × (others ≡ news)) ⊎ ((ones ≡ news) × (others ≡ olds)) → IsOrderFound olds news
    → AreFound olds news (older_of ones others) (newer_of ones others)
are_found olds news ones others (inl are) order =
    subst (λ (l : List SpoolRecord). AreFound olds news (older_of l others) (newer_of l others)) (sym are.0)
    (subst (λ (l : List SpoolRecord). AreFound olds news (older_of olds l) (newer_of olds l)) (sym are.1) (first_found olds news (comes_first olds news) refl order))
are_found olds news ones others (inr are) order =
    subst (λ (l : List SpoolRecord). AreFound olds news (older_of l others) (newer_of l others)) (sym are.0)
    (subst (λ (l : List SpoolRecord). AreFound olds news (older_of news l) (newer_of news l)) (sym are.1) (second_found olds news (comes_first news olds) refl order))
