-- A spool between two calls, and what a crash may leave of it. (This project's profile.)
use Rattle.std.specs.Prelude.{◌≡◌, ◌⊎◌, ◌<◌, ◌≤◌, ◌+◌, ℕ, max, Bool, IsTrue, List, [], ◌∷◌}
use Rattle.fax_spool.specs.Records.{Stands}
use Rattle.fax_spool.specs.Settled.{IsSettled}
use Rattle.fax_spool.specs.SpoolRecords.{AreReadAs}
use Rattle.fax_spool.specs.Waits.{waiting, left_after}
use Rattle.fax_spool.specs.StoredPages.{AreKnownAs}
use Rattle.fax_spool.specs.declared.spool_record.SpoolRecord.{SpoolRecord}
use Rattle.fax_spool.specs.declared.spool_record.SpoolRecord.TheVariants.{Page, Ended, Epoch, Damaged}
use Rattle.fax_spool.specs.declared.file.RecordFile.{RecordFile}
use Rattle.fax_spool.specs.declared.spool.Spool.{Spool}

-- the number of the first epoch that can be read, 0 where there is none
abbrev pub epoch_of : List SpoolRecord → ℕ
epoch_of [] = 0
epoch_of (Epoch number ∷ records) = number
epoch_of (Page page ∷ records) = epoch_of records
epoch_of (Ended ended ∷ records) = epoch_of records
epoch_of (Damaged ∷ records) = epoch_of records

-- the greatest number of an epoch in these records, or the one before them
abbrev pub raised : ℕ → SpoolRecord → ℕ
raised most (Epoch number) = max most number
raised most (Page page) = most
raised most (Ended ended) = most
raised most Damaged = most

abbrev pub greatest_after : ℕ → List SpoolRecord → ℕ
greatest_after most [] = most
greatest_after most (r ∷ records) = greatest_after (raised most r) records

abbrev pub greatest_epoch : List SpoolRecord → ℕ
greatest_epoch records = greatest_after 0 records

-- An epoch is put twice, so that harm of one record leaves the other.
abbrev pub epoch_records : ℕ → List SpoolRecord
epoch_records number = Epoch number ∷ Epoch number ∷ []

-- a file stands for these records
pub record Tells (file : List ℕ) (records : List SpoolRecord) : Type 0 where
  pub items : List (List ℕ)
  pub stands : Stands file items
  pub read : AreReadAs items records

-- A FILE TELLS ONE LIST OF RECORDS: each is read back with the numbers that it was put with.
abbrev pub TellsOneList : Type 0
TellsOneList = (file : List ℕ) (records others : List SpoolRecord)
    → Tells file records → Tells file others → records ≡ others

-- What a crash may leave: any of what it may leave of one file, with any of what it may leave of the other.
abbrev pub MayLeaveBoth : {D : Type 0} → (D → List ℕ → Type 0) → Spool D → List ℕ → List ℕ → Type 0
MayLeaveBoth may_leave spool older newer =
    may_leave spool.older.disk older × may_leave spool.newer.disk newer

-- A SPOOL KEEPS RECORDS: its older file those before the newer one's. Both files are settled, and it knows the pages that wait: which they
-- are, and where the record of each is, in memory or in its file.
pub record Stores {D : Type 0} (seen : D → List ℕ) (may_leave : D → List ℕ → Type 0)
    (is_usable : D → Bool) (spool : Spool D) (olds news : List SpoolRecord) : Type 0 where
  pub older_items : List (List ℕ)
  pub newer_items : List (List ℕ)
  pub older : IsSettled seen may_leave is_usable spool.older.disk spool.older.end older_items
  pub newer : IsSettled seen may_leave is_usable spool.newer.disk spool.newer.end newer_items
  pub older_read : AreReadAs older_items olds
  pub newer_read : AreReadAs newer_items news
  pub older_waits : AreKnownAs older_items spool.older_pages.items (left_after (waiting olds) news)
  pub newer_waits : AreKnownAs newer_items spool.newer_pages.items (waiting news)
  pub epoch : greatest_epoch news ≤ spool.epoch

-- no wrong answer of either file was taken as true
abbrev pub AreClean : {D : Type 0} → (D → Bool) → RecordFile D × RecordFile D → Type 0
AreClean is_clean files = IsTrue (is_clean files.0.disk) × IsTrue (is_clean files.1.disk)

-- no page of the first records waits after the others
abbrev pub NoneIsLeft : List SpoolRecord → List SpoolRecord → Type 0
NoneIsLeft olds news = left_after (waiting olds) news ≡ []

abbrev pub TellBoth : List ℕ → List ℕ → List SpoolRecord → List SpoolRecord → Type 0
TellBoth older newer olds news = Tells older olds × Tells newer news

-- how many records of epochs can be read
abbrev pub epochs : List SpoolRecord → ℕ
epochs [] = 0
epochs (Epoch number ∷ records) = epochs records + 1
epochs (Page page ∷ records) = epochs records
epochs (Ended ended ∷ records) = epochs records
epochs (Damaged ∷ records) = epochs records

-- the number of each of them is greater than this one
abbrev pub AreAbove : ℕ → List SpoolRecord → Type 0
AreAbove n [] = Unit {0}
AreAbove n (Epoch number ∷ records) = (n < number) × AreAbove n records
AreAbove n (Page page ∷ records) = AreAbove n records
AreAbove n (Ended ended ∷ records) = AreAbove n records
AreAbove n (Damaged ∷ records) = AreAbove n records

-- at least so many records of epochs of the newer file can be read, and all of them come after those of the older one
abbrev pub ComeAfter : ℕ → List SpoolRecord → List SpoolRecord → Type 0
ComeAfter least olds news = (least ≤ epochs news) × AreAbove (greatest_epoch olds) news

-- THE FILES ARE IN ORDER: the older one tells nothing, or the epochs of the newer one come after its own, and two of their records can
-- be read.
abbrev pub AreInOrder : List SpoolRecord → List SpoolRecord → Type 0
AreInOrder olds news = (olds ≡ []) ⊎ ComeAfter 2 olds news

-- Which of two files is the older one is found by their first epochs, of which one record is enough; or one of them tells nothing, and
-- so it makes no difference.
abbrev pub IsOrderFound : List SpoolRecord → List SpoolRecord → Type 0
IsOrderFound olds news = (news ≡ []) ⊎ ((olds ≡ []) ⊎ ComeAfter 1 olds news)

-- the greatest number of an epoch so far
abbrev pub epoch_now : {D : Type 0} → Spool D → ℕ
epoch_now spool = spool.epoch

-- its files, the older one first
abbrev pub files_of : {D : Type 0} → Spool D → RecordFile D × RecordFile D
files_of spool = (spool.older, spool.newer)
