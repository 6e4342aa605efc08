-- What the two files of a spool are found to hold as they are opened. (This project's profile.)
use Rattle.std.specs.Prelude.{◌≡◌, ◌⊎◌, ◌<◌, ℕ, Bool, not, ◌&&◌, ◌||◌, nat_eq, nat_le, List, [], ◌∷◌, ◌++◌, if◌then◌else◌}
use Rattle.std.specs.List.{list_any}
pub use Rattle.fax_spool.specs.Torn.{damaged, is_damaged, same_call}
use Rattle.fax_spool.specs.RecordOctets.{PageValue}
use Rattle.fax_spool.specs.Calls.{Rests, TellWaits}
use Rattle.fax_spool.specs.Found.{is_destroyed, passed_over}
use Rattle.fax_spool.specs.Torn.{CallName, torn_calls, with_destroyed}
use Rattle.fax_spool.specs.Waits.{waiting}
use Rattle.fax_spool.specs.Spools.{Stores, Tells, epoch_now, epoch_of, epoch_records, greatest_epoch}
use Rattle.fax_spool.specs.declared.spool_record.SpoolRecord.{SpoolRecord}
use Rattle.fax_spool.specs.declared.opening.OpenedSpool.{OpenedSpool}

-- Of the records of two files those are the older ones of which the first epoch that can be read has the smaller number.
abbrev pub comes_first : List SpoolRecord → List SpoolRecord → Bool
comes_first one other = nat_le (epoch_of one) (epoch_of other)

abbrev pub older_of : List SpoolRecord → List SpoolRecord → List SpoolRecord
older_of one other = if comes_first one other then one else other

abbrev pub newer_of : List SpoolRecord → List SpoolRecord → List SpoolRecord
newer_of one other = if comes_first one other then other else one

abbrev pub closing : Bool → PageValue → PageValue
closing closes page = record {
  life = page.life;
  call = page.call;
  number = page.number;
  format = page.format;
  closes = closes;
  line = page.line;
  tag = page.tag;
  text = page.text;
}

-- A call that was on ended with its process: the last page of each call that waits closes its job.
abbrev pub closed : List PageValue → List PageValue
closed [] = []
closed (page ∷ pages) =
    closing (page.closes || not (list_any (same_call page) pages)) page ∷ closed pages

-- The torn calls of two files, of each of which a header is destroyed or not: what stood after it counts as a damaged record after the
-- others of its file. Where no epoch of the older one can be read it may be the newer one, and so what stood there counts as the last too.
abbrev pub torn_found : (older_destroyed newer_destroyed : Bool) (olds news : List SpoolRecord)
    → List CallName
torn_found older_destroyed newer_destroyed olds news =
    torn_calls (with_destroyed older_destroyed olds
    ++ with_destroyed (newer_destroyed || (older_destroyed && nat_eq (epoch_of olds) 0)) news)

-- A SPOOL WAS OPENED OVER TWO FILES: it keeps what both of them tell, the older one first, and the epoch that begins, whose number
-- is greater than each before it; the pages that wait by them are told in order; and so are which calls are torn, where a header that is
-- destroyed counts as a damaged record, how many records are damaged, and how many octets are passed over after them.
pub record IsOpened {D : Type 0} (seen : D → List ℕ) (may_leave : D → List ℕ → Type 0)
    (is_usable : D → Bool) (one other : List ℕ) (opened : OpenedSpool D) : Type 0 where
  pub ones : List SpoolRecord
  pub others : List SpoolRecord
  pub one_tells : Tells one ones
  pub other_tells : Tells other others
  pub keeps : Stores seen may_leave is_usable opened.spool (older_of ones others)
      (newer_of ones others ++ epoch_records (epoch_now opened.spool))
  pub older_epochs : greatest_epoch (older_of ones others) < epoch_now opened.spool
  pub newer_epochs : greatest_epoch (newer_of ones others) < epoch_now opened.spool
  pub pages : opened.pages.items ≡ closed (waiting (older_of ones others ++ newer_of ones others))
  pub torn : opened.torn.items ≡ torn_found (is_destroyed (if comes_first ones others
      then one_tells.stands.end else other_tells.stands.end))
      (is_destroyed (if comes_first ones others then other_tells.stands.end
      else one_tells.stands.end)) (older_of ones others) (newer_of ones others)
  pub older_damaged : opened.older_damaged ≡ damaged (older_of ones others)
  pub newer_damaged : opened.newer_damaged ≡ damaged (newer_of ones others)
  pub older_passed_over : opened.older_passed_over ≡ (if comes_first ones others
      then passed_over one_tells.stands.end else passed_over other_tells.stands.end)
  pub newer_passed_over : opened.newer_passed_over ≡ (if comes_first ones others
      then passed_over other_tells.stands.end else passed_over one_tells.stands.end)

-- two files are these, in either order
abbrev pub AreBoth : List ℕ → List ℕ → List ℕ → List ℕ → Type 0
AreBoth older newer one other =
    ((one ≡ older) × (other ≡ newer)) ⊎ ((one ≡ newer) × (other ≡ older))

-- AN OPENING FINDS WHAT A CRASH LEFT, whichever of both files it is handed first: the pages that wait by them wait in the spool that
-- was opened, and are told.
abbrev pub OpeningsFindWhatCrashesLeave : {D : Type 0}
    → (D → List ℕ) → (D → List ℕ → Type 0) → (D → Bool) → Type 0
OpeningsFindWhatCrashesLeave {D} seen may_leave is_usable =
    (older newer one other : List ℕ) (pages : List PageValue) (opened : OpenedSpool D)
    → TellWaits older newer pages
    → AreBoth older newer one other → IsOpened seen may_leave is_usable one other opened
    → Rests seen may_leave is_usable opened.spool pages × (opened.pages.items ≡ closed pages)
