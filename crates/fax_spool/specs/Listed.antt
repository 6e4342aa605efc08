-- What the two files of a spool tell, as they are read. (This project's profile.)
use Rattle.std.specs.Prelude.{◌≡◌, ℕ, List, ◌++◌, if◌then◌else◌}
use Rattle.fax_spool.specs.Found.{is_destroyed, passed_over}
use Rattle.fax_spool.specs.Opened.{closed, comes_first, newer_of, older_of, torn_found}
use Rattle.fax_spool.specs.Spools.{Tells}
use Rattle.fax_spool.specs.Torn.{damaged}
use Rattle.fax_spool.specs.Waits.{waiting}
use Rattle.fax_spool.specs.declared.spool_record.SpoolRecord.{SpoolRecord}
use Rattle.fax_spool.specs.declared.listing.Listing.{Listing}

-- THE FILES ARE LISTED AS A START WOULD FIND THEM: the pages that wait by the records of both, the older file's first; which calls are
-- torn; and what is harmed of each file.
pub record IsListed (one other : List ℕ) (listing : Listing) : Type 0 where
  pub ones : List SpoolRecord
  pub others : List SpoolRecord
  pub one_tells : Tells one ones
  pub other_tells : Tells other others
  pub pages : listing.pages.items ≡ closed (waiting (older_of ones others ++ newer_of ones others))
  pub torn : listing.torn.items ≡ torn_found (is_destroyed (if comes_first ones others
      then one_tells.stands.end else other_tells.stands.end))
      (is_destroyed (if comes_first ones others then other_tells.stands.end
      else one_tells.stands.end)) (older_of ones others) (newer_of ones others)
  pub one_damaged : listing.one.damaged ≡ damaged ones
  pub other_damaged : listing.other.damaged ≡ damaged others
  pub one_passed_over : listing.one.passed_over ≡ passed_over one_tells.stands.end
  pub other_passed_over : listing.other.passed_over ≡ passed_over other_tells.stands.end
