-- Calls that lack a page, by the records of a spool of which some are damaged. (This project's profile.)
use Rattle.std.specs.Prelude.{◌≡◌, ℕ, ◌+◌, Bool, true, false, not, ◌&&◌, ◌||◌, nat_eq, nat_lt, bytes_eq, List, [], ◌∷◌, ◌++◌, if◌then◌else◌}
use Rattle.std.specs.List.{count_by, list_any}
use Rattle.fax_spool.specs.RecordOctets.{PageValue}
use Rattle.fax_spool.specs.declared.spool_record.SpoolRecord.{SpoolRecord}
use Rattle.fax_spool.specs.declared.spool_record.SpoolRecord.TheVariants.{Page, Ended, Epoch, Damaged}

abbrev pub is_damaged : SpoolRecord → Bool
is_damaged (Page page) = false
is_damaged (Ended ended) = false
is_damaged (Epoch number) = false
is_damaged Damaged = true

abbrev pub damaged : List SpoolRecord → ℕ
damaged records = count_by is_damaged records

-- two pages came in one call
abbrev pub same_call : PageValue → PageValue → Bool
same_call page other =
    nat_eq page.life other.life && nat_eq page.call other.call && bytes_eq page.line other.line

-- which call of all: in which life, under which number, on which line
pub record CallName : Type 0 where
  pub life : ℕ
  pub call : ℕ
  pub line : List ℕ

abbrev pub call_of : PageValue → CallName
call_of page = record { life = page.life; call = page.call; line = page.line }

-- a page came in this call
abbrev pub is_of : PageValue → CallName → Bool
is_of page name =
    nat_eq name.life page.life && nat_eq name.call page.call && bytes_eq name.line page.line

-- or in one of these
abbrev pub is_of_any : List CallName → PageValue → Bool
is_of_any calls page = list_any (is_of page) calls

-- the record is that of the page after this one in its call
abbrev pub is_next : PageValue → SpoolRecord → Bool
is_next page (Page other) = same_call page other && nat_eq other.number (page.number + 1)
is_next page (Ended ended) = false
is_next page (Epoch number) = false
is_next page Damaged = false

-- and that of the page before it
abbrev pub is_previous : PageValue → SpoolRecord → Bool
is_previous page (Page other) = same_call page other && nat_eq page.number (other.number + 1)
is_previous page (Ended ended) = false
is_previous page (Epoch number) = false
is_previous page Damaged = false

abbrev pub has_damage : List SpoolRecord → Bool
has_damage records = list_any is_damaged records

-- After these records the page before this one lacks in its call: it is not the first one, and a damaged record may be that page's.
abbrev pub lacks_before : List SpoolRecord → PageValue → Bool
lacks_before before page =
    nat_lt 1 page.number && (not (list_any (is_previous page) before) && has_damage before)

-- Before these records the page after this one lacks: its job goes on, and a damaged record may be that page's.
abbrev pub lacks_after : PageValue → List SpoolRecord → Bool
lacks_after page after =
    not page.closes && (not (list_any (is_next page) after) && has_damage after)

-- the call of a record's page, where a page lacks beside it
abbrev pub torn_by : List SpoolRecord → SpoolRecord → List SpoolRecord → List CallName
torn_by before (Page page) after =
    if lacks_before before page || lacks_after page after then call_of page ∷ [] else []
torn_by before (Ended ended) after = []
torn_by before (Epoch number) after = []
torn_by before Damaged after = []

-- of records that stand before and after others
abbrev pub torn_among : List SpoolRecord → List SpoolRecord → List SpoolRecord → List CallName
torn_among before [] after = []
torn_among before (r ∷ records) after =
    torn_by before r (records ++ after) ++ torn_among (before ++ r ∷ []) records after

-- THE TORN CALLS of these records: those of a page of which a neighbour in its call lacks, where a damaged record may be that page's. A
-- call may be named more than once.
abbrev pub torn_calls : List SpoolRecord → List CallName
torn_calls records = torn_among [] records []

-- where a header after records is destroyed, a damaged record stands there
abbrev pub with_destroyed : Bool → List SpoolRecord → List SpoolRecord
with_destroyed is_destroyed records = if is_destroyed then records ++ Damaged ∷ [] else records

-- WHERE NO RECORD IS DAMAGED, NO CALL IS TORN.
abbrev pub NothingIsTornWithoutDamage : Type 0
NothingIsTornWithoutDamage = (records : List SpoolRecord)
    → damaged records ≡ 0 → torn_calls records ≡ []
