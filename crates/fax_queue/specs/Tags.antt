-- The tags of the calls in which lines confirm pages, and the records that have them. (This project's profile.)
use Rattle.std.specs.Prelude.{◌≡◌, ◌⊎◌, ℕ, Bool, nat_eq, List, [], ◌∷◌, ◌++◌, map, if◌then◌else◌}
use Rattle.fax_line.specs.declared.settling.PageToStore.{PageToStore}
use Rattle.fax_spool.specs.RecordOctets.{PageValue}
use Rattle.fax_spool.specs.SpoolRecords.{page_record}
use Rattle.fax_spool.specs.declared.spool.Spool.{Spool}
use Rattle.fax_spool.specs.Calls.{Rests}
use Rattle.fax_queue.specs.CallTags.{CallTagValue}
use Rattle.fax_queue.specs.Storing.{AreRecordsOf}

-- the tag of a line's call, as it was noted: no octets where none was
abbrev pub tag_of : List CallTagValue → ℕ → List ℕ
tag_of [] line = []
tag_of (t ∷ tags) line = if nat_eq t.line line then t.tag else tag_of tags line

-- the tag of a line's call is noted after the others, or memory for that was refused
abbrev pub NotesTag : ℕ → List ℕ → List CallTagValue → List CallTagValue → Type 0
NotesTag line tag olds news =
    (news ≡ olds ++ record { line = line; tag = tag } ∷ []) ⊎ (news ≡ olds)

-- of these records of pages each has the tag of its line's call
abbrev pub AreTagged : List CallTagValue → List PageToStore → List PageValue → Type 0
AreTagged tags [] [] = Unit {0}
AreTagged tags (page ∷ pages) (value ∷ values) =
    (value.tag ≡ tag_of tags page.line) × AreTagged tags pages values
AreTagged tags pages values = ⊥

-- PAGES ARE PUT UNDER THE TAGS OF THEIR LINES' CALLS: their records, which have these, wait on the disk after the others.
pub record PutsTagged {D : Type 0} (seen : D → List ℕ)
    (may_leave : D → List ℕ → Type 0) (is_usable : D → Bool)
    (tags : List CallTagValue) (pages : List PageToStore) (before after : Spool D) : Type 0 where
  pub values : List PageValue
  pub are : AreRecordsOf pages (map page_record values)
  pub tagged : AreTagged tags pages values
  pub wait : (waits : List PageValue) → Rests seen may_leave is_usable before waits
      → Rests seen may_leave is_usable after (waits ++ values)
