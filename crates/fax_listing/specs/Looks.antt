-- WHAT IS SEEN OF A SPOOL. (This project's profile.)
use Rattle.std.specs.Prelude.{◌≡◌, ℕ, Bool, not, ◌||◌, ◌&&◌, nat_eq, length, is_none, List, [], ◌++◌, codes, flat_map, Option, IfSome, string_bytes, if◌then◌else◌}
use Rattle.fax_command.specs.declared.status.Status.{Status}
use Rattle.fax_command.specs.declared.status.Status.TheVariants.{Done, Fault}
use Rattle.fax_spool.specs.RecordOctets.{PageValue}
use Rattle.fax_spool.specs.Torn.{CallName}
use Rattle.fax_spool.specs.Listed.{IsListed}
use Rattle.fax_spool.specs.declared.listing.Listing.{Listing}
use Rattle.fax_listing.specs.Jobs.{chosen, jobs_of, without_cards}
use Rattle.fax_listing.specs.declared.job.JobState.TheVariants.{Waits, Undelivered}
use Rattle.fax_listing.specs.Lines.{job_line}
use Rattle.fax_listing.specs.Pictures.{FileValue}
use Rattle.fax_listing.specs.Wanted.{KeepsWanted}
use Rattle.fax_listing.specs.Telling.{damage_text, no_job_text}
use Rattle.fax_listing.specs.declared.looking.Seen.{Seen}
use Rattle.fax_listing.specs.declared.looking.SpoolOptions.{SpoolOptions}

-- what is told of what is harmed of the files
abbrev pub damage_told : (folder : List ℕ) → (waiting kept : Listing) → List ℕ
damage_told folder waiting kept = ((damage_text folder (codes "pages") waiting.one
    ++ damage_text folder (codes "pages-wal") waiting.other)
    ++ damage_text folder (codes "undelivered") kept.one)
    ++ damage_text folder (codes "undelivered-wal") kept.other

-- where a job is chosen, one of these pages that wait is one of it
abbrev pub is_found : SpoolOptions → List PageValue → Bool
is_found options pages = is_none options.choice || not (nat_eq (length pages) 0)

abbrev pub none_told : SpoolOptions → List PageValue → List ℕ
none_told options pages = if is_found options pages then [] else no_job_text options.folder.now

-- 1 where no page of the chosen job waits, or not all of what was wanted of pages was made
abbrev pub status_of : Bool → Status
status_of is_all = if is_all then Done else Fault

-- These pages that wait are looked at, and these that could not be delivered, where these calls lack a page, and this was told before:
-- each of their jobs has a line, and of the pages is made what is wanted.
pub record LooksAt (options : SpoolOptions)
    (pages kept : List PageValue) (torn kept_torn : List CallName)
    (told : List ℕ) (before after : Option (List FileValue)) (seen : Seen) : Type 0 where
  pub text : seen.text.items ≡ flat_map job_line (jobs_of torn Waits pages)
      ++ flat_map job_line (jobs_of kept_torn Undelivered kept)
  pub is_whole : Bool
  pub pictures : KeepsWanted options.wanted (pages ++ kept) is_whole (told
      ++ none_told options (pages ++ kept)) (string_bytes seen.told) before after
  pub status : seen.status ≡ status_of (is_found options (pages ++ kept) && is_whole)

-- THE FILES OF A SPOOL ARE LOOKED AT: as they are listed, those of their pages that are chosen, and what is harmed is told first.
pub record Looks (options : SpoolOptions) (one other kept_one kept_other : List ℕ)
    (before after : Option (List FileValue)) (seen : Seen) : Type 0 where
  pub waiting : Listing
  pub kept : Listing
  pub listed : IsListed one other waiting
  pub kept_listed : IsListed kept_one kept_other kept
  pub looks : LooksAt options (chosen options.choice waiting.pages.items)
      (chosen options.choice (without_cards kept.pages.items)) waiting.torn.items
      kept.torn.items (damage_told options.folder.now waiting kept) before after seen

-- what holds of the octets of all files, where they are known
abbrev pub AreKnown : (one other kept_one kept_other : Option (List ℕ))
    → (List ℕ → List ℕ → List ℕ → List ℕ → Type 0) → Type 0
AreKnown one other kept_one kept_other P =
    IfSome one (λ a. IfSome other (λ b. IfSome kept_one (λ c. IfSome kept_other (λ d. P a b c d))))
