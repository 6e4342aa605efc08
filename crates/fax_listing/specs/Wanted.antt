-- WHAT IS MADE OF PAGES THAT WAIT, where it is wanted. (This project's profile.)
use Rattle.std.specs.Prelude.{◌≡◌, ℕ, Bool, true, List, Option}
use Rattle.fax_spool.specs.RecordOctets.{PageValue}
use Rattle.fax_listing.specs.declared.wanted_files.WantedFiles.{WantedFiles}
use Rattle.fax_listing.specs.declared.wanted_files.WantedFiles.TheVariants.{Nothing, Pictures, Tiff}
use Rattle.fax_listing.specs.Pictures.{FileValue, KeepsPictures}
use Rattle.fax_listing.specs.Tiffs.{KeepsTiff}

-- nothing; a picture of each page; or one TIFF
abbrev pub KeepsWanted : WantedFiles → List PageValue → (is_whole : Bool)
    → (old_told told : List ℕ) → (before after : Option (List FileValue)) → Type 0
KeepsWanted Nothing pages is_whole old_told told before after =
    (is_whole ≡ true) × (told ≡ old_told) × (after ≡ before)
KeepsWanted (Pictures prefix) pages is_whole old_told told before after =
    KeepsPictures prefix.now pages is_whole old_told told before after
KeepsWanted (Tiff name) pages is_whole old_told told before after =
    KeepsTiff name.now pages is_whole old_told told before after
