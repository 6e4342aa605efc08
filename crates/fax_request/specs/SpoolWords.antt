-- What `faxgate spool` is asked for. (This project's profile.)
use Rattle.std.specs.Prelude.{◌≡◌, ℕ, List, [], Option, Some, None, codes, unwrap_or}
use Rattle.clap.specs.Words.{Row, first_of, one_of}
use Rattle.fax_listing.specs.declared.job.Choice.{Choice}
use Rattle.fax_listing.specs.declared.looking.SpoolOptions.{SpoolOptions}
use Rattle.fax_listing.specs.declared.wanted_files.WantedFiles.{WantedFiles}
use Rattle.fax_listing.specs.declared.wanted_files.WantedFiles.TheVariants.{Nothing, Pictures, Tiff}
use Rattle.fax_request.specs.Given.{IsNumberOf}

-- the greatest number of 32 bits
abbrev pub most_number : ℕ
most_number = 4294967295

-- the job that is chosen, where a line is given
abbrev pub IsChoiceOf : List Row → Option Choice → Type 0
IsChoiceOf given None = first_of (codes "line") given ≡ None
IsChoiceOf given (Some choice) = (first_of (codes "line") given ≡ Some choice.line.now)
    × IsNumberOf (one_of (codes "life") given) 0 most_number 0 choice.life
    × IsNumberOf (one_of (codes "call") given) 0 most_number 0 choice.call

-- what is made of pages: a TIFF where its file is given, else pictures where what their names begin with is
abbrev pub IsWantedOf : List Row → WantedFiles → Type 0
IsWantedOf given (Tiff name) = first_of (codes "tiff") given ≡ Some name.now
IsWantedOf given (Pictures prefix) =
    (first_of (codes "tiff") given ≡ None) × (first_of (codes "pages") given ≡ Some prefix.now)
IsWantedOf given Nothing =
    (first_of (codes "tiff") given ≡ None) × (first_of (codes "pages") given ≡ None)

pub record AreSpoolOptionsOf (given : List Row) (options : SpoolOptions) : Type 0 where
  pub folder : options.folder.now ≡ unwrap_or (first_of (codes "folder") given) []
  pub wanted : IsWantedOf given options.wanted
  pub choice : IsChoiceOf given options.choice
