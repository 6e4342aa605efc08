-- Pages of jobs that failed, in files of memory. (This project's profile.)
use Rattle.std.specs.Prelude.{◌≡◌, ◌⊎◌, ℕ, Bool, true, List, []}
use Rattle.fax_spool.specs.declared.opening.OpenedSpool.{OpenedSpool}
use Rattle.fax_spool.specs.declared.spool.Spool.{Spool}
use Rattle.fax_spool.specs.Calls.{refuses_now}
use Rattle.fax_spool.specs.Opened.{IsOpened}
use Rattle.fax_spool.specs.Spools.{files_of}
use Rattle.fax_undelivered.specs.Calls.{calls_of}
use Rattle.fax_undelivered.specs.declared.undelivered.Undelivered.{Undelivered}
use Rattle.fax_undelivered.specs.declared.held.memory_file.MemoryFile.{MemoryFile}

-- what a file in memory holds
abbrev pub octets_of : MemoryFile → List ℕ
octets_of file = file.octets.items

-- a crash would leave just that, since what is written is there at once
abbrev pub leaves : MemoryFile → List ℕ → Type 0
leaves file left = left ≡ file.octets.items

abbrev pub can_be_used : MemoryFile → Bool
can_be_used file = true

-- THE PAIR IS THAT OF TWO FILES THAT HELD THESE OCTETS, opened as that of a folder is, and lists the calls of the pages that waited there.
pub record IsOver (one other : List ℕ) (kept : Undelivered MemoryFile) : Type 0 where
  pub opened : OpenedSpool MemoryFile
  pub is : IsOpened octets_of leaves can_be_used one other opened
  pub spool : kept.spool ≡ opened.spool
  pub listed : kept.calls.items ≡ calls_of opened.pages.items

abbrev pub octets_of_older : Spool MemoryFile → List ℕ
octets_of_older spool = octets_of (files_of spool).0.disk

abbrev pub octets_of_newer : Spool MemoryFile → List ℕ
octets_of_newer spool = octets_of (files_of spool).1.disk

-- the same of the files of another one
abbrev pub IsOverFilesOf : Undelivered MemoryFile → Undelivered MemoryFile → Type 0
IsOverFilesOf before kept =
    IsOver (octets_of_older before.spool) (octets_of_newer before.spool) kept

-- WHERE IT REFUSES EVERYTHING it is opened anew, or, where memory is refused for that, another one of empty files takes its place, or none.
abbrev pub IsMended : (old new : Undelivered MemoryFile) → Type 0
IsMended old new =
    (new ≡ old) ⊎ ((refuses_now old.spool ≡ true) × (IsOverFilesOf old new ⊎ IsOver [] [] new))
