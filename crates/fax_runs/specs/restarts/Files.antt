-- FILES THAT TELL A PAST: so the premises of the laws over runs are met over files that are not empty. (This project's profile.)
use Rattle.std.specs.Prelude.{ℕ, List, [], ◌∷◌, length, map, ◌<◌}
use Rattle.std.specs.List.{All}
use Rattle.fax_call.specs.Writings.{Writing}
use Rattle.fax_gateway.specs.Restored.{CallPage}
use Rattle.fax_gateway.specs.Lives.{Life}
use Rattle.fax_spool.specs.RecordOctets as spool
use Rattle.fax_spool.specs.SpoolRecords.{stored_epoch, stored_page}
use Rattle.fax_spool.specs.Records.{IsShort, blocks}
use Rattle.fax_queue.specs.Histories.{HasPast}
use Rattle.fax_runs.specs.restarts.Crossings.{HasPastOver}

-- a page whose record a file can tell
abbrev pub CanBeTold : spool.PageValue → Type 0
CanBeTold page = spool.PageFits page × IsShort (stored_page page)

-- the records of an epoch, which is put twice, and of these pages, as a file has them
abbrev pub file_of : List spool.PageValue → List ℕ
file_of pages = blocks (stored_epoch 1 ∷ stored_epoch 1 ∷ map stored_page pages)

-- EACH PAST CAN BE HAD OVER FILES, one of which is not empty. So no law that has a past over files as its premise speaks of new ones
-- alone: with a life in which a page was put, and is owed, that page is told by these.
abbrev pub PastsHaveFiles : Type 0
PastsHaveFiles = (writes : Writing) (line : List ℕ) (lives : List Life) (puts : List CallPage)
    (pages : List spool.PageValue) → HasPast writes line lives puts pages → All CanBeTold pages
    → (0 < length (file_of pages)) × HasPastOver writes line lives puts [] (file_of pages)
