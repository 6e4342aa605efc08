-- What a sealed record of a spool says. (This project's profile.)
use Rattle.std.specs.Prelude.{◌≡◌, ◌≢◌, ℕ, ◌<◌, ◌^◌, List, [], ◌∷◌}
use Rattle.fax_spool.specs.RecordOctets.{PageValue, EndedValue, PageFits, EndFits, page_octets, ended_octets, epoch_octets}
use Rattle.fax_spool.specs.Seals.{sealed}
use Rattle.fax_spool.specs.declared.spool_record.SpoolRecord.{SpoolRecord}
use Rattle.fax_spool.specs.declared.spool_record.SpoolRecord.TheVariants.{Page, Ended, Epoch, Damaged}

abbrev pub stored_page : PageValue → List ℕ
stored_page page = sealed (page_octets page)

abbrev pub stored_end : EndedValue → List ℕ
stored_end ended = sealed (ended_octets ended)

abbrev pub stored_epoch : ℕ → List ℕ
stored_epoch number = sealed (epoch_octets number)

-- octets of none of the three kinds
pub record IsDamaged (octets : List ℕ) : Type 0 where
  pub no_page : (page : PageValue) → octets ≢ stored_page page
  pub no_end : (ended : EndedValue) → octets ≢ stored_end ended
  pub no_epoch : (number : ℕ) → octets ≢ stored_epoch number

-- a record of one of the three kinds, each number of which has four octets
abbrev pub IsReadAs : List ℕ → SpoolRecord → Type 0
IsReadAs octets (Page page) = (octets ≡ stored_page page) × PageFits page
IsReadAs octets (Ended ended) = (octets ≡ stored_end ended) × EndFits ended
IsReadAs octets (Epoch number) = (octets ≡ stored_epoch number) × (number < 2 ^ 32)
IsReadAs octets Damaged = IsDamaged octets

-- each of these octets, one after another, is read as the record at its place
abbrev pub AreReadAs : List (List ℕ) → List SpoolRecord → Type 0
AreReadAs [] [] = Unit {0}
AreReadAs (octets ∷ items) (record_of ∷ records) =
    IsReadAs octets record_of × AreReadAs items records
AreReadAs items records = ⊥

-- the record of a job's end, as one of the three kinds
abbrev pub ended_record : EndedValue → SpoolRecord
ended_record ended = Ended ended

-- a page's record, as one of them
abbrev pub page_record : PageValue → SpoolRecord
page_record page = Page page
