-- WHOSE FAULT IT IS where a run of `faxgate send` or `faxgate receive` does not come to its end. (This project's profile.)
use Rattle.std.specs.Prelude.{◌≡◌, ◌≢◌, ℕ, ◌<◌, ◌⊎◌, List, [], length, take, Option, Contains, IsSomeAnd}
use Rattle.fax_runcodes.specs.declared.format.Format.{Format}
use Rattle.fax_runcodes.specs.declared.format.Coding.{Coding}
use Rattle.fax_pagestore.specs.Pages.{PageValue}
use Rattle.fax_jobs.specs.Jobs.{most_pages}
use Rattle.fax_command.specs.declared.input.InputError.TheVariants as input_errors
use Rattle.fax_send_receive.specs.declared.receiving.ReceiveOptions.{ReceiveOptions}
use Rattle.fax_send_receive.specs.declared.run_fault.RunFault.{RunFault}
use Rattle.fax_send_receive.specs.declared.run_fault.RunFault.TheVariants as faults
use Rattle.fax_send_receive.specs.declared.sending.SendOptions.{SendOptions}
use Rattle.fax_send_receive.specs.Files.{ArePagesOfFiles, IsBadPicture, IsBadText, IsBadTiff}
use Rattle.fax_send_receive.specs.Folders.{AreOctetsOf}
use Rattle.fax_send_receive.specs.Naming.{Naming, naming_of}

-- ---- the files of a job

-- octets are at fault in this way, or memory is wanting
abbrev pub RefusesOctets : Format → Coding → List ℕ → RunFault → Type 0
RefusesOctets format coding file faults.NoMemory = Unit {0}
RefusesOctets format coding file (faults.Tiff path fault) = IsBadTiff file fault
RefusesOctets format coding file (faults.Picture path fault) = IsBadPicture format.fine file fault
RefusesOctets format coding file (faults.Text path fault) = IsBadText format coding file fault
RefusesOctets format coding file fault = ⊥

-- The file of this name is at fault: it cannot be opened or read, or its octets are no page. Or memory is wanting. What it holds,
-- where it is known, is told beside.
abbrev pub IsFileFault : (known : Option (List ℕ))
    → Format → Coding → (name : List ℕ) → RunFault → Type 0
IsFileFault known format coding name faults.NoMemory = Unit {0}
IsFileFault known format coding name (faults.File named error) = named.now ≡ name
IsFileFault known format coding name (faults.Unread named error) =
    (named.now ≡ name) × (error ≢ input_errors.NoMemory)
IsFileFault known format coding name (faults.Tiff named fault) =
    (named.now ≡ name) × (file : List ℕ) × AreOctetsOf known file × IsBadTiff file fault
IsFileFault known format coding name (faults.Picture named fault) = (named.now ≡ name)
    × (file : List ℕ) × AreOctetsOf known file × IsBadPicture format.fine file fault
IsFileFault known format coding name (faults.Text named fault) = (named.now ≡ name)
    × (file : List ℕ) × AreOctetsOf known file × IsBadText format coding file fault
IsFileFault known format coding name fault = ⊥

-- the files of these names have no page, or so many of the first of them have more than a job has
abbrev pub IsPageCountFault : (holds : List ℕ → Option (List ℕ))
    → Format → Coding → (names : List (List ℕ)) → Type 0
IsPageCountFault holds format coding names =
    ArePagesOfFiles holds format coding names [] ⊎ ((count : ℕ) × (pages : List PageValue)
    × ArePagesOfFiles holds format coding (take count names) pages × (most_pages < length pages))

-- One of the files of a job is at fault, or they have no page, or too many. Or memory is wanting.
abbrev pub IsJobFault : (holds : List ℕ → Option (List ℕ))
    → Format → Coding → (names : List (List ℕ)) → RunFault → Type 0
IsJobFault holds format coding names faults.NoMemory = Unit {0}
IsJobFault holds format coding names faults.PageCount = IsPageCountFault holds format coding names
IsJobFault holds format coding names fault =
    (name : List ℕ) × Contains names name × IsFileFault (holds name) format coding name fault

-- ---- addresses and the clock

-- this address names no machine, or there is no socket for it
abbrev pub IsAddressFault : List ℕ → RunFault → Type 0
IsAddressFault address (faults.Address named error) = named.now ≡ address
IsAddressFault address fault = ⊥

-- the address that is called is at fault, or the one from which it is called, where one is told
abbrev pub IsCallingFault : SendOptions → RunFault → Type 0
IsCallingFault options fault =
    IsAddressFault options.to.now fault ⊎ IsSomeAnd options.on (λ on. IsAddressFault on.now fault)

-- the clock tells nothing, or no more
abbrev pub IsClockFault : RunFault → Type 0
IsClockFault (faults.Clock error) = Unit {0}
IsClockFault faults.Time = Unit {0}
IsClockFault fault = ⊥

-- ---- the runs

-- the fault of a run of `faxgate send`: of its files, of an address, or of the clock
abbrev pub IsSendFault : (holds : List ℕ → Option (List ℕ))
    → SendOptions → (names : List (List ℕ)) → RunFault → Type 0
IsSendFault holds options names fault = IsJobFault holds options.format options.coding names fault
    ⊎ (IsCallingFault options fault ⊎ IsClockFault fault)

-- a page of files that are named so could not be written; or memory is wanting
abbrev pub IsStoreFault : Naming → RunFault → Type 0
IsStoreFault naming faults.NoMemory = Unit {0}
IsStoreFault naming (faults.Page named call page error) = naming_of named ≡ naming
IsStoreFault naming fault = ⊥

-- the fault of a run of `faxgate receive`: of its address, of the clock, or of a page's file
abbrev pub IsReceiveFault : ReceiveOptions → RunFault → Type 0
IsReceiveFault options fault = IsAddressFault options.on.now fault
    ⊎ (IsClockFault fault ⊎ IsStoreFault (naming_of options.naming) fault)
