-- Files that tell a past.
use Rattle.std.proofs.Common.{◌≡◌, ℕ, inl, inr, Bool, List, [], ◌∷◌, ◌++◌, length, map, refl, sym, ◌∙◌, ap, arith, length-append, append_assoc, append-nil}
use Rattle.std.specs.List.{All}
use Rattle.std.proofs.lemmas.List.Elements.{All-cons, All-head, All-nil, All-tail}
use Rattle.std.specs.Prelude.{Result, Ok, Err, IfOk, true}
use Rattle.fax_spool.specs.Calls.{CrashesLeaveWhatWaits, Does, NewSpoolsTellNone, Puts, Rests, TellWaits}
use Rattle.fax_spool.specs.Opened.{IsOpened, OpeningsFindWhatCrashesLeave, closed}
use Rattle.fax_spool.specs.Spools.{Tells}
use Rattle.fax_spool.specs.declared.opening.OpenedSpool.{OpenedSpool}
use Rattle.fax_spool.specs.declared.spool.Spool.{Spool}
use Rattle.sha2.specs.Sha256.{sha256}
use Rattle.sha2.proofs.Facts256.{length-sha256}
use Rattle.fax_spool.specs.RecordOctets as spool
use Rattle.fax_spool.specs.RecordOctets.{epoch_octets}
use Rattle.fax_spool.specs.SpoolRecords.{AreReadAs, stored_epoch, stored_page}
use Rattle.fax_spool.specs.Records.{Ends, IsShort}
use Rattle.fax_spool.specs.Waits.{waiting_after}
use Rattle.fax_spool.specs.declared.spool_record.SpoolRecord.{SpoolRecord}
use Rattle.fax_spool.specs.declared.spool_record.SpoolRecord.TheVariants.{Page, Epoch}
use Rattle.fax_spool.proofs.Headers.{ends_short, read_written}
use Rattle.fax_runs.specs.restarts.Files.{CanBeTold, PastsHaveFiles, file_of}
use Rattle.fax_runs.specs.restarts.WholePasts.{WholePastsHaveFiles}

abbrev records : List spool.PageValue → List SpoolRecord
records pages = map (λ page. Page page) pages

read : (pages : List spool.PageValue) → All CanBeTold pages → AreReadAs (map stored_page pages) (records pages)
read [] all = tt
read (page ∷ pages) all = ((refl, (All-head CanBeTold page pages all).0), read pages (All-tail CanBeTold page pages all))

short : (pages : List spool.PageValue) → All CanBeTold pages → All IsShort (map stored_page pages)
short [] all = All-nil IsShort
short (page ∷ pages) all = All-cons IsShort (stored_page page) (map stored_page pages) (All-head CanBeTold page pages all).1 (short pages (All-tail CanBeTold page pages all))

wait : (before pages : List spool.PageValue) → waiting_after before (records pages) ≡ before ++ pages
wait before [] = sym (append-nil before)
wait before (page ∷ pages) = wait (before ++ page ∷ []) pages ∙ append_assoc before (page ∷ []) pages

none : Ends []
none = ends_short [] (omega arith)

epoch_short : IsShort (stored_epoch 1)
epoch_short =
    let number : length (epoch_octets 1) ≡ 5 = refl in
    let seal : length (stored_epoch 1) ≡ 37 = length-append (sha256 (epoch_octets 1)) (epoch_octets 1) ∙ omega (arith, length-sha256 (epoch_octets 1), number) in
    omega (arith, seal)

all_short : (pages : List spool.PageValue) → All CanBeTold pages → All IsShort (stored_epoch 1 ∷ stored_epoch 1 ∷ map stored_page pages)
all_short pages all =
    All-cons IsShort (stored_epoch 1) (stored_epoch 1 ∷ map stored_page pages) epoch_short (All-cons IsShort (stored_epoch 1) (map stored_page pages) epoch_short (short pages all))

told : (pages : List spool.PageValue) → All CanBeTold pages → TellWaits [] (file_of pages) pages
told pages all = record {
  olds = [];
  news = Epoch 1 ∷ Epoch 1 ∷ records pages;
  tell = (
    record { items = []; stands = record { front = []; end = []; split = refl; read = refl; no_more = none }; read = tt },
    record { items = stored_epoch 1 ∷ stored_epoch 1 ∷ map stored_page pages; stands = record { front = file_of pages; end = []; split = sym (append-nil (file_of pages)); read = read_written (stored_epoch 1 ∷ stored_epoch 1 ∷ map stored_page pages) (all_short pages all); no_more = none }; read = ((refl, omega arith), ((refl, omega arith), read pages all)) },
  );
  in_order = inr (inl refl);
  wait = wait [] pages;
}

pub pasts_have_files : PastsHaveFiles
pasts_have_files writes line lives puts pages past all = (omega arith, record { pages = pages; tell = told pages all; past = past })

pub whole_pasts_have_files : WholePastsHaveFiles
whole_pasts_have_files writes line lives puts pages past all = (omega arith, record { pages = pages; tell = told pages all; past = past })

pub if_ok : {T E : Type 0} (r : Result T E) (P Q : T → Type 0) → ((t : T) → P t → Q t) → IfOk r P → IfOk r Q
if_ok (Ok t) P Q on p = on t p
if_ok (Err e) P Q on p = p

empty : Tells [] []
empty = record { items = []; stands = record { front = []; end = []; split = refl; read = refl; no_more = none }; read = tt }

module _ {D : Type 0} (seen : D → List ℕ) (may_leave : D → List ℕ → Type 0) (is_usable : D → Bool) where
  -- a page that was put is told by what a process leaves that dies
  pub told_again : ((file : D) → may_leave file (seen file)) → NewSpoolsTellNone → OpeningsFindWhatCrashesLeave seen may_leave is_usable → CrashesLeaveWhatWaits seen may_leave is_usable
      → (page : spool.PageValue) (first : OpenedSpool D) (after : Spool D) (one other : List ℕ) (last : OpenedSpool D) → IsOpened seen may_leave is_usable [] [] first
      → Does seen may_leave is_usable (Puts (page ∷ [])) true first.spool after → one ≡ seen after.newer.disk → other ≡ seen after.older.disk
      → IsOpened seen may_leave is_usable one other last → last.pages.items ≡ closed (page ∷ [])
  told_again stay new find leave page first after one other last is does newer older again =
      let rest = find [] [] [] [] [] first (new [] [] empty empty) (inl (refl, refl)) is in
      let put : Rests seen may_leave is_usable after (page ∷ []) = does.done refl [] rest.0 in
      let it = leave after (page ∷ []) put (seen after.older.disk) (seen after.newer.disk) (stay after.older.disk, stay after.newer.disk) in
      let found = find (seen after.older.disk) (seen after.newer.disk) one other it.0 last it.1 (inr (newer, older)) again in
      found.1 ∙ ap closed it.2
