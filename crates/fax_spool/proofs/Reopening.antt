-- What an opening finds after a crash.
use Rattle.std.proofs.Common.{◌≡◌, ◌⊎◌, inl, inr, ℕ, zero, suc, Bool, List, [], ◌++◌, refl, sym, ◌∙◌, ap, subst, append_assoc}
use Rattle.fax_spool.specs.RecordOctets.{PageValue}
use Rattle.fax_spool.specs.Waits.{waiting}
use Rattle.fax_spool.specs.Spools.{Tells, epoch_now, epoch_records}
use Rattle.fax_spool.specs.Calls.{CrashesLeaveWhatWaits, NewSpoolsTellNone, TellWaits}
use Rattle.fax_spool.specs.Stopped.{IsLeftByOpening, OpeningsLeaveTheirEpoch, StoppedOpeningsLeaveWhatWaits}
use Rattle.fax_spool.specs.Opened.{AreBoth, OpeningsFindWhatCrashesLeave, closed, newer_of, older_of}
use Rattle.fax_spool.specs.declared.spool_record.SpoolRecord.{SpoolRecord}
use Rattle.fax_spool.proofs.Doing.{rests_told}
use Rattle.fax_spool.proofs.Order.{AreFound, are_found, order_begins, order_found}
use Rattle.fax_spool.proofs.SpoolSteps.{at_rest, waiting_epochs}
use Rattle.fax_spool.proofs.Told.{tells_one_list}

read_again : (file other : List ℕ) (records found : List SpoolRecord) → other ≡ file → Tells file records → Tells other found → found ≡ records
read_again file other records found same told read = tells_one_list file found records (subst (λ (l : List ℕ). Tells l found) same read) told

-- the records that are read are those that the files tell
are_read : (older newer one other : List ℕ) (olds news ones others : List SpoolRecord) → AreBoth older newer one other → Tells older olds → Tells newer news → Tells one ones → Tells other others
    → ((ones ≡ olds) × (others ≡ news)) ⊎ ((ones ≡ news) × (others ≡ olds))
are_read older newer one other olds news ones others (inl are) first second read read_other =
    inl (read_again older one olds ones are.0 first read, read_again newer other news others are.1 second read_other)
are_read older newer one other olds news ones others (inr are) first second read read_other =
    inr (read_again newer one news ones are.0 second read, read_again older other olds others are.1 first read_other)

-- after the records of an epoch the same pages wait
with_epoch : (olds news : List SpoolRecord) (number : ℕ) → waiting (olds ++ (news ++ epoch_records number)) ≡ waiting (olds ++ news)
with_epoch olds news number = ap (λ (l : List SpoolRecord). waiting l) (sym (append_assoc olds news (epoch_records number))) ∙ waiting_epochs [] (olds ++ news) number

pub openings_find_what_crashes_leave : {D : Type 0} (seen : D → List ℕ) (may_leave : D → List ℕ → Type 0) (is_usable : D → Bool) → OpeningsFindWhatCrashesLeave seen may_leave is_usable
openings_find_what_crashes_leave seen may_leave is_usable older newer one other pages opened tell both is =
    let olds : List SpoolRecord = older_of is.ones is.others in
    let news : List SpoolRecord = newer_of is.ones is.others in
    let found : AreFound tell.olds tell.news olds news = are_found tell.olds tell.news is.ones is.others
    (are_read older newer one other tell.olds tell.news is.ones is.others both tell.tell.0 tell.tell.1 is.one_tells is.other_tells) tell.in_order in
    let wait : waiting (olds ++ news) ≡ pages = found.wait ∙ tell.wait in (
      record {
        olds = olds;
        news = news ++ epoch_records (epoch_now opened.spool);
        kept = is.keeps;
        in_order = order_begins olds news (epoch_now opened.spool) is.older_epochs found.order;
        wait = with_epoch olds news (epoch_now opened.spool) ∙ wait;
      },
      is.pages ∙ ap closed wait,
    )

pub crashes_leave_what_waits : {D : Type 0} (seen : D → List ℕ) (may_leave : D → List ℕ → Type 0) (is_usable : D → Bool) → CrashesLeaveWhatWaits seen may_leave is_usable
crashes_leave_what_waits seen may_leave is_usable spool pages rests = rests_told seen may_leave is_usable spool spool pages rests

pub new_spools_tell_none : NewSpoolsTellNone
new_spools_tell_none older newer first second = record { olds = []; news = []; tell = (first, second); in_order = inl refl; wait = refl }

-- ---- openings that stop

left_by_one : (older newer one other last_older last_newer : List ℕ) (pages : List PageValue) → TellWaits older newer pages → AreBoth older newer one other → IsLeftByOpening one other last_older last_newer
    → TellWaits last_older last_newer pages
left_by_one older newer one other last_older last_newer pages tell both is =
    let olds : List SpoolRecord = older_of is.ones is.others in
    let news : List SpoolRecord = newer_of is.ones is.others in
    let found : AreFound tell.olds tell.news olds news = are_found tell.olds tell.news is.ones is.others
    (are_read older newer one other tell.olds tell.news is.ones is.others both tell.tell.0 tell.tell.1 is.one_tells is.other_tells) tell.in_order in
    elim is.left [
      | inl same ↦ record { olds = olds; news = news; tell = same; in_order = found.order; wait = found.wait ∙ tell.wait }
      | inr more ↦ record {
        olds = olds;
        news = news ++ epoch_records is.number;
        tell = more;
        in_order = order_found olds (news ++ epoch_records is.number) (order_begins olds news is.number is.older_epochs found.order);
        wait = with_epoch olds news is.number ∙ found.wait ∙ tell.wait;
      }
    ]

pub stopped_openings_leave_what_waits : StoppedOpeningsLeaveWhatWaits
stopped_openings_leave_what_waits zero older newer last_older last_newer pages tell stop =
    subst (λ (l : List ℕ). TellWaits l last_newer pages) (sym stop.0) (subst (λ (l : List ℕ). TellWaits older l pages) (sym stop.1) tell)
stopped_openings_leave_what_waits (suc times) older newer last_older last_newer pages tell stop =
    left_by_one stop.0 stop.1 stop.2 stop.3 last_older last_newer pages (stopped_openings_leave_what_waits times older newer stop.0 stop.1 pages tell stop.4) stop.5 stop.6

pub openings_leave_their_epoch : {D : Type 0} (seen : D → List ℕ) (may_leave : D → List ℕ → Type 0) (is_usable : D → Bool) → OpeningsLeaveTheirEpoch seen may_leave is_usable
openings_leave_their_epoch seen may_leave is_usable one other older newer opened is left =
    let olds : List SpoolRecord = older_of is.ones is.others in
    let news : List SpoolRecord = newer_of is.ones is.others in
    record {
      ones = is.ones;
      others = is.others;
      one_tells = is.one_tells;
      other_tells = is.other_tells;
      number = epoch_now opened.spool;
      older_epochs = is.older_epochs;
      newer_epochs = is.newer_epochs;
      left = inr (at_rest seen may_leave is_usable opened.spool opened.spool olds (news ++ epoch_records (epoch_now opened.spool)) is.keeps older newer left);
    }
