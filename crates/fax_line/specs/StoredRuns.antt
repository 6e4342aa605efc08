-- A run whose pages are stored: what becomes of its lines, and of what keeps their pages, order by order. Lists have the newest first,
-- but those of pages. (This project's profile.)
use Rattle.std.specs.Prelude.{◌≡◌, ◌⊎◌, ◌≤◌, ℕ, zero, suc, max, nat_eq, Bool, true, false, is_ok, List, [], ◌∷◌, ◌++◌, length, slice_get, Option, Some, None, if◌then◌else◌}
use Rattle.fax_jobs.specs.declared.report.Report.{Report}
use Rattle.fax_gateway.specs.declared.given.Kept.{Kept}
use Rattle.fax_gateway.specs.declared.turn_report.TurnReport.{TurnReport as Told}
use Rattle.fax_wires.specs.holding.Storing.{PutsIf}
use Rattle.fax_line.specs.Operations.{AllStayHeld, AreFree, AreFreed, AskFrees, AsksLine, EachComes, LinesWent, VisitsLines, VisitsTell, WaitAlike, WakesLine, waits_of}
use Rattle.fax_line.specs.Places.{PlaceValue}
use Rattle.fax_line.specs.Runs.{AskedOf, DoneOrder, Stored, Turned, Woken, latest, turned_in}
use Rattle.fax_line.specs.Settling.{ArePagesOf, EndTurns, EndsWhere, LetOut, LetsOutSlot, SetAside, has_page, is_stored_in, is_to_store}
use Rattle.fax_line.specs.declared.settling.LineReport.{LineReport}
use Rattle.fax_line.specs.declared.settling.PageToStore.{PageToStore}
use Rattle.fax_line.specs.declared.settling.PutResult.{PutResult}

-- ---- what a store is told of turns, which is known by what is made of it then

-- of the page that a line confirmed, where that was not handed over,
abbrev pub NotesIf : {K : Type 0}
    → (ℕ → ℕ → K → K → Type 0) → ℕ → Option Kept → Bool → K → K → Type 0
NotesIf notes number None was_handed old new = new ≡ old
NotesIf notes number (Some kept) true old new = new ≡ old
NotesIf notes number (Some kept) false old new = notes number kept.call old new

-- where it had a turn;
abbrev pub NotesWhere : {K : Type 0}
    → (ℕ → ℕ → K → K → Type 0) → ℕ → Bool → Told → Bool → K → K → Type 0
NotesWhere notes number true told was_handed old new =
    NotesIf notes number told.kept was_handed old new
NotesWhere notes number false told was_handed old new = new ≡ old

abbrev pub NotesPlace : {K : Type 0} → (ℕ → ℕ → K → K → Type 0)
    → (ℕ → Bool) → List PageToStore → ℕ → Option PlaceValue → K → K → Type 0
NotesPlace notes which pages number None old new = new ≡ old
NotesPlace notes which pages number (Some place) old new =
    NotesWhere notes number (which number) place.line.turned (has_page pages number) old new

-- so of the first so many lines, one after the other, each where it is one of these,
abbrev pub NotesFirst : {K : Type 0} → (ℕ → ℕ → K → K → Type 0)
    → (ℕ → Bool) → List PageToStore → List PlaceValue → ℕ → K → K → Type 0
NotesFirst notes which pages lines zero old new = new ≡ old
NotesFirst {K} notes which pages lines (suc number) old new =
    (between : K) × NotesFirst notes which pages lines number old between
    × NotesPlace notes which pages number (slice_get lines number) between new

-- and of all lines.
pub record NotesLines {K : Type 0} (notes : ℕ → ℕ → K → K → Type 0) (which : ℕ → Bool)
    (pages : List PageToStore) (lines : List PlaceValue) (old new : K) : Type 0 where
  pub count : ℕ
  pub all : length lines ≤ count
  pub told : NotesFirst notes which pages lines count old new

-- And then of jobs that ended, of some at once, where there are any;
abbrev pub EndsIf : {K : Type 0}
    → (List LineReport → K → K → Type 0) → List LineReport → K → K → Type 0
EndsIf ends [] old new = new ≡ old
EndsIf ends (ended ∷ others) old new = ends (ended ∷ others) old new

-- and of some after others.
abbrev pub EndsEach : {K : Type 0}
    → (List LineReport → K → K → Type 0) → List (List LineReport) → K → K → Type 0
EndsEach ends [] old new = new ≡ old
EndsEach {K} ends (ended ∷ later) old new =
    (between : K) × EndsIf ends ended old between × EndsEach ends later between new

-- the reports of a line among these, and among all of these
abbrev pub reports_of : ℕ → List LineReport → List Report
reports_of line [] = []
reports_of line (ended ∷ others) =
    if nat_eq ended.line line then ended.report ∷ reports_of line others else reports_of line others

abbrev pub reports_in : ℕ → List (List LineReport) → List Report
reports_in line [] = []
reports_in line (ended ∷ later) = reports_of line ended ++ reports_in line later

-- what its turn told of a job, where it had one
abbrev pub report_if : Bool → Told → Option Report
report_if true told = told.report
report_if false told = None

abbrev pub report_list : Option Report → List Report
report_list None = []
report_list (Some report) = report ∷ []

abbrev pub reports_at : (which : ℕ → Bool) → ℕ → Option PlaceValue → List Report
reports_at which line None = []
reports_at which line (Some place) = report_list (report_if (which line) place.line.turned)

-- EACH JOB THAT ENDED in the turns of these lines is among those of which the store was told, once, and no other is.
pub record EndsLines {K : Type 0} (ends : List LineReport → K → K → Type 0) (which : ℕ → Bool)
    (lines : List PlaceValue) (old new : K) : Type 0 where
  pub batches : List (List LineReport)
  pub once : (line : ℕ) → reports_in line batches ≡ reports_at which line (slice_get lines line)
  pub told : EndsEach ends batches old new

-- One job more joins those of which a store is to be told; or it was told of these, and then of that one.
abbrev pub EndsWith : {K : Type 0} → (List LineReport → K → K → Type 0)
    → LineReport → (before after : List LineReport) → K → K → Type 0
EndsWith {K} ends one before after old new = ((after ≡ before ++ one ∷ []) × (new ≡ old))
    ⊎ ((after ≡ []) × ((between : K) × EndsIf ends before old between × ends (one ∷ []) between new))

-- of both
pub record TellsLines {K : Type 0} (notes : ℕ → ℕ → K → K → Type 0)
    (ends : List LineReport → K → K → Type 0) (which : ℕ → Bool)
    (pages : List PageToStore) (lines : List PlaceValue) (old new : K) : Type 0 where
  pub between : K
  pub noted : NotesLines notes which pages lines old between
  pub ended : EndsLines ends which lines between new

-- ---- what is to be stored of turns is stored

-- THE PAGES THAT THESE LINES CONFIRMED IN THEIR TURNS were put, all of them at once and in the order of the lines. What a line gave went
-- out where its page was among them and they were stored, or where it confirmed none. Then the store was told which pages were not
-- handed over, and which jobs ended. Nothing else was done with it, but for what leaves what it keeps the same.
pub record IsSettled {K : Type 0} (same : K → K → Type 0)
    (puts : List PageToStore → Bool → K → K → Type 0)
    (notes : ℕ → ℕ → K → K → Type 0) (ends : List LineReport → K → K → Type 0)
    (which : ℕ → Bool) (end : PutResult) (old new : List PlaceValue) (before after : K) :
    Type 0 where
  pub pages : ArePagesOf which old end.pages.items
  pub begun : K
  pub is_same : same before begun
  pub kept : K
  pub put : PutsIf puts end.pages.items (is_ok end.answer) begun kept
  pub settled : EndTurns which (is_stored_in end) old new
  pub told : TellsLines notes ends which end.pages.items new kept after

-- ---- the lines as they stand: those that wait

-- What is to be stored of their turns is stored, and none waits any more; what it saw of the store as the jobs' ends were not noted yet
-- is this.
pub record Settles {K : Type 0} (same : K → K → Type 0)
    (puts : List PageToStore → Bool → K → K → Type 0)
    (notes : ℕ → ℕ → K → K → Type 0) (ends : List LineReport → K → K → Type 0) (saw : K → Type 0)
    (old new : List PlaceValue) (before after : K) : Type 0 where
  pub end : PutResult
  pub left : List PlaceValue
  pub is_settled : IsSettled same puts notes ends (waits_of old) end old left before after
  pub freed : AreFreed left new
  pub went : LinesWent [] old new
  pub saw_stored : saw is_settled.kept

-- where they were stored
abbrev pub SettlesIf : {K : Type 0} → (K → K → Type 0)
    → (List PageToStore → Bool → K → K → Type 0) → (ℕ → ℕ → K → K → Type 0)
    → (List LineReport → K → K → Type 0) → List PlaceValue → List PlaceValue → K → K → Type 0
SettlesIf same puts notes ends old new before after = ((new ≡ old) × (after ≡ before))
    ⊎ Settles same puts notes ends (λ kept. Unit {0}) old new before after

-- after a turn of a slot
abbrev pub TurnEnds : {K : Type 0} → (K → K → Type 0)
    → (List PageToStore → Bool → K → K → Type 0) → (ℕ → ℕ → K → K → Type 0)
    → (List LineReport → K → K → Type 0)
    → ℕ → List PlaceValue → List PlaceValue → Option K → Option K → Type 0
TurnEnds same puts notes ends slot old new None after =
    (after ≡ None) × LetsOutSlot slot old new × LinesWent [] old new × WaitAlike old new
TurnEnds {K} same puts notes ends slot old new (Some before) after = (left : K)
    × (after ≡ Some left) × (aside : List PlaceValue) × SetAside slot old aside
    × LinesWent [] old aside × SettlesIf same puts notes ends aside new before left

-- before something is asked of a line, or at the end of a run
abbrev pub StoresIf : {K : Type 0} → (K → K → Type 0)
    → (List PageToStore → Bool → K → K → Type 0) → (ℕ → ℕ → K → K → Type 0)
    → (List LineReport → K → K → Type 0)
    → List PlaceValue → List PlaceValue → Option K → Option K → Type 0
StoresIf same puts notes ends old new None after = (after ≡ None) × (new ≡ old)
StoresIf {K} same puts notes ends old new (Some before) after =
    (left : K) × (after ≡ Some left) × SettlesIf same puts notes ends old new before left

-- where there is a store none waits
abbrev pub FreeWhere : {K : Type 0} → Option K → List PlaceValue → Type 0
FreeWhere None lines = Unit {0}
FreeWhere (Some k) lines = AreFree lines

-- or this line does not
abbrev pub IsFreeWhere : {K : Type 0} → Option K → ℕ → List PlaceValue → Type 0
IsFreeWhere None line lines = Unit {0}
IsFreeWhere (Some k) line lines = waits_of lines line ≡ false

-- The turns of these lines end, of which nothing is to be stored.
abbrev pub EndsUnstored : Bool → PlaceValue → PlaceValue → Type 0
EndsUnstored true old new = (is_to_store old.line.turned ≡ false) × EndsWhere true false old new
EndsUnstored false old new = new ≡ old

abbrev pub EndUnstored : (which : ℕ → Bool) → List PlaceValue → List PlaceValue → Type 0
EndUnstored which old new = EachComes (λ number. EndsUnstored (which number)) old new

-- ---- a run

-- A RUN WITH A STORE: a line of whose turn something is to be stored does nothing until that was done, for all such lines at once; the
-- turns of the others end before anything else is done. Nothing else touches the store. There is an end for each time that was done.
abbrev pub IsRun : {K : Type 0} → (K → K → Type 0) → (List PageToStore → Bool → K → K → Type 0)
    → (ℕ → ℕ → K → K → Type 0) → (List LineReport → K → K → Type 0)
    → List DoneOrder → List PutResult → List PlaceValue → List PlaceValue → K → K → Type 0
IsRun same puts notes ends [] [] old new before after = (new ≡ old) × (after ≡ before)
IsRun same puts notes ends [] (end ∷ settled) old new before after = ⊥
IsRun same puts notes ends (Turned now visits ∷ done) settled old new before after =
    (mid : List PlaceValue) × (turned : List PlaceValue)
    × IsRun same puts notes ends done settled old mid before after
    × LinesWent (VisitsLines visits ∷ []) mid turned × VisitsTell visits mid turned
    × EndUnstored (turned_in visits) turned new
IsRun same puts notes ends (Stored visits ∷ done) [] old new before after = ⊥
IsRun {K} same puts notes ends (Stored visits ∷ done) (end ∷ settled) old new before after =
    (mid : List PlaceValue) × (turned : List PlaceValue)
    × (between : K) × IsRun same puts notes ends done settled old mid before between
    × LinesWent (VisitsLines visits ∷ []) mid turned × VisitsTell visits mid turned
    × IsSettled same puts notes ends (turned_in visits) end turned new between after
IsRun same puts notes ends (AskedOf line now what answer ∷ done) settled old new before after =
    (mid : List PlaceValue) × IsRun same puts notes ends done settled old mid before after
    × LinesWent (AsksLine line (max (latest done) now) what answer ∷ []) mid new
    × AskFrees line what answer mid new
IsRun same puts notes ends (Woken line ∷ done) settled old new before after =
    (mid : List PlaceValue) × IsRun same puts notes ends done settled old mid before after
    × LinesWent (WakesLine line ∷ []) mid new × AllStayHeld mid new

-- A RUN WITHOUT A STORE: what a turn of a slot gave goes out before anything else is done.
abbrev pub RanWithout : List DoneOrder → List PlaceValue → List PlaceValue → Type 0
RanWithout [] old new = new ≡ old
RanWithout (Turned now visits ∷ done) old new =
    (mid : List PlaceValue) × (turned : List PlaceValue) × RanWithout done old mid
    × LinesWent (VisitsLines visits ∷ []) mid turned × VisitsTell visits mid turned
    × LetOut (turned_in visits) turned new
RanWithout (Stored visits ∷ done) old new = ⊥
RanWithout (AskedOf line now what answer ∷ done) old new =
    (mid : List PlaceValue) × RanWithout done old mid
    × LinesWent (AsksLine line (max (latest done) now) what answer ∷ []) mid new
    × AskFrees line what answer mid new
RanWithout (Woken line ∷ done) old new = (mid : List PlaceValue)
    × RanWithout done old mid × LinesWent (WakesLine line ∷ []) mid new × AllStayHeld mid new

-- where there is a store; a run that begins with none has none
abbrev pub RanIf : {K : Type 0} → (K → K → Type 0) → (List PageToStore → Bool → K → K → Type 0)
    → (ℕ → ℕ → K → K → Type 0) → (List LineReport → K → K → Type 0)
    → List DoneOrder → List PlaceValue → List PlaceValue → Option K → Option K → Type 0
RanIf same puts notes ends done old new None after = (after ≡ None) × RanWithout done old new
RanIf {K} same puts notes ends done old new (Some before) after =
    (left : K) × (after ≡ Some left)
    × (settled : List PutResult) × IsRun same puts notes ends done settled old new before left

-- ---- what it comes to

-- of pages that were put at once, those that were stored
abbrev pub kept_if : Bool → List PageToStore → List PageToStore
kept_if true pages = pages
kept_if false pages = []

-- of a whole run
abbrev pub stored_pages : List PutResult → List PageToStore
stored_pages [] = []
stored_pages (end ∷ earlier) = stored_pages earlier ++ kept_if (is_ok end.answer) end.pages.items

-- A RUN KEEPS ALL PAGES that were put with an Ok, in the order in which they were confirmed, where its store keeps what it is handed so,
-- and loses none of it by anything else that it is told.
abbrev pub RunStores : {K : Type 0}
    → (K → K → Type 0) → (List PageToStore → Bool → K → K → Type 0) → (ℕ → ℕ → K → K → Type 0)
    → (List LineReport → K → K → Type 0) → (K → List PageToStore → Type 0) → Type 0
RunStores {K} same puts notes ends keeps =
    ((old new : K) (pages : List PageToStore) → same old new → keeps old pages → keeps new pages)
    → ((put : List PageToStore) (is_stored : Bool) (old new : K) (pages : List PageToStore)
    → puts put is_stored old new → keeps old pages → keeps new (pages ++ kept_if is_stored put))
    → ((line call : ℕ) (old new : K) (pages : List PageToStore)
    → notes line call old new → keeps old pages → keeps new pages)
    → ((ended : List LineReport) (old new : K) (pages : List PageToStore)
    → ends ended old new → keeps old pages → keeps new pages)
    → (done : List DoneOrder) (settled : List PutResult)
    (old new : List PlaceValue) (before after : K) (pages : List PageToStore)
    → IsRun same puts notes ends done settled old new before after
    → keeps before pages → keeps after (pages ++ stored_pages settled)
