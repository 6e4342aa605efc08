-- What is stored of the pages that turns of lines confirmed, and what goes out after that. Lists have the oldest first, but
-- those of operations. (This project's profile.)
use Rattle.std.specs.Prelude.{◌≡◌, ◌<◌, ℕ, Bool, true, false, ◌&&◌, ◌||◌, nat_eq, List, [], ◌∷◌, ◌++◌, length, slice_index_or, Option, Some, None, is_some, is_ok, ◌⊎◌}
use Rattle.std.specs.List.{All, AllPairs, list_any}
use Rattle.fax_bits.specs.Writing.{IsPadded}
use Rattle.fax_runcodes.specs.declared.format.Coding.TheVariants as codings
use Rattle.fax_pagestore.specs.Pages.{PageValue}
use Rattle.fax_pagestore.specs.WrittenPages.{WritesPage}
use Rattle.fax_jobs.specs.Newest.{newest_page}
use Rattle.fax_gateway.specs.declared.given.Kept.{Kept}
use Rattle.fax_gateway.specs.declared.turn_report.TurnReport.{TurnReport}
use Rattle.fax_wires.specs.repeat.Policies.{IsToldAs}
use Rattle.fax_wires.specs.holding.Storing.{HasDone, HoldsAfter, LegAction, Turn}
use Rattle.fax_line.specs.Actions.{LineValue}
use Rattle.fax_line.specs.Places.{PlaceValue}
use Rattle.fax_line.specs.Operations.{EachComes, slot_of}
use Rattle.fax_line.specs.declared.settling.LineReport.{LineReport}
use Rattle.fax_line.specs.declared.settling.PageToStore.{PageToStore}
use Rattle.fax_line.specs.declared.settling.PutResult.{PutResult}

-- what the turn told of it, and its text in two-dimensional coding, without fill: it is the newest page of the gateway's book
pub record IsStoredAs (kept : Kept) (newest : Option PageValue) (to_store : PageToStore) :
    Type 0 where
  pub told : to_store.kept ≡ kept
  pub page : PageValue
  pub newest_is : newest ≡ Some page
  pub text : List Bool
  pub writes : WritesPage codings.Mr page.format.fine 0 page.rows text
  pub octets : IsPadded to_store.text text

-- the last turn of a line confirmed this page
pub record IsOfTurn (line : LineValue) (page : PageToStore) : Type 0 where
  pub kept : Kept
  pub told : line.turned.kept ≡ Some kept
  pub is_stored_as : IsStoredAs kept (newest_page line.gateway.book) page

-- what the last turn of the line of this number confirmed: a page, or none
abbrev pub IsOfTurnIf : ℕ → LineValue → Option PageToStore → Type 0
IsOfTurnIf number line None = line.turned.kept ≡ None
IsOfTurnIf number line (Some page) = (page.line ≡ number) × IsOfTurn line page

-- THE END OF A LINE'S TURN, whose page is stored or not: its wire has done one turn more, whatever it did before, of which that tells
-- nothing; the rest of the line is as it was.
pub record EndsTurn (is_stored : Bool) (old new : LineValue) : Type 0 where
  pub done : (operations : List LegAction) (given : Option (List ℕ))
      → HoldsAfter operations given old.holding
      → HasDone (Turn given (is_some old.turned.kept) is_stored ∷ operations) new.holding
  pub gateway : new.gateway ≡ old.gateway
  pub driver : new.driver ≡ old.driver
  pub wire : IsToldAs old.wire new.wire
  pub peers : new.peers ≡ old.peers
  pub told : new.turned ≡ old.turned

-- in the order of their lines, one of a line at most
abbrev pub RiseByLine : List LineReport → Type 0
RiseByLine reports = AllPairs (λ report after. report.line < after.line) reports

-- whether a page is of the line of this number, and whether one of these is
abbrev pub is_of : ℕ → PageToStore → Bool
is_of number page = nat_eq page.line number

abbrev pub has_page : List PageToStore → ℕ → Bool
has_page pages number = list_any (is_of number) pages

-- a page was stored where it was handed to the store, and that stored what it was handed
abbrev pub is_stored_in : PutResult → ℕ → Bool
is_stored_in end number = has_page end.pages.items number && is_ok end.answer

-- ---- of the lines of which this is true, which were turned, and whose turns have not ended

-- one of them confirmed this page in its last turn
pub record IsPageOf (ends : ℕ → Bool) (lines : List PlaceValue) (page : PageToStore) : Type 0 where
  pub there : page.line < length lines
  pub turned : ends page.line ≡ true
  pub is_of_turn : (other : PlaceValue) → IsOfTurn (slice_index_or lines page.line other).line page

-- THE PAGES OF THEIR TURNS, in the order of the lines, one of a line at most
pub record ArePagesOf (ends : ℕ → Bool) (lines : List PlaceValue) (pages : List PageToStore) :
    Type 0 where
  pub each : All (IsPageOf ends lines) pages
  pub in_order : AllPairs (λ page after. page.line < after.line) pages

-- where a line's turn ends, it does so; else the line stays as it was
abbrev pub EndsWhere : Bool → Bool → PlaceValue → PlaceValue → Type 0
EndsWhere true is_stored old new = EndsTurn is_stored old.line new.line × (new.turned ≡ old.turned)
EndsWhere false is_stored old new = new ≡ old

-- THEIR TURNS END, where the pages of these lines are stored: each by itself, and no other line is touched.
abbrev pub EndTurns : (ends is_stored : ℕ → Bool) → List PlaceValue → List PlaceValue → Type 0
EndTurns ends is_stored old new =
    EachComes (λ number place. EndsWhere (ends number) (is_stored number) place) old new

-- Where pages are not stored they end as where all of them are: what each line gave goes out.
abbrev pub LetOut : (ends : ℕ → Bool) → List PlaceValue → List PlaceValue → Type 0
LetOut ends old new = EndTurns ends (λ number. true) old new

-- whether the line of this number was turned in the last turn of this slot
abbrev pub was_turned : ℕ → ℕ → PlaceValue → Bool
was_turned slot number place = nat_eq (slot_of number) slot && place.turned

-- what its lines gave goes out
abbrev pub LetsOutSlot : ℕ → List PlaceValue → List PlaceValue → Type 0
LetsOutSlot slot old new =
    EachComes (λ number place. EndsWhere (was_turned slot number place) true place) old new

-- whether something of a turn is to be stored: a page that it confirmed, or the end of a job
abbrev pub is_to_store : TurnReport → Bool
is_to_store told = is_some told.kept || is_some told.report

-- After the turn of a slot each of its lines waits that was turned, and of whose turn something is to be stored; what the others gave
-- goes out. One that waited before does so still.
abbrev pub SetsAsideIf : (was_turned waits is_to_store : Bool) → PlaceValue → PlaceValue → Type 0
SetsAsideIf false waits to_store old new = new ≡ old
SetsAsideIf true true to_store old new = new ≡ old
SetsAsideIf true false true old new = new ≡ record old { waits = true }
SetsAsideIf true false false old new =
    EndsWhere true false old new × (new.waits ≡ false) × (new.awake ≡ old.awake)

abbrev pub SetAside : ℕ → List PlaceValue → List PlaceValue → Type 0
SetAside slot old new = EachComes (λ number place. SetsAsideIf (was_turned slot number place)
    place.waits (is_to_store place.line.turned) place) old new

-- ---- before the pages are stored

-- The page that a line's turn confirmed joins those that are to be stored, and the line waits for that;
pub record Waits (number : ℕ) (old new : PlaceValue) (before after : List PageToStore) :
    Type 0 where
  pub page : PageToStore
  pub joins : after ≡ before ++ page ∷ []
  pub number_is : page.line ≡ number
  pub is_of_turn : IsOfTurn old.line page
  pub same : new ≡ old

-- or its turn ends without one.
pub record EndsAtOnce (old new : PlaceValue) (before after : List PageToStore) : Type 0 where
  pub same : after ≡ before
  pub ends : EndsWhere true false old new

-- where a line had a turn
abbrev pub HandsOver : Bool
    → ℕ → PlaceValue → PlaceValue → List PageToStore → List PageToStore → Type 0
HandsOver true number old new before after =
    Waits number old new before after ⊎ EndsAtOnce old new before after
HandsOver false number old new before after = (after ≡ before) × (new ≡ old)

-- A line that had a turn waits where its page is to be stored, and its turn has ended where it has none.
abbrev pub WaitsOrEnds : Bool → Bool → PlaceValue → PlaceValue → Type 0
WaitsOrEnds true true old new = new ≡ old
WaitsOrEnds true false old new = EndsWhere true false old new
WaitsOrEnds false true old new = ⊥
WaitsOrEnds false false old new = new ≡ old

abbrev pub HandOver : (ends : ℕ → Bool)
    → List PageToStore → List PlaceValue → List PlaceValue → Type 0
HandOver ends pages old new =
    EachComes (λ number place. WaitsOrEnds (ends number) (has_page pages number) place) old new
