-- A run of which more is known as its jobs end is a run of which less is known.
use Rattle.std.proofs.Common.{ℕ, zero, suc, Bool, true, false, List, [], ◌∷◌, Option, Some, None, slice_get}
use Rattle.fax_gateway.specs.declared.given.Kept.{Kept}
use Rattle.fax_gateway.specs.declared.turn_report.TurnReport.{TurnReport as Told}
use Rattle.fax_wires.specs.holding.Storing.{PutsIf}
use Rattle.fax_line.specs.Places.{PlaceValue}
use Rattle.fax_line.specs.Runs.{AskedOf, DoneOrder, Stored, Turned, Woken}
use Rattle.fax_line.specs.Settling.{has_page}
use Rattle.fax_line.specs.StoredRuns.{EndsEach, EndsIf, IsRun, IsSettled, NotesFirst, NotesIf, NotesPlace, NotesWhere}
use Rattle.fax_line.specs.declared.settling.LineReport.{LineReport}
use Rattle.fax_line.specs.declared.settling.PageToStore.{PageToStore}
use Rattle.fax_line.specs.declared.settling.PutResult.{PutResult}

module _ {K : Type 0} (same is_same : K → K → Type 0) (puts has_put : List PageToStore → Bool → K → K → Type 0) (notes has_noted : ℕ → ℕ → K → K → Type 0) (ends has_ended : List LineReport → K → K → Type 0)
    (one : (old new : K) → same old new → is_same old new) (two : (pages : List PageToStore) (is_stored : Bool) (old new : K) → puts pages is_stored old new → has_put pages is_stored old new)
    (three : (line call : ℕ) (old new : K) → notes line call old new → has_noted line call old new) (four : (ended : List LineReport) (old new : K) → ends ended old new → has_ended ended old new) where
  notes_if : (number : ℕ) (kept : Option Kept) (was_handed : Bool) (old new : K) → NotesIf notes number kept was_handed old new → NotesIf has_noted number kept was_handed old new
  notes_if number None was_handed old new is = is
  notes_if number (Some kept) true old new is = is
  notes_if number (Some kept) false old new is = three number kept.call old new is

  notes_where : (number : ℕ) (was : Bool) (told : Told) (was_handed : Bool) (old new : K) → NotesWhere notes number was told was_handed old new → NotesWhere has_noted number was told was_handed old new
  notes_where number true told was_handed old new is = notes_if number told.kept was_handed old new is
  notes_where number false told was_handed old new is = is

  notes_place : (which : ℕ → Bool) (pages : List PageToStore) (number : ℕ) (place : Option PlaceValue) (old new : K) → NotesPlace notes which pages number place old new → NotesPlace has_noted which pages number place old new
  notes_place which pages number None old new is = is
  notes_place which pages number (Some place) old new is = notes_where number (which number) place.line.turned (has_page pages number) old new is

  notes_first : (which : ℕ → Bool) (pages : List PageToStore) (lines : List PlaceValue) (count : ℕ) (old new : K) → NotesFirst notes which pages lines count old new → NotesFirst has_noted which pages lines count old new
  notes_first which pages lines zero old new is = is
  notes_first which pages lines (suc number) old new is = (is.0, notes_first which pages lines number old is.0 is.1, notes_place which pages number (slice_get lines number) is.0 new is.2)

  ends_if : (ended : List LineReport) (old new : K) → EndsIf ends ended old new → EndsIf has_ended ended old new
  ends_if [] old new is = is
  ends_if (one ∷ ended) old new is = four (one ∷ ended) old new is

  ends_each : (batches : List (List LineReport)) (old new : K) → EndsEach ends batches old new → EndsEach has_ended batches old new
  ends_each [] old new is = is
  ends_each (ended ∷ later) old new is = (is.0, ends_if ended old is.0 is.1, ends_each later is.0 new is.2)

  puts_if : (pages : List PageToStore) (is_stored : Bool) (old new : K) → PutsIf puts pages is_stored old new → PutsIf has_put pages is_stored old new
  puts_if [] is_stored old new is = is
  puts_if (page ∷ pages) is_stored old new is = two (page ∷ pages) is_stored old new is

  settled_so : (which : ℕ → Bool) (end : PutResult) (old new : List PlaceValue) (before after : K) → IsSettled same puts notes ends which end old new before after → IsSettled is_same has_put has_noted has_ended which end old new before after
  settled_so which end old new before after is = record {
    pages = is.pages;
    begun = is.begun;
    is_same = one before is.begun is.is_same;
    kept = is.kept;
    put = puts_if _ _ _ _ is.put;
    settled = is.settled;
    told = record {
      between = is.told.between;
      noted = record { count = is.told.noted.count; all = is.told.noted.all; told = notes_first which end.pages.items new is.told.noted.count is.kept is.told.between is.told.noted.told };
      ended = record { batches = is.told.ended.batches; once = is.told.ended.once; told = ends_each is.told.ended.batches is.told.between after is.told.ended.told };
    };
  }

  pub weaker_run : (done : List DoneOrder) (settled : List PutResult) (old new : List PlaceValue) (before after : K) → IsRun same puts notes ends done settled old new before after → IsRun is_same has_put has_noted has_ended done settled old new before after
  weaker_run [] [] old new before after is = is
  weaker_run [] (end ∷ settled) old new before after is = absurd is
  weaker_run (Turned now visits ∷ done) settled old new before after is = (is.0, is.1, weaker_run done settled old is.0 before after is.2, is.3, is.4, is.5)
  weaker_run (Stored visits ∷ done) [] old new before after is = absurd is
  weaker_run (Stored visits ∷ done) (end ∷ settled) old new before after is =
      (is.0, is.1, is.2, weaker_run done settled old is.0 before is.2 is.3, is.4, is.5, settled_so _ end is.1 new is.2 after is.6)
  weaker_run (AskedOf line now what answer ∷ done) settled old new before after is = (is.0, weaker_run done settled old is.0 before after is.1, is.2, is.3)
  weaker_run (Woken line ∷ done) settled old new before after is = (is.0, weaker_run done settled old is.0 before after is.1, is.2, is.3)
