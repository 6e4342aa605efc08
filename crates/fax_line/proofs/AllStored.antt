-- A run keeps all pages that it put with an Ok.
use Rattle.std.proofs.Common.{◌≡◌, ℕ, zero, suc, Bool, true, false, List, [], ◌∷◌, ◌++◌, Option, Some, None, refl, sym, ap, subst, is_ok, slice_get, append_assoc}
use Rattle.fax_gateway.specs.declared.given.Kept.{Kept}
use Rattle.fax_gateway.specs.declared.turn_report.TurnReport.{TurnReport as Told}
use Rattle.fax_wires.specs.holding.Storing.{PutsIf}
use Rattle.fax_line.specs.declared.settling.LineReport.{LineReport}
use Rattle.fax_line.specs.declared.settling.PageToStore.{PageToStore}
use Rattle.fax_line.specs.declared.settling.PutResult.{PutResult}
use Rattle.fax_line.specs.StoredRuns.{EndsEach, EndsIf, IsRun, IsSettled, NotesFirst, NotesIf, NotesPlace, NotesWhere, kept_if, stored_pages}
use Rattle.fax_line.specs.Places.{PlaceValue}
use Rattle.fax_line.specs.Runs.{AskedOf, DoneOrder, Stored, Turned, Woken, turned_in}
use Rattle.fax_line.specs.Settling.{has_page}

nil_after : (pages : List PageToStore) → pages ++ [] ≡ pages
nil_after [] = refl
nil_after (page ∷ pages) = ap (λ (l : List PageToStore). page ∷ l) (nil_after pages)

module _
    (K : Type 0) (same : K → K → Type 0) (puts : List PageToStore → Bool → K → K → Type 0) (notes : ℕ → ℕ → K → K → Type 0) (ends : List LineReport → K → K → Type 0) (keeps : K → List PageToStore → Type 0)
    (by_same : (old new : K) (pages : List PageToStore) → same old new → keeps old pages → keeps new pages)
    (by_puts : (put : List PageToStore) (is_stored : Bool) (old new : K) (pages : List PageToStore) → puts put is_stored old new → keeps old pages → keeps new (pages ++ kept_if is_stored put))
    (by_notes : (line call : ℕ) (old new : K) (pages : List PageToStore) → notes line call old new → keeps old pages → keeps new pages)
    (by_ends : (ended : List LineReport) (old new : K) (pages : List PageToStore) → ends ended old new → keeps old pages → keeps new pages) where
  by_none : (old new : K) (pages : List PageToStore) → new ≡ old → keeps old pages → keeps new pages
  by_none old new pages is kept = subst (λ (k : K). keeps k pages) (sym is) kept

  noted : (number : ℕ) (o : Option Kept) (handed : Bool) (old new : K) (pages : List PageToStore) → NotesIf notes number o handed old new → keeps old pages → keeps new pages
  noted number None handed old new pages is kept = by_none old new pages is kept
  noted number (Some page) true old new pages is kept = by_none old new pages is kept
  noted number (Some page) false old new pages is kept = by_notes number page.call old new pages is kept

  noted_where : (number : ℕ) (turned : Bool) (told : Told) (handed : Bool) (old new : K) (pages : List PageToStore) → NotesWhere notes number turned told handed old new → keeps old pages → keeps new pages
  noted_where number true told handed old new pages is kept = noted number told.kept handed old new pages is kept
  noted_where number false told handed old new pages is kept = by_none old new pages is kept

  noted_place : (which : ℕ → Bool) (handed : List PageToStore) (number : ℕ) (o : Option PlaceValue) (old new : K) (pages : List PageToStore) → NotesPlace notes which handed number o old new → keeps old pages → keeps new pages
  noted_place which handed number None old new pages is kept = by_none old new pages is kept
  noted_place which handed number (Some place) old new pages is kept = noted_where number (which number) place.line.turned (has_page handed number) old new pages is kept

  noted_first : (which : ℕ → Bool) (handed : List PageToStore) (lines : List PlaceValue) (number : ℕ) (old new : K) (pages : List PageToStore) → NotesFirst notes which handed lines number old new → keeps old pages → keeps new pages
  noted_first which handed lines zero old new pages is kept = by_none old new pages is kept
  noted_first which handed lines (suc number) old new pages is kept =
      noted_place which handed number (slice_get lines number) is.0 new pages is.2 (noted_first which handed lines number old is.0 pages is.1 kept)

  ended_if : (ended : List LineReport) (old new : K) (pages : List PageToStore) → EndsIf ends ended old new → keeps old pages → keeps new pages
  ended_if [] old new pages is kept = by_none old new pages is kept
  ended_if (one ∷ ended) old new pages is kept = by_ends (one ∷ ended) old new pages is kept

  ended_each : (batches : List (List LineReport)) (old new : K) (pages : List PageToStore) → EndsEach ends batches old new → keeps old pages → keeps new pages
  ended_each [] old new pages is kept = by_none old new pages is kept
  ended_each (ended ∷ later) old new pages is kept = ended_each later is.0 new pages is.2 (ended_if ended old is.0 pages is.1 kept)

  put_if : (put : List PageToStore) (is_stored : Bool) (old new : K) (pages : List PageToStore) → PutsIf puts put is_stored old new → keeps old pages → keeps new (pages ++ kept_if is_stored put)
  put_if [] true old new pages is kept = subst (λ (l : List PageToStore). keeps new l) (sym (nil_after pages)) (by_none old new pages is.1 kept)
  put_if [] false old new pages is kept = subst (λ (l : List PageToStore). keeps new l) (sym (nil_after pages)) (by_none old new pages is.1 kept)
  put_if (page ∷ put) is_stored old new pages is kept = by_puts (page ∷ put) is_stored old new pages is kept

  settles : (which : ℕ → Bool) (end : PutResult) (old new : List PlaceValue) (before after : K) (pages : List PageToStore)
      → IsSettled same puts notes ends which end old new before after → keeps before pages → keeps after (pages ++ kept_if (is_ok end.answer) end.pages.items)
  settles which end old new before after pages is kept =
      ended_each is.told.ended.batches is.told.between after (pages ++ kept_if (is_ok end.answer) end.pages.items) is.told.ended.told
      (noted_first which end.pages.items new is.told.noted.count is.kept is.told.between (pages ++ kept_if (is_ok end.answer) end.pages.items) is.told.noted.told
      (put_if end.pages.items (is_ok end.answer) is.begun is.kept pages is.put (by_same before is.begun pages is.is_same kept)))

  pub run_keeps : (done : List DoneOrder) (settled : List PutResult) (old new : List PlaceValue) (before after : K) (pages : List PageToStore)
      → IsRun same puts notes ends done settled old new before after → keeps before pages → keeps after (pages ++ stored_pages settled)
  run_keeps [] [] old new before after pages ran kept = subst (λ (l : List PageToStore). keeps after l) (sym (nil_after pages)) (by_none before after pages ran.1 kept)
  run_keeps [] (end ∷ settled) old new before after pages ran kept = absurd ran
  run_keeps (Turned now visits ∷ done) settled old new before after pages ran kept = run_keeps done settled old ran.0 before after pages ran.2 kept
  run_keeps (Stored visits ∷ done) [] old new before after pages ran kept = absurd ran
  run_keeps (Stored visits ∷ done) (end ∷ settled) old new before after pages ran kept =
      subst (λ (l : List PageToStore). keeps after l) (append_assoc pages (stored_pages settled) (kept_if (is_ok end.answer) end.pages.items))
      (settles (turned_in visits) end ran.1 new ran.2 after (pages ++ stored_pages settled) ran.6 (run_keeps done settled old ran.0 before ran.2 pages ran.3 kept))
  run_keeps (AskedOf line now what answer ∷ done) settled old new before after pages ran kept = run_keeps done settled old ran.0 before after pages ran.1 kept
  run_keeps (Woken line ∷ done) settled old new before after pages ran kept = run_keeps done settled old ran.0 before after pages ran.1 kept
