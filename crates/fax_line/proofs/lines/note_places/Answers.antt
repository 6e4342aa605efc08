use Rattle.std.proofs.Common.{◌≡◌, ◌∙◌, ◌<◌, Bool, Some, length, arith, ap, refl, sym, slice_get, subst}
use Rattle.fax_line.specs.StoredRuns.{NotesWhere}
use Rattle.fax_line.specs.Places.{PlaceValue}
use Rattle.fax_line.proofs.Telling.{notes_next, there_at}
use Rattle.fax_line.proofs.lines.note_places.Goals as goal

pub loop-i-init : goal.loop-i-init
loop-i-init g c = refl

pub loop-i-preserved : goal.loop-i-preserved
loop-i-preserved g c =
    let pages = c.args.pages.now in
    let lines = c.args.places.now in
    let at = c.loop-i.i in
    let notes = g.K.RunStore.notes in
    let place : PlaceValue = c.index-places-i.result in
    let inside : at < length lines = c.loop-i-test.true in
    let there : slice_get lines at ≡ Some place = there_at lines at place inside ∙ ap (λ (p : PlaceValue). Some p) (sym c.index-places-i.is) in
    let told = subst (λ (b : Bool). NotesWhere notes at place.waits place.line.turned b c.loop-i.store c.note_place.new.store) c.has_page.ensures c.note_place.ensures in
    notes_next g.row.K.Denot notes pages lines at place c.args.store.now c.loop-i.store c.note_place.new.store inside there c.index-places-i.is told c.loop-i.invariant

pub returns : goal.returns
returns g c = record { count = c.loop-i.i; all = omega arith; told = c.loop-i.invariant }
