use Rattle.std.proofs.Common.{◌≡◌, ◌+◌, ◌∙◌, [], List, slice_index_or, sym, subst, arith, ◌<◌, length}
use Rattle.std.proofs.lemmas.List.{get_or_default}
use Rattle.fax_line.specs.Operations.{EachGoes}
use Rattle.fax_line.specs.Places.{GoesInPlace, PlaceValue}
use Rattle.fax_line.proofs.Slots.{Firsts, alike, alike_awake, alike_off, alike_on, alike_waits, all_firsts, ends_if, ends_off, ends_on, no_firsts}
use Rattle.fax_line.proofs.Stepping.{each_none, told_on}
use Rattle.fax_line.proofs.lines.end_turns.Goals as goal
use Rattle.fax_line.proofs.lines.end_turns.Goals.{then-has_page, else-has_page}

pub loop-i-init : goal.loop-i-init
loop-i-init g c =
    (each_none c.args.places.now, no_firsts (ends_if c.args.pages.now c.args.is_stored) c.args.places.now, no_firsts alike c.args.places.now)

pub loop-i-preserved : goal.loop-i-preserved
loop-i-preserved g c =
    let pages = c.args.pages.now in
    let is_stored = c.args.is_stored in
    let olds = c.args.places.now in
    let places = c.loop-i.places in
    let at = c.loop-i.i in
    let inside : at < length places = omega (arith, c.loop-i-test.true, c.loop-i.invariant.1.as_many) in
    let before = c.loop-i.invariant in
    elim c.if-has_page.branch [
      | then-has_page w ↦
          let old = slice_index_or places at w.index-places-i.result in
          let new = w.end_turn.new.self in
          let is_old : (d : PlaceValue) → old ≡ slice_index_or places at d = λ d. get_or_default places at w.index-places-i.result d inside in
          subst (λ (l : List PlaceValue). EachGoes (λ i. []) olds l × Firsts (ends_if pages is_stored) (at + 1) olds l × Firsts alike (at + 1) olds l) (sym w.places-is) (
            told_on at olds places new inside (λ d. subst (λ (l : PlaceValue). GoesInPlace [] l new) (is_old d) w.end_turn.ensures.goes) before.0,
            ends_on at olds places old new pages is_stored inside is_old before.1 (sym c.has_page.ensures ∙ w.if-has_page.true) (w.end_turn.ensures.ends, w.end_turn.ensures.turned),
            alike_on at olds places old new inside is_old (w.end_turn.ensures.waits, w.end_turn.ensures.awake) before.2,
          )
      | else-has_page w ↦
          subst (λ (l : List PlaceValue). EachGoes (λ i. []) olds l × Firsts (ends_if pages is_stored) (at + 1) olds l × Firsts alike (at + 1) olds l) (sym w.places-is)
          (before.0, ends_off at olds places pages is_stored (sym c.has_page.ensures ∙ w.if-has_page.false) before.1, alike_off at olds places before.2)
    ]

pub returns-clause-ends : goal.returns-clause-ends
returns-clause-ends g c = all_firsts (ends_if c.args.pages.now c.args.is_stored) c.loop-i.i c.args.places.now c.loop-i.places (omega arith) c.loop-i.invariant.1

pub returns-clause-waits : goal.returns-clause-waits
returns-clause-waits g c =
    alike_waits c.args.places.now c.loop-i.places (all_firsts alike c.loop-i.i c.args.places.now c.loop-i.places (omega arith) c.loop-i.invariant.2)

pub returns-clause-awake : goal.returns-clause-awake
returns-clause-awake g c =
    alike_awake c.args.places.now c.loop-i.places (all_firsts alike c.loop-i.i c.args.places.now c.loop-i.places (omega arith) c.loop-i.invariant.2)
