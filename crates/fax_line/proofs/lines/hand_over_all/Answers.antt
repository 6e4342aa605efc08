use Rattle.std.proofs.Common.{◌≡◌, [], List, slice_index_or, sym, subst, arith, ◌<◌, length}
use Rattle.std.proofs.lemmas.List.{get_or_default}
use Rattle.fax_line.specs.declared.settling.PageToStore.{PageToStore}
use Rattle.fax_line.specs.Places.{GoesInPlace, PlaceValue}
use Rattle.fax_line.proofs.Slots.{HandedOver, alike, alike_awake, alike_on, alike_waits, all_firsts, hands, hands_on, no_firsts, none_handed}
use Rattle.fax_line.proofs.Stepping.{each_none, told_on}
use Rattle.fax_line.proofs.lines.hand_over_all.Goals as goal

pub loop-i-init : goal.loop-i-init
loop-i-init g c =
    let places = c.args.places.now in
    (each_none places, subst (λ (l : List PageToStore). HandedOver 0 places places l) (sym c.new-pages.ensures.items) (none_handed places), no_firsts alike places)

pub loop-i-preserved : goal.loop-i-preserved
loop-i-preserved g c =
    let olds = c.args.places.now in
    let places = c.loop-i.places in
    let pages = c.loop-i.pages.items in
    let at = c.loop-i.i in
    let inside : at < length places = omega (arith, c.loop-i-test.true, c.loop-i.invariant.2.as_many) in
    let before = c.loop-i.invariant in
    let old = slice_index_or places at c.index-places-i.result in
    let new = c.hand_over.new.self in
    let is_old : (d : PlaceValue) → old ≡ slice_index_or places at d = λ d. get_or_default places at c.index-places-i.result d inside in (
      told_on at olds places new inside (λ d. subst (λ (l : PlaceValue). GoesInPlace [] l new) (is_old d) c.hand_over.ensures.goes) before.0,
      hands_on at olds places old new pages c.hand_over.new.pages.items inside is_old before.1 c.hand_over.ensures.hands,
      alike_on at olds places old new inside is_old (c.hand_over.ensures.waits, c.hand_over.ensures.awake) before.2,
    )

pub returns-clause-pages : goal.returns-clause-pages
returns-clause-pages g c = record { each = c.loop-i.invariant.1.each; in_order = c.loop-i.invariant.1.in_order }

pub returns-clause-waits : goal.returns-clause-waits
returns-clause-waits g c =
    alike_waits c.args.places.now c.loop-i.places (all_firsts alike c.loop-i.i c.args.places.now c.loop-i.places (omega arith) c.loop-i.invariant.2)

pub returns-clause-awake : goal.returns-clause-awake
returns-clause-awake g c =
    alike_awake c.args.places.now c.loop-i.places (all_firsts alike c.loop-i.i c.args.places.now c.loop-i.places (omega arith) c.loop-i.invariant.2)

pub returns-clause-hands : goal.returns-clause-hands
returns-clause-hands g c = all_firsts (hands c.args.places.now c.loop-i.pages.items) c.loop-i.i c.args.places.now c.loop-i.places (omega arith) c.loop-i.invariant.1.firsts
