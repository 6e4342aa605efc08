use Rattle.std.proofs.Common.{◌≡◌, [], slice_index_or, subst, arith, ◌<◌, length}
use Rattle.std.proofs.lemmas.List.{get_or_default}
use Rattle.fax_line.specs.Places.{GoesInPlace, PlaceValue}
use Rattle.fax_line.proofs.Slots.{all_firsts, freed, freed_on, no_firsts}
use Rattle.fax_line.proofs.Stepping.{each_none, told_on}
use Rattle.fax_line.proofs.lines.free_places.Goals as goal

pub loop-i-init : goal.loop-i-init
loop-i-init g c = (each_none c.args.places.now, no_firsts freed c.args.places.now)

pub loop-i-preserved : goal.loop-i-preserved
loop-i-preserved g c =
    let olds = c.args.places.now in
    let places = c.loop-i.places in
    let at = c.loop-i.i in
    let inside : at < length places = omega (arith, c.loop-i-test.true, c.loop-i.invariant.1.as_many) in
    let old = slice_index_or places at c.index-places-i.result in
    let new = c.free.new.self in
    let is_old : (d : PlaceValue) → old ≡ slice_index_or places at d = λ d. get_or_default places at c.index-places-i.result d inside in (
      told_on at olds places new inside (λ d. subst (λ (l : PlaceValue). GoesInPlace [] l new) (is_old d) c.free.ensures.goes) c.loop-i.invariant.0,
      freed_on at olds places old new inside is_old c.free.ensures.frees c.loop-i.invariant.1,
    )

pub returns-clause-frees : goal.returns-clause-frees
returns-clause-frees g c = all_firsts freed c.loop-i.i c.args.places.now c.loop-i.places (omega arith) c.loop-i.invariant.1
