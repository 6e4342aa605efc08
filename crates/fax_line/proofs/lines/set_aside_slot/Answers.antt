use Rattle.std.proofs.Common.{◌≡◌, ◌+◌, ◌*◌, [], List, refl, slice_index_or, sym, subst, arith}
use Rattle.std.proofs.lemmas.List.{get_or_default}
use Rattle.fax_line.specs.Operations.{EachGoes}
use Rattle.fax_line.specs.Places.{GoesInPlace, PlaceValue}
use Rattle.fax_line.proofs.Slots.{Rounds, all_rounds, aside_if, aside_on, aside_passes, no_rounds, off_round}
use Rattle.fax_line.proofs.Stepping.{each_none, told_on}
use Rattle.fax_line.proofs.lines.set_aside_slot.Goals as goal
use Rattle.fax_line.proofs.lines.set_aside_slot.Goals.{then-i-places, else-i-places}

pub loop-round-init : goal.loop-round-init
loop-round-init g c = (each_none c.args.places.now, no_rounds (aside_if c.args.slot) c.args.places.now)

pub loop-round-preserved : goal.loop-round-preserved
loop-round-preserved g c =
    let slot = c.args.slot in
    let olds = c.args.places.now in
    let places = c.loop-round.places in
    let round = c.loop-round.round in
    let at = round * 40 + slot in
    let before = c.loop-round.invariant in
    elim c.if-i-places.branch [
      | then-i-places w ↦
          let old = slice_index_or places at w.index-places-i.result in
          let new = w.set_aside.new.self in
          let is_old : (d : PlaceValue) → old ≡ slice_index_or places at d = λ d. get_or_default places at w.index-places-i.result d w.if-i-places.true in
          subst (λ (l : List PlaceValue). EachGoes (λ i. []) olds l × Rounds (aside_if slot) (round + 1) olds l) (sym w.places-is) (
            told_on at olds places new w.if-i-places.true (λ d. subst (λ (l : PlaceValue). GoesInPlace [] l new) (is_old d) w.set_aside.ensures.goes) before.0,
            aside_on slot round at olds places old new refl c.requires w.if-i-places.true is_old before.1 w.set_aside.ensures.aside,
          )
      | else-i-places w ↦
          subst (λ (l : List PlaceValue). EachGoes (λ i. []) olds l × Rounds (aside_if slot) (round + 1) olds l) (sym w.places-is)
          (before.0, off_round (aside_if slot) slot round at olds places refl w.if-i-places.false (aside_passes slot round) before.1)
    ]

pub returns-clause-aside : goal.returns-clause-aside
returns-clause-aside g c = all_rounds (aside_if c.args.slot) c.loop-round.round c.args.places.now c.loop-round.places (omega arith) c.loop-round.invariant.1
