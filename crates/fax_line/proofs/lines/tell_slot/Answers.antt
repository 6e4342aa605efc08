use Rattle.std.proofs.Common.{◌+◌, ◌*◌, [], List, slice_index_or, refl, sym, subst, arith}
use Rattle.std.proofs.lemmas.List.{get_or_default}
use Rattle.fax_line.specs.Operations.{EachGoes}
use Rattle.fax_line.specs.Places.{GoesInPlace, PlaceValue}
use Rattle.fax_line.proofs.Slots.{Rounds, alike, alike_awake, alike_passes, alike_round, all_rounds, no_rounds, off_round}
use Rattle.fax_line.proofs.Stepping.{each_none, told_on}
use Rattle.fax_line.proofs.Turning.{stays_if, stays_on, stays_passes}
use Rattle.fax_line.proofs.lines.tell_slot.Goals as goal
use Rattle.fax_line.proofs.lines.tell_slot.Goals.{then-i-places, else-i-places}

pub loop-round-init : goal.loop-round-init
loop-round-init g c = (each_none c.args.places.now, no_rounds (stays_if c.args.slot) c.args.places.now, no_rounds alike c.args.places.now)

pub loop-round-preserved : goal.loop-round-preserved
loop-round-preserved g c =
    let slot = c.args.slot in
    let olds = c.args.places.now in
    let places = c.loop-round.places in
    let round = c.loop-round.round in
    let at = round * 40 + slot in
    let before = c.loop-round.invariant in
    elim c.if-i-places.branch [
      | then-i-places w ↦ subst (λ (l : List PlaceValue). EachGoes (λ i. []) olds l × Rounds (stays_if slot) (round + 1) olds l × Rounds alike (round + 1) olds l) (sym w.places-is) (
        told_on at olds places w.tell_time.new.self w.if-i-places.true
            (λ d. subst (λ (l : PlaceValue). GoesInPlace [] l w.tell_time.new.self) (get_or_default places at w.index-places-i.result d w.if-i-places.true) w.tell_time.ensures.goes) before.0,
        stays_on slot round at olds places (slice_index_or places at w.index-places-i.result) w.tell_time.new.self refl c.requires w.if-i-places.true
            (λ d. get_or_default places at w.index-places-i.result d w.if-i-places.true) before.1 w.tell_time.ensures.stays w.tell_time.ensures.waits,
        alike_round slot round at olds places (slice_index_or places at w.index-places-i.result) w.tell_time.new.self refl c.requires w.if-i-places.true
            (λ d. get_or_default places at w.index-places-i.result d w.if-i-places.true) (w.tell_time.ensures.waits.0, w.tell_time.ensures.awake) before.2,
      )
      | else-i-places w ↦ subst (λ (l : List PlaceValue). EachGoes (λ i. []) olds l × Rounds (stays_if slot) (round + 1) olds l × Rounds alike (round + 1) olds l) (sym w.places-is)
          (before.0, off_round (stays_if slot) slot round at olds places refl w.if-i-places.false (stays_passes slot round) before.1, off_round alike slot round at olds places refl w.if-i-places.false (alike_passes slot round) before.2)
    ]

pub returns-clause-others : goal.returns-clause-others
returns-clause-others g c = all_rounds (stays_if c.args.slot) c.loop-round.round c.args.places.now c.loop-round.places (omega arith) c.loop-round.invariant.1

pub returns-clause-awake : goal.returns-clause-awake
returns-clause-awake g c =
    alike_awake c.args.places.now c.loop-round.places (all_rounds alike c.loop-round.round c.args.places.now c.loop-round.places (omega arith) c.loop-round.invariant.2)
