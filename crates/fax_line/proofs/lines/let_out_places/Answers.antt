use Rattle.std.proofs.Common.{◌≡◌, ◌+◌, ◌*◌, ◌∙◌, [], List, refl, slice_index_or, sym, ap, subst, arith}
use Rattle.std.proofs.lemmas.List.{get_or_default}
use Rattle.fax_line.specs.Operations.{EachGoes}
use Rattle.fax_line.specs.Places.{GoesInPlace, PlaceValue}
use Rattle.fax_line.proofs.Slots.{Rounds, alike, alike_awake, alike_round, alike_still, alike_waits, all_rounds, no_rounds, off_round, out_if, out_off, out_on, out_passes}
use Rattle.fax_line.proofs.Stepping.{each_none, told_on}
use Rattle.fax_line.proofs.lines.let_out_places.Goals as goal
use Rattle.fax_line.proofs.lines.let_out_places.Goals.{then-i-places+then-has_turned, else-i-places, else-i-places-via-then-i-places+else-has_turned, else-i-places-via-else-i-places}

pub loop-round-init : goal.loop-round-init
loop-round-init g c = (each_none c.args.places.now, no_rounds (out_if c.args.slot) c.args.places.now, no_rounds alike c.args.places.now)

pub loop-round-preserved : goal.loop-round-preserved
loop-round-preserved g c =
    let slot = c.args.slot in
    let olds = c.args.places.now in
    let places = c.loop-round.places in
    let round = c.loop-round.round in
    let at = round * 40 + slot in
    let before = c.loop-round.invariant in
    elim c.if-i-places.branch [
      | then-i-places+then-has_turned w ↦
          let old = slice_index_or places at w.index-places-i-then-has_turned.result in
          let new = w.let_out.new.self in
          let is_old : (d : PlaceValue) → old ≡ slice_index_or places at d = λ d. get_or_default places at w.index-places-i-then-has_turned.result d w.if-i-places.true in
          subst (λ (l : List PlaceValue). EachGoes (λ i. []) olds l × Rounds (out_if slot) (round + 1) olds l × Rounds alike (round + 1) olds l) (sym w.places-is) (
            told_on at olds places new w.if-i-places.true (λ d. subst (λ (l : PlaceValue). GoesInPlace [] l new) (is_old d) w.let_out.ensures.goes) before.0,
            out_on slot round at olds places old new refl c.requires w.if-i-places.true is_old before.1 (ap (λ (p : PlaceValue). p.turned) (is_old w.index-places-i.result) ∙ (sym w.has_turned.ensures ∙ w.if-has_turned.true)) (w.let_out.ensures.ends, w.let_out.ensures.turned),
            alike_round slot round at olds places old new refl c.requires w.if-i-places.true is_old (w.let_out.ensures.waits, w.let_out.ensures.awake) before.2,
          )
      | else-i-places w ↦
          subst (λ (l : List PlaceValue). EachGoes (λ i. []) olds l × Rounds (out_if slot) (round + 1) olds l × Rounds alike (round + 1) olds l) (sym w.places-is) (
            before.0,
            elim w.else-i-places.branch [
              | else-i-places-via-then-i-places+else-has_turned v ↦
                  let old = slice_index_or places at v.index-places-i.result in
                  out_off slot round at olds places old refl (λ d. get_or_default places at v.index-places-i.result d v.if-i-places.true) before.1 (sym v.has_turned.ensures ∙ v.if-has_turned.false)
              | else-i-places-via-else-i-places v ↦ off_round (out_if slot) slot round at olds places refl v.if-i-places.false (out_passes slot round) before.1
            ],
            alike_still slot round at olds places refl before.2,
          )
    ]

pub returns-clause-ends : goal.returns-clause-ends
returns-clause-ends g c = all_rounds (out_if c.args.slot) c.loop-round.round c.args.places.now c.loop-round.places (omega arith) c.loop-round.invariant.1

pub returns-clause-waits : goal.returns-clause-waits
returns-clause-waits g c =
    alike_waits c.args.places.now c.loop-round.places (all_rounds alike c.loop-round.round c.args.places.now c.loop-round.places (omega arith) c.loop-round.invariant.2)

pub returns-clause-awake : goal.returns-clause-awake
returns-clause-awake g c =
    alike_awake c.args.places.now c.loop-round.places (all_rounds alike c.loop-round.round c.args.places.now c.loop-round.places (omega arith) c.loop-round.invariant.2)
