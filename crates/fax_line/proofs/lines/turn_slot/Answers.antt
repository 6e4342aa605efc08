use Rattle.std.proofs.Common.{◌+◌, ◌*◌, slice_index_or, List, refl, sym, subst, arith}
use Rattle.std.proofs.lemmas.List.{get_or_default}
use Rattle.fax_line.specs.Operations.{EachComes, visits_at}
use Rattle.fax_line.specs.Places.{IsAwakeAfter, PlaceValue, TellsVisit, WaitsStill, actions_by}
use Rattle.fax_line.proofs.Slots.{Rounds, all_rounds, no_rounds, off_round}
use Rattle.fax_line.proofs.Stepping.{comes_of, goes_of}
use Rattle.fax_line.proofs.Turning.{visits_if, visits_on, visits_passes}
use Rattle.fax_line.proofs.lines.turn_slot.Goals as goal
use Rattle.fax_line.proofs.lines.turn_slot.Goals.{then-i-places, else-i-places}

pub loop-round-init : goal.loop-round-init
loop-round-init g c = no_rounds (visits_if c.args.slot c.args.now c.args.places.now) c.args.places.now

pub loop-round-preserved : goal.loop-round-preserved
loop-round-preserved g c =
    let now = c.args.now in
    let slot = c.args.slot in
    let olds = c.args.places.now in
    let places = c.loop-round.places in
    let round = c.loop-round.round in
    let at = round * 40 + slot in
    elim c.if-i-places.branch [
      | then-i-places w ↦
          let old = slice_index_or places at w.index-places-i.result in
          let new = w.visit.new.self in
          subst (λ (l : List PlaceValue). Rounds (visits_if slot now olds) (round + 1) olds l) (sym w.places-is)
          (visits_on slot round at now olds places old new refl c.requires w.if-i-places.true (λ d. get_or_default places at w.index-places-i.result d w.if-i-places.true) c.loop-round.invariant
          (record { goes = w.visit.ensures.goes; tells = w.visit.ensures.tells; waits = w.visit.ensures.waits; awake = w.visit.ensures.awake }))
      | else-i-places w ↦
          subst (λ (l : List PlaceValue). Rounds (visits_if slot now olds) (round + 1) olds l) (sym w.places-is)
          (off_round (visits_if slot now olds) slot round at olds places refl w.if-i-places.false (visits_passes slot round now olds) c.loop-round.invariant)
    ]

pub returns-clause-goes : goal.returns-clause-goes
returns-clause-goes g c =
    let olds = c.args.places.now in
    let all : EachComes (visits_if c.args.slot c.args.now olds) olds c.loop-round.places =
    all_rounds (visits_if c.args.slot c.args.now olds) c.loop-round.round olds c.loop-round.places (omega arith) c.loop-round.invariant in
    goes_of (λ i. actions_by (visits_at c.args.slot c.args.now olds i)) (visits_if c.args.slot c.args.now olds) olds c.loop-round.places (λ i old new is. is.goes) all

pub returns-clause-tells : goal.returns-clause-tells
returns-clause-tells g c =
    let olds = c.args.places.now in
    let all : EachComes (visits_if c.args.slot c.args.now olds) olds c.loop-round.places =
    all_rounds (visits_if c.args.slot c.args.now olds) c.loop-round.round olds c.loop-round.places (omega arith) c.loop-round.invariant in
    comes_of (visits_if c.args.slot c.args.now olds) (λ i. TellsVisit (visits_at c.args.slot c.args.now olds i)) olds c.loop-round.places (λ i old new is. is.tells) all

pub returns-clause-waits : goal.returns-clause-waits
returns-clause-waits g c =
    let olds = c.args.places.now in
    let all : EachComes (visits_if c.args.slot c.args.now olds) olds c.loop-round.places =
    all_rounds (visits_if c.args.slot c.args.now olds) c.loop-round.round olds c.loop-round.places (omega arith) c.loop-round.invariant in
    comes_of (visits_if c.args.slot c.args.now olds) (λ i. WaitsStill) olds c.loop-round.places (λ i old new is. is.waits) all

pub returns-clause-awake : goal.returns-clause-awake
returns-clause-awake g c =
    let olds = c.args.places.now in
    let all : EachComes (visits_if c.args.slot c.args.now olds) olds c.loop-round.places =
    all_rounds (visits_if c.args.slot c.args.now olds) c.loop-round.round olds c.loop-round.places (omega arith) c.loop-round.invariant in
    comes_of (visits_if c.args.slot c.args.now olds) (λ i. IsAwakeAfter (actions_by (visits_at c.args.slot c.args.now olds i))) olds c.loop-round.places (λ i old new is. is.awake) all
