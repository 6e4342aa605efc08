use Rattle.std.proofs.Common.{[], ◌++◌}
use Rattle.fax_line.specs.Operations.{visits_at}
use Rattle.fax_line.specs.Places.{actions_by}
use Rattle.fax_line.proofs.Stepping.{actions_nil, each_more, each_with}
use Rattle.fax_line.proofs.Turning.{awake_still, tells_still, waits_still}
use Rattle.fax_line.proofs.lines.serve_slot.Goals as goal
use Rattle.std.proofs.Common.{sym}

pub returns-clause-went : goal.returns-clause-went
returns-clause-went g c =
    let visits = visits_at c.args.slot c.args.now c.args.places.now in
    each_with (λ i. actions_by (visits i)) (λ i. actions_by (visits i) ++ []) c.args.places.now c.tell_slot.new.places (λ i lt. sym (actions_nil (actions_by (visits i))))
    (each_more (λ i. actions_by (visits i)) (λ i. []) c.args.places.now c.turn_slot.new.places c.tell_slot.new.places c.turn_slot.ensures.goes c.tell_slot.ensures.goes)

pub returns-clause-tells : goal.returns-clause-tells
returns-clause-tells g c =
    tells_still c.args.slot c.slot_across.result c.args.now c.args.places.now c.args.places.now c.turn_slot.new.places c.tell_slot.new.places
    c.slot_across.ensures.other c.turn_slot.ensures.tells c.tell_slot.ensures.others

pub returns-clause-waits : goal.returns-clause-waits
returns-clause-waits g c =
    waits_still c.slot_across.result c.args.places.now c.turn_slot.new.places c.tell_slot.new.places c.turn_slot.ensures.waits c.tell_slot.ensures.others

pub returns-clause-awake : goal.returns-clause-awake
returns-clause-awake g c =
    awake_still (visits_at c.args.slot c.args.now c.args.places.now) c.args.places.now c.turn_slot.new.places c.tell_slot.new.places c.turn_slot.ensures.awake c.tell_slot.ensures.awake
