use Rattle.std.proofs.Common.{◌∙◌, get_or}
use Rattle.std.proofs.lemmas.Option.{slice_get-get_or}
use Rattle.fax_redial.proofs.Redialling.{told_at, turns_at}
use Rattle.fax_redial.proofs.redials.turn_at.Goals as goal

pub returns-clause-turns : goal.returns-clause-turns
returns-clause-turns g c =
    turns_at c.args.now c.args.cause c.args.tries.now c.args.i (get_or c.args.tries.now c.args.i c.index-tries-i.result) c.turn_one.new.held
    (slice_get-get_or c.args.tries.now c.args.i c.index-tries-i.result c.if-i-tries.false) c.turn_one.ensures.turns

pub returns-clause-told : goal.returns-clause-told
returns-clause-told g c =
    c.turn_one.ensures.told ∙ told_at c.args.tries.now c.args.i (get_or c.args.tries.now c.args.i c.index-tries-i.result) c.turn_one.new.held
    (slice_get-get_or c.args.tries.now c.args.i c.index-tries-i.result c.if-i-tries.false)
