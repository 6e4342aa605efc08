use Rattle.std.proofs.Common.{get_or}
use Rattle.std.proofs.lemmas.Option.{slice_get-get_or}
use Rattle.fax_redial.proofs.Redialling.{asks_at}
use Rattle.fax_redial.proofs.words.ask_at.Goals as goal

pub returns : goal.returns
returns g c =
    asks_at c.args.now c.args.what c.ask_one.result c.args.tries.now c.args.i (get_or c.args.tries.now c.args.i c.index-tries-i.result) c.ask_one.new.held
    (slice_get-get_or c.args.tries.now c.args.i c.index-tries-i.result c.if-i-tries.false) c.ask_one.ensures
