use Rattle.std.proofs.Common.{[], ◌∷◌, Some}
use Rattle.fax_line.specs.declared.asked.LineAnswer.TheVariants as answered
use Rattle.fax_line.specs.declared.asked.LineRequest.TheVariants as asked
use Rattle.fax_line.specs.Actions.{Asks}
use Rattle.fax_line.proofs.Goings.{goes_more, goes_peers}
use Rattle.fax_line.proofs.line.Line.connect.Goals as goal

pub returns-in-Ok-clause-goes : goal.returns-in-Ok-clause-goes
returns-in-Ok-clause-goes g c =
    goes_more [] (Asks c.args.now (asked.Connect c.args.connecting) (Some (answered.Placed c.place_to_peer.result)) ∷ []) c.args.self.now c.set_peer.new.self c.place_to_peer.new.self
    (goes_peers c.args.self.now c.set_peer.new.self c.set_peer.ensures.tells) (c.place_to_peer.ensures.goes c.args.connecting)
