use Rattle.std.proofs.Common.{Some, refl}
use Rattle.fax_line.specs.declared.asked.LineAnswer.TheVariants as answered
use Rattle.fax_line.specs.declared.asked.LineRequest.TheVariants as asked
use Rattle.fax_line.proofs.Goings.{goes_quiet}
use Rattle.fax_line.proofs.line.Line.take_peer.Goals as goal

pub returns-in-Ok-clause-goes : goal.returns-in-Ok-clause-goes
returns-in-Ok-clause-goes g c =
    goes_quiet c.args.now (asked.Peer c.args.peering) (Some answered.Done) c.args.self.now c.set_peer.new.self c.set_peer.ensures.tells (λ setup writes trace. refl)

pub returns-in-Err-clause-goes : goal.returns-in-Err-clause-goes
returns-in-Err-clause-goes g c =
    goes_quiet c.args.now (asked.Peer c.args.peering) (Some answered.NoRoute) c.args.self.now c.set_peer.new.self c.set_peer.ensures.tells (λ setup writes trace. refl)
