use Rattle.std.proofs.Common.{Some, refl}
use Rattle.fax_line.specs.declared.asked.LineAnswer.TheVariants as answered
use Rattle.fax_line.specs.declared.asked.LineRequest.TheVariants as asked
use Rattle.fax_line.proofs.Goings.{goes_quiet}
use Rattle.fax_line.proofs.line.Line.hear_gone.Goals as goal

pub returns-clause-goes : goal.returns-clause-goes
returns-clause-goes g c =
    goes_quiet c.args.now (asked.HangUp c.args.hanging_up) (Some answered.Done) c.args.self.now c.hang_up.new.self c.hang_up.ensures.tells (λ setup writes trace. refl)
