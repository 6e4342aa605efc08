use Rattle.std.proofs.Common.{Some, sym}
use Rattle.fax_runs.proofs.Passings.{lapsed_given}
use Rattle.fax_pace.proofs.pace.RealPace.look_at_question.Goals as goal

pub returns-in-Orders : goal.returns-in-Orders
returns-in-Orders g c = lapsed_given c.in-Orders.order (Some c.ask.result) c.args.self.now _ c.in-Orders.ensures.waits (sym c.ask.ensures)
