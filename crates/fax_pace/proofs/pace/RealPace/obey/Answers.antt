use Rattle.std.proofs.Common.{Some, sym}
use Rattle.fax_desk.specs.declared.next.Next.TheVariants as next
use Rattle.fax_runs.proofs.Passings.{said_given}
use Rattle.fax_pace.proofs.pace.RealPace.obey.Goals as goal

pub returns-in-Orders : goal.returns-in-Orders
returns-in-Orders g c = said_given c.args.asker (next.Orders c.in-Orders.order) (Some c.ask.result) c.args.self.now _ c.in-Orders.ensures.waits (sym c.ask.ensures)
