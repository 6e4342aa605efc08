use Rattle.fax_queue.specs.Queues.{name_in}
use Rattle.fax_queue.proofs.ReadBack.{among_here, among_later}
use Rattle.fax_queue.proofs.reading.is_found.Goals as goal

pub loop-other-preserved : goal.loop-other-preserved
loop-other-preserved c = λ later. c.loop-other.invariant (among_later (name_in c.args.line.now c.args.page.now) _ c.in-Some.after.now c.in-Some.other.now c.in-Some.ensures.cases.0 later)

pub returns-then-is_page : goal.returns-then-is_page
returns-then-is_page c = λ yes. c.loop-other.invariant (among_here (name_in c.args.line.now c.args.page.now) _ c.in-Some.after.now c.in-Some.other.now c.in-Some.ensures.cases.0 (c.is_page.ensures c.if-is_page.true))
